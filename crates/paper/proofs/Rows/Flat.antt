-- The flat entry of a code point names the part of the pool that holds its row, and fits 24 and 8 bits. Idea: rows stand one behind
-- another, so row i begins where the earlier ones end.
-- Assumes nothing.
use Prim.Native.Nat.{ℕ, zero, suc, ◌+◌, ◌<◌, ◌≤◌, zero-le}
use native.Mathlib.Nat.{le_of_suc-le-suc, not-suc-le-zero}
use native.Mathlib.Omega.{arith}
use mathlib.Core.Path.{◌≡◌, refl, ap, ◌∙◌}
use mathlib.Core.List.{List, [], ◌∷◌, map}
use lib.Dec.{T, leb}
use lib.ListN.{length, get_or, take, drop, length-map}
use lib.Seq.{take-append_seam, drop-append-add}
use mir.Facts.{and_yes, leb_yes}
use Rattle.paper.specs.Sizes.{max_flat_row, max_row_places, max_u32, bmp_size}
use Rattle.paper.specs.Lists.{all, joined, sum}
use Rattle.paper.specs.CharDef.Reading.{Reading, Within}
use Rattle.paper.specs.Rows.Covering.{categories_at, boundaries, rows}
use Rattle.paper.specs.Rows.Flat.{row_number, entry_of, entry_offset, entry_length, max_offset, offset_of, flat_entry, entry_part, short_rows, counting, flat_index, flat_pool}
use Rattle.paper.specs.Pack.Rules.{numbered}
use Rattle.paper.proofs.Lists.Facts.{joined_length}
use Rattle.paper.proofs.Rows.Boundaries.{row_for_each}
use Rattle.paper.proofs.Rows.Sizes.{places_fit}
use Rattle.paper.proofs.Rows.Search.{row_found, found_row_lem}

-- ---- rows one behind another

pub part_of : (ws : List (List ℕ)) (i : ℕ) → i < length ws → take (length (get_or ws i [])) (drop (offset_of ws i) (joined ws)) ≡ get_or ws i []
unfolding offset_of
part_of [] i h = absurd (not-suc-le-zero h)
part_of (w ∷ ws) zero h = take-append_seam w (joined ws)
part_of (w ∷ ws) (suc i) h = rw (drop-append-add w (joined ws) (sum (map length (take i ws)))) (part_of ws i (le_of_suc-le-suc h))

pub part_inside : (ws : List (List ℕ)) (i : ℕ) → i < length ws → offset_of ws i + length (get_or ws i []) ≤ sum (map length ws)
unfolding offset_of
part_inside [] i h = absurd (not-suc-le-zero h)
part_inside (w ∷ ws) zero h = omega arith
part_inside (w ∷ ws) (suc i) h = let k = part_inside ws i (le_of_suc-le-suc h) in omega arith

row_short : (ws : List (List ℕ)) (i : ℕ) → T (short_rows ws) → length (get_or ws i []) ≤ max_flat_row
unfolding short_rows
row_short [] i t = zero-le
row_short (w ∷ ws) zero t = leb_yes (and_yes (leb (length w) max_flat_row) (all (λ w. leb (length w) max_flat_row) ws) t).0
row_short (w ∷ ws) (suc i) t = row_short ws i (and_yes (leb (length w) max_flat_row) (all (λ w. leb (length w) max_flat_row) ws) t).1

-- ---- an entry

entry_parts : (o l : ℕ) → l ≤ max_flat_row → (entry_offset (entry_of o l) ≡ o) × (entry_length (entry_of o l) ≡ l)
entry_parts o l h = (omega arith, omega arith)

module _ (r : Reading) (c : ℕ) where
  pub row_inside : row_number (boundaries r) c < length (rows r)
  row_inside = rw row_for_each (row_found r c).inside

  -- offset and length of the row that is found
  pub flat_offset : T (short_rows (rows r)) → entry_offset (flat_entry r c) ≡ offset_of (rows r) (row_number (boundaries r) c)
  unfolding flat_entry
  flat_offset t = (entry_parts _ _ (row_short (rows r) (row_number (boundaries r) c) t)).0

  pub flat_length : T (short_rows (rows r)) → entry_length (flat_entry r c) ≡ length (get_or (rows r) (row_number (boundaries r) c) [])
  unfolding flat_entry
  flat_length t = (entry_parts (offset_of (rows r) (row_number (boundaries r) c)) _ (row_short (rows r) (row_number (boundaries r) c) t)).1

  -- the part of the pool at the entry's offset and length is the covering rule
  pub flat_part_lem : T (short_rows (rows r)) → entry_part (flat_entry r c) (flat_pool r) ≡ categories_at r c
  unfolding entry_part flat_pool
  flat_part_lem t =
      rw (flat_offset t, flat_length t) (part_of (rows r) (row_number (boundaries r) c) row_inside ∙ found_row_lem r c _ (row_found r c))

  pub flat_inside : T (short_rows (rows r)) → entry_offset (flat_entry r c) + entry_length (flat_entry r c) ≤ length (flat_pool r)
  unfolding flat_pool
  flat_inside t = rw (flat_offset t, flat_length t, joined_length (rows r)) (part_inside (rows r) (row_number (boundaries r) c) row_inside)

  -- an offset has 24 bits, an entry 32
  pub offset_fits : Within r → T (numbered r) → T (short_rows (rows r)) → entry_offset (flat_entry r c) ≤ max_offset
  offset_fits w u t =
      let b : offset_of (rows r) (row_number (boundaries r) c) + length (get_or (rows r) (row_number (boundaries r) c) []) ≤ sum (map length (rows r)) = part_inside (rows r) (row_number (boundaries r) c) row_inside in
      let d : sum (map length (rows r)) ≤ max_row_places = places_fit r w u in
      rw (flat_offset t) (omega arith)

  pub entry_fits : Within r → T (numbered r) → T (short_rows (rows r)) → flat_entry r c ≤ max_u32
  entry_fits w u t = let a = offset_fits w u t in omega arith

-- ---- the index

counting_length : (i n : ℕ) → length (counting i n) ≡ n
counting_length i zero = refl
counting_length i (suc n) = ap suc (counting_length (suc i) n)

counting_at : (f : ℕ → ℕ) (i n k : ℕ) → k < n → get_or (map f (counting i n)) k 0 ≡ f (i + k)
counting_at f i zero k h = absurd (not-suc-le-zero h)
counting_at f i (suc n) zero h = let e : i ≡ i + 0 = omega arith in ap f e
counting_at f i (suc n) (suc k) h = let e : suc i + k ≡ i + suc k = omega arith in counting_at f (suc i) n k (le_of_suc-le-suc h) ∙ ap f e

pub index_length : (r : Reading) → length (flat_index r) ≡ bmp_size
unfolding flat_index
index_length r = length-map (counting 0 bmp_size) (flat_entry r) ∙ counting_length 0 bmp_size

pub index_at : (r : Reading) (c : ℕ) → c < bmp_size → get_or (flat_index r) c 0 ≡ flat_entry r c
unfolding flat_index
index_at r c h = let e : 0 + c ≡ c = omega arith in counting_at (flat_entry r) 0 bmp_size c h ∙ ap (flat_entry r) e
