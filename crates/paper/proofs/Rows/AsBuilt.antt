-- Lookups of categories over tables as built: at a scalar value the part that is answered holds the covering rule there, by rows and by
-- the flat table, and the packed entry addresses it; never 26. Idea: the row found is the covering rule, and its start and length stand
-- in the tables at its number.
-- Assumes nothing.
use Prim.Native.Nat.{ℕ, zero, suc, ◌+◌, ◌<◌, ◌≤◌}
use native.Mathlib.Nat.{le_of_suc-le-suc, not-suc-le-zero}
use native.Mathlib.Omega.{arith}
use mathlib.Core.Path.{◌≡◌, refl, sym, ap, ◌∙◌, subst}
use mathlib.Core.Bool.{Bool, true, false, not, cond, ◌||◌}
use mathlib.Core.List.{List, [], ◌∷◌, map}
use mathlib.Core.Option.{some}
use lib.Dec.{T, ltb}
use lib.ListN.{length, get_or, take, drop, length-take, length-map}
use lib.Seq.{get_or-take, take-take}
use borrow.Author.Tests.{ltb-true, lt-leb, le-ltb, lt-ltb, eq-eqb}
use Rattle.paper.specs.Sizes.{bmp_size}
use Rattle.paper.specs.Lists.{empty, offsets_from}
use Rattle.paper.specs.Text.Scalar.{is_scalar, IsScalar}
use Rattle.paper.specs.CharDef.Reading.{Reading}
use Rattle.paper.specs.Rows.Covering.{boundaries, categories_at, rows}
use Rattle.paper.specs.Rows.Flat.{RowFound, entry_offset, entry_length, offset_of, flat_entry, entry_part, short_rows, flat_pool}
use Rattle.paper.specs.Rows.Lookup.{Looked, gives, LookupTables, Part, content, uses_flat, flat_part, row_part, index_odd, from_zero, row_missing, past_pool, apart, Looks, packed_at, StartsWith, RowsLeft, FlatLeft, AsBuilt, without_flat, with_flat, GivesPart}
use Rattle.paper.proofs.Lists.Facts.{T→true, true→T, or_true, and_false, joined_length, offsets_length}
use Rattle.paper.proofs.Lists.Parts.{take_part}
use Rattle.paper.proofs.Rows.Boundaries.{row_for_each}
use Rattle.paper.proofs.Rows.Search.{from_zero_lem, found_row_lem}
use Rattle.paper.proofs.Rows.Flat.{part_of, part_inside, flat_part_lem, flat_inside, index_length, index_at}
use Rattle.paper.proofs.Rows.Build.{overlong_is}
use Rattle.paper.proofs.Rows.Lookup.{answered}

-- ---- tables with more behind them

begins_at : (l x : List ℕ) (i : ℕ) → StartsWith l x → i < length x → get_or l i 0 ≡ get_or x i 0
begins_at l x i e h = sym (get_or-take (length x) l i 0 h) ∙ ap (λ k. get_or k i 0) e

begins_length : (l x : List ℕ) → StartsWith l x → length x ≤ length l
begins_length l x e = omega (arith, length-take (length x) l, ap length e)

begins_part : (l x : List ℕ) (s n : ℕ) → StartsWith l x → s + n ≤ length x → take n (drop s l) ≡ take n (drop s x)
begins_part l x s n e h =
    take_part s n l ∙ ap (drop s) (sym (take-take (s + n) (length x) l h) ∙ ap (take (s + n)) e) ∙ sym (take_part s n x)

offsets_at : (at : ℕ) (ws : List (List ℕ)) (i : ℕ) → i < length ws → get_or (offsets_from at ws) i 0 ≡ at + offset_of ws i
unfolding offset_of
offsets_at at [] i h = absurd (not-suc-le-zero h)
offsets_at at (w ∷ ws) zero h = omega arith
offsets_at at (w ∷ ws) (suc i) h = let k = offsets_at (at + length w) ws i (le_of_suc-le-suc h) in omega arith

lengths_at : (ws : List (List ℕ)) (i : ℕ) → i < length ws → get_or (map length ws) i 0 ≡ length (get_or ws i [])
lengths_at [] i h = absurd (not-suc-le-zero h)
lengths_at (w ∷ ws) zero h = refl
lengths_at (w ∷ ws) (suc i) h = lengths_at ws i (le_of_suc-le-suc h)

module _ (r : Reading) (t : LookupTables) (left : RowsLeft r t) where
  begins_zero : from_zero t.boundaries ≡ true
  begins_zero = ap from_zero (left.boundaries_are ∙ (from_zero_lem r).1) ∙ refl

  module _ (c i : ℕ) (f : RowFound t.boundaries c i) where
    found_here : RowFound (boundaries r) c i
    found_here = subst (λ bs. RowFound bs c i) left.boundaries_are f

    i_inside : i < length (rows r)
    i_inside = rw row_for_each found_here.inside

    start_is : get_or t.starts i 0 ≡ offset_of (rows r) i
    start_is =
        let h : i < length (offsets_from 0 (rows r)) = rw (offsets_length 0 (rows r)) i_inside in
        let e : 0 + offset_of (rows r) i ≡ offset_of (rows r) i = omega arith in
        begins_at t.starts (offsets_from 0 (rows r)) i left.starts_are h ∙ offsets_at 0 (rows r) i i_inside ∙ e

    len_is : get_or t.lengths i 0 ≡ length (get_or (rows r) i [])
    len_is =
        let h : i < length (map length (rows r)) = rw (length-map (rows r) length) i_inside in
        begins_at t.lengths (map length (rows r)) i left.lengths_are h ∙ lengths_at (rows r) i i_inside

    there : row_missing t i ≡ false
    unfolding row_missing
    there =
        let a : i < length t.starts = omega (arith, begins_length t.starts (offsets_from 0 (rows r)) left.starts_are, offsets_length 0 (rows r), i_inside) in
        let b : i < length t.lengths = omega (arith, begins_length t.lengths (map length (rows r)) left.lengths_are, length-map (rows r) length, i_inside) in
        rw (lt-leb (length t.starts) i a, lt-leb (length t.lengths) i b)

    in_pool_lem : offset_of (rows r) i + length (get_or (rows r) i []) ≤ length (flat_pool r)
    unfolding flat_pool
    in_pool_lem = rw (joined_length (rows r)) (part_inside (rows r) i i_inside)

    row_in_pool : past_pool t (row_part t i) ≡ false
    unfolding past_pool
    row_in_pool =
        rw (start_is, len_is)
        (le-ltb (length t.pool) (offset_of (rows r) i + length (get_or (rows r) i [])) (omega (arith, in_pool_lem, begins_length t.pool (flat_pool r) left.pool_is)))

    row_content : content t (row_part t i) ≡ categories_at r c
    unfolding content flat_pool
    row_content =
        rw (start_is, len_is)
        (begins_part t.pool (flat_pool r) (offset_of (rows r) i) (length (get_or (rows r) i [])) left.pool_is in_pool_lem
        ∙ part_of (rows r) i i_inside
        ∙ found_row_lem r c i found_here)

module _ (r : Reading) (t : LookupTables) (left : FlatLeft r t) (c : ℕ) (low : c < bmp_size) where
  short : T (short_rows (rows r))
  short = go (short_rows (rows r)) refl
    where
      go : (b : Bool) → short_rows (rows r) ≡ b → T (short_rows (rows r))
      go true e = true→T _ e
      go false e = absurd (subst (λ b. T (not b)) (overlong_is r ∙ ap not e) left.row_fits)

  pub entry_is : get_or t.index c 0 ≡ flat_entry r c
  entry_is = ap (λ l. get_or l c 0) left.index_is ∙ index_at r c low

  flat_in_pool : past_pool t (flat_part t c) ≡ false
  unfolding past_pool
  flat_in_pool =
      rw entry_is
      (le-ltb (length t.flat) (entry_offset (flat_entry r c) + entry_length (flat_entry r c))
      (omega (arith, flat_inside r c short, begins_length t.flat (flat_pool r) left.pool_is)))

  flat_content : content t (flat_part t c) ≡ categories_at r c
  unfolding content entry_part
  flat_content =
      rw entry_is
      (begins_part t.flat (flat_pool r) (entry_offset (flat_entry r c)) (entry_length (flat_entry r c)) left.pool_is (flat_inside r c short)
      ∙ flat_part_lem r c short)

-- ---- the answer

rows_together : (o u q f m p : Bool) → o ≡ false → u ≡ false → f ≡ true → m ≡ false → p ≡ false → (o || cond u q (not f || m || p)) ≡ false
rows_together o u q f m p eo eu ef em ep = rw (eo, eu, ef, em, ep)

flat_together : (o u q x : Bool) → o ≡ false → u ≡ true → q ≡ false → (o || cond u q x) ≡ false
flat_together o u q x eo eu eq = rw (eo, eu, eq)

module _ (r : Reading) (t : LookupTables) (c : ℕ) (s : IsScalar c) where
  by_rows : (a : Looked Part) → RowsLeft r t → index_odd t ≡ false → uses_flat t c ≡ false → Looks t c a → GivesPart t (categories_at r c) a
  unfolding apart
  by_rows a left o u l =
      let z : from_zero t.boundaries ≡ true = begins_zero r t left in
      let f : RowFound t.boundaries c l.row = l.found (true→T _ z) in
      let e : apart t c l.row ≡ false =
      rows_together (index_odd t) (uses_flat t c) _ (from_zero t.boundaries) (row_missing t l.row) _ o u z (there r t left c l.row f) (row_in_pool r t left c l.row f) in
      record {
        part = row_part t l.row;
        given = l.answer ∙ answered t c l.row s e ∙ ap (λ b. gives (cond b (flat_part t c) (row_part t l.row))) u;
        holds = row_content r t left c l.row f;
      }

  by_flat_lem : (a : Looked Part) → FlatLeft r t → c < bmp_size → index_odd t ≡ false → uses_flat t c ≡ true → Looks t c a → GivesPart t (categories_at r c) a
  unfolding apart
  by_flat_lem a left low o u l =
      let e : apart t c l.row ≡ false = flat_together (index_odd t) (uses_flat t c) _ _ o u (flat_in_pool r t left c low) in
      record {
        part = flat_part t c;
        given = l.answer ∙ answered t c l.row s e ∙ ap (λ b. gives (cond b (flat_part t c) (row_part t l.row))) u;
        holds = flat_content r t left c low;
      }

-- an index that has its entries
module _ (r : Reading) (t : LookupTables) (left : FlatLeft r t) where
  entries : length t.index ≡ bmp_size
  entries = ap length left.index_is ∙ index_length r

  index_even : index_odd t ≡ false
  unfolding index_odd
  index_even = rw (eq-eqb (length t.index) bmp_size entries, or_true (empty t.index))

  index_some : empty t.index ≡ false
  index_some = go t.index (omega (arith, entries))
    where
      go : (l : List ℕ) → 0 < length l → empty l ≡ false
      go [] h = absurd (not-suc-le-zero h)
      go (x ∷ l) h = refl

  pub packed_there : (c : ℕ) → IsScalar c → c < bmp_size → packed_at t.index c ≡ gives (some (flat_entry r c))
  unfolding packed_at
  packed_there c s low =
      let h : c < length t.index = omega (arith, entries) in
      rw (T→true (is_scalar c) s, lt-ltb c bmp_size low, index_some, lt-ltb c (length t.index) h, entry_is r t left c low)

pub looked_up : (r : Reading) (t : LookupTables) (c : ℕ) (a : Looked Part) → AsBuilt r t → IsScalar c → Looks t c a → GivesPart t (categories_at r c) a
unfolding index_odd uses_flat
looked_up r t c a (without_flat left e) s l = by_rows r t c s a left (rw e) (rw e (and_false (ltb c bmp_size))) l
looked_up r t c a (with_flat left flat) s l = go (ltb c bmp_size) refl
  where
    uses : (b : Bool) → ltb c bmp_size ≡ b → uses_flat t c ≡ b
    uses true e = rw (e, index_some r t flat)
    uses false e = rw e

    go : (b : Bool) → ltb c bmp_size ≡ b → GivesPart t (categories_at r c) a
    go true e = by_flat_lem r t c s a flat (ltb-true c bmp_size e) (index_even r t flat) (uses true e) l
    go false e = by_rows r t c s a left (index_even r t flat) (uses false e) l
