-- The binary search: what stands below `lo` is at or below c, what stands from `hi` on above it, as far as the search has looked.
-- Assumes nothing.
use Prim.Native.Nat.{ℕ, zero, suc, ◌≤◌, ◌<◌, zero-le, suc-le-suc}
use native.Mathlib.Nat.{not-suc-le-zero, le_of_suc-le-suc}
use native.Mathlib.Omega.{arith}
use mathlib.Core.Path.{◌≡◌, sym, ◌∙◌, subst}
use mathlib.Core.List.{List, [], ◌∷◌}
use lib.Dec.{T, leb}
use lib.ListN.{length, get_or}
use mir.Facts.{and_yes, eqb_yes}
use Rattle.paper.specs.CharDef.Reading.{Reading}
use Rattle.paper.specs.Rows.Covering.{boundaries, categories_at, rows}
use Rattle.paper.specs.Rows.Flat.{RowFound}
use Rattle.paper.specs.Rows.Lookup.{from_zero}
use Rattle.paper.proofs.Rows.Rising.{rising_from}
use Rattle.paper.proofs.Rows.Search.{found_one, found_row_lem, from_zero_lem, rising_at}
use Rattle.find_row.specs.Sought.{RowSought, found, none_below}

-- ---- the loop

pub record Search (bs : List ℕ) (c lo hi : ℕ) : Type 0 where
  pub ordered : lo ≤ hi
  pub inside : hi ≤ length bs
  pub apart : 0 < length bs → lo < hi
  pub low : 0 < lo → get_or bs lo 0 ≤ c
  pub high : hi < length bs → c < get_or bs hi 0

-- ---- what the answer says

-- among boundaries from 0 a row is found
pub sought_found : (bs : List ℕ) (c i : ℕ) → T (from_zero bs) → RowSought bs c i → RowFound bs c i
sought_found bs c i z (found f) = f
sought_found [] c i z (none_below e h) = absurd z
sought_found (b ∷ bs) c i z (none_below e h) = absurd (never (eqb_yes z) (h (suc-le-suc zero-le)))
  where
    never : b ≡ 0 → c < b → ⊥
    never p q = omega arith

not_found : (low c i : ℕ) (bs : List ℕ) → T (rising_from low bs) → RowFound bs c i → (0 < length bs → c < get_or bs 0 0) → ⊥
not_found low c i [] t f h = not-suc-le-zero f.inside
not_found low c zero (b ∷ bs) t f h =
    let k : c < b = h (suc-le-suc zero-le) in
    let l : b ≤ c = f.up_to in
    omega arith
not_found low c (suc i) (b ∷ bs) t f h =
    let k : c < b = h (suc-le-suc zero-le) in
    let l : get_or bs i 0 ≤ c = f.up_to in
    let m : suc b ≤ get_or bs i 0 = rising_at (suc b) bs i (and_yes (leb low b) (rising_from (suc b) bs) t).1 (le_of_suc-le-suc f.inside) in
    omega arith

-- among a reading's it is the row that the covering rule fills
pub sought_row : (r : Reading) (c i : ℕ) → RowSought (boundaries r) c i → get_or (rows r) i [] ≡ categories_at r c
sought_row r c i s = found_row_lem r c i (sought_found (boundaries r) c i (subst (λ bs. T (from_zero bs)) (sym (from_zero_lem r).1) tt) s)

-- among boundaries that rise, from wherever, there is one answer
pub sought_one : (low c i j : ℕ) (bs : List ℕ) → T (rising_from low bs) → RowSought bs c i → RowSought bs c j → i ≡ j
sought_one low c i j bs t (found f) (found g) = found_one low c i j bs t f g
sought_one low c i j bs t (none_below e h) (none_below f k) = e ∙ sym f
sought_one low c i j bs t (found f) (none_below e h) = absurd (not_found low c i bs t f h)
sought_one low c i j bs t (none_below e h) (found f) = absurd (not_found low c j bs t f h)
