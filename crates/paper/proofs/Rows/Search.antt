-- The row of the last boundary at or below a number is the covering rule there, at every number. Idea: among ascending boundaries from 0
-- just one row is found, its boundary lies at or below the number, and none lies between.
-- Assumes nothing.
use Prim.Native.Nat.{ℕ, zero, suc, ◌+◌, ◌-◌, ◌<◌, ◌≤◌, zero-le, suc-le-suc}
use native.Mathlib.Nat.{le_refl, le_of_suc-le-suc, not-suc-le-zero}
use native.Mathlib.Omega.{arith}
use mathlib.Core.Path.{◌≡◌, refl, sym, ap, ◌∙◌, subst}
use mathlib.Core.Bool.{Bool, true, false, cond, ◌&&◌}
use mathlib.Core.List.{List, [], ◌∷◌, map}
use lib.Dec.{T, leb, ltb, eqb}
use lib.ListN.{length, get_or}
use mir.Facts.{and_yes, yes_and, not_T, leb_yes, yes_leb, ltb_yes}
use borrow.Author.Tests.{leb-true, leb-false, ltb-false, eqb-true, eqb-false, lt-leb, le-leb}
use Rattle.paper.specs.Lists.{all, select, joined}
use Rattle.paper.specs.CharDef.Reading.{Reading}
use Rattle.paper.specs.Rows.Covering.{insert, ascending, boundaries, categories_at, rows}
use Rattle.paper.specs.Rows.Flat.{RowFound, row_number, eval_row}
use Rattle.paper.proofs.Rows.Rising.{rising_from, boundaries_rise, outside, categories_stay}

-- ---- among ascending boundaries

pub found_later : (b : ℕ) {c i : ℕ} {bs : List ℕ} → RowFound bs c i → RowFound (b ∷ bs) c (suc i)
found_later b f = record { inside = suc-le-suc f.inside; up_to = f.up_to; next_above = λ h. f.next_above (le_of_suc-le-suc h) }

earlier : {b c i : ℕ} {bs : List ℕ} → RowFound (b ∷ bs) c (suc i) → RowFound bs c i
earlier f = record { inside = le_of_suc-le-suc f.inside; up_to = f.up_to; next_above = λ h. f.next_above (suc-le-suc h) }

above_none : (low c : ℕ) (bs : List ℕ) → c < low → T (rising_from low bs) → select (λ b. leb b c) bs ≡ []
above_none low c [] h t = refl
above_none low c (x ∷ bs) h t =
    let g = and_yes (leb low x) (rising_from (suc x) bs) t in
    let k : low ≤ x = leb_yes g.0 in
    let l : c < x = omega arith in
    rw (lt-leb x c l) (above_none (suc x) c bs (omega arith) g.1)

above_outside : (b low c : ℕ) (bs : List ℕ) → c < low → T (rising_from low bs) → T (all (outside b c) bs)
above_outside b low c [] h t = tt
above_outside b low c (x ∷ bs) h t =
    let g = and_yes (leb low x) (rising_from (suc x) bs) t in
    let k : low ≤ x = leb_yes g.0 in
    yes_and (outside b c x) (all (outside b c) bs) (not_T (ltb b x && leb x c) (λ u. never k (leb_yes (and_yes (ltb b x) (leb x c) u).1)))
    (above_outside b (suc x) c bs (omega arith) g.1)
  where
    never : low ≤ x → x ≤ c → ⊥
    never k l = omega arith

pub rising_at : (low : ℕ) (bs : List ℕ) (i : ℕ) → T (rising_from low bs) → i < length bs → low ≤ get_or bs i 0
rising_at low [] i t h = absurd (not-suc-le-zero h)
rising_at low (x ∷ bs) zero t h = leb_yes (and_yes (leb low x) (rising_from (suc x) bs) t).0
rising_at low (x ∷ bs) (suc i) t h =
    let g = and_yes (leb low x) (rising_from (suc x) bs) t in
    let k : low ≤ x = leb_yes g.0 in
    let l = rising_at (suc x) bs i g.1 (le_of_suc-le-suc h) in
    omega arith

-- the boundaries after the first that are at or below c lead to the row
counted : (b c : ℕ) (bs : List ℕ) → b ≤ c → T (rising_from (suc b) bs) → RowFound (b ∷ bs) c (length (select (λ x. leb x c) bs))
counted b c [] h t = record { inside = suc-le-suc zero-le; up_to = h; next_above = λ k. absurd (not-suc-le-zero (le_of_suc-le-suc k)) }
counted b c (x ∷ bs) h t = go (leb x c) refl (counted x c bs)
  where
    g : T (leb (suc b) x) × T (rising_from (suc x) bs)
    g = and_yes (leb (suc b) x) (rising_from (suc x) bs) t

    go : (z : Bool) → leb x c ≡ z → (x ≤ c → T (rising_from (suc x) bs) → RowFound (x ∷ bs) c (length (select (λ x. leb x c) bs)))
        → RowFound (b ∷ x ∷ bs) c (length (cond z (x ∷ select (λ x. leb x c) bs) (select (λ x. leb x c) bs)))
    go true e ih = found_later b (ih (leb-true x c e) g.1)
    go false e ih =
        let l : c < x = leb-false x c e in
        rw (above_none (suc x) c bs (omega arith) g.1) (record { inside = suc-le-suc zero-le; up_to = h; next_above = λ k. l })

first_alone : (b : ℕ) (bs : List ℕ) (j c low : ℕ) → T (rising_from low (b ∷ bs)) → RowFound (b ∷ bs) c zero → RowFound (b ∷ bs) c (suc j) → ⊥
first_alone b [] j c low t f g = not-suc-le-zero (le_of_suc-le-suc g.inside)
first_alone b (x ∷ bs) j c low t f g =
    let u = (and_yes (leb low b) (rising_from (suc b) (x ∷ bs)) t).1 in
    let v : T (rising_from x (x ∷ bs)) = yes_and (leb x x) (rising_from (suc x) bs) (yes_leb (le_refl x)) (and_yes (leb (suc b) x) (rising_from (suc x) bs) u).1 in
    let k : x ≤ get_or (x ∷ bs) j 0 = rising_at x (x ∷ bs) j v (le_of_suc-le-suc g.inside) in
    let l : c < x = f.next_above (suc-le-suc (suc-le-suc zero-le)) in
    let m : get_or (x ∷ bs) j 0 ≤ c = g.up_to in
    omega arith

pub found_one : (low c i j : ℕ) (bs : List ℕ) → T (rising_from low bs) → RowFound bs c i → RowFound bs c j → i ≡ j
found_one low c i j [] t f g = absurd (not-suc-le-zero f.inside)
found_one low c zero zero (b ∷ bs) t f g = refl
found_one low c (suc i) (suc j) (b ∷ bs) t f g =
    ap suc (found_one (suc b) c i j bs (and_yes (leb low b) (rising_from (suc b) bs) t).1 (earlier f) (earlier g))
found_one low c zero (suc j) (b ∷ bs) t f g = absurd (first_alone b bs j c low t f g)
found_one low c (suc i) zero (b ∷ bs) t f g = absurd (first_alone b bs i c low t g f)

found_outside : (low c i : ℕ) (bs : List ℕ) → T (rising_from low bs) → RowFound bs c i → T (all (outside (get_or bs i 0) c) bs)
found_outside low c i [] t f = tt
found_outside low c zero (b ∷ bs) t f = yes_and (outside b c b) (all (outside b c) bs) (not_T (ltb b b && leb b c) (λ u. itself (ltb_yes (and_yes (ltb b b) (leb b c) u).0))) (rest bs (and_yes (leb low b) (rising_from (suc b) bs) t).1 f.next_above)
  where
    itself : b < b → ⊥
    itself h = omega arith

    rest : (bs : List ℕ) → T (rising_from (suc b) bs) → (1 < suc (length bs) → c < get_or bs 0 0) → T (all (outside b c) bs)
    rest [] t h = tt
    rest (x ∷ bs) t h =
        above_outside b x c (x ∷ bs) (h (suc-le-suc (suc-le-suc zero-le)))
        (yes_and (leb x x) (rising_from (suc x) bs) (yes_leb (le_refl x)) (and_yes (leb (suc b) x) (rising_from (suc x) bs) t).1)
found_outside low c (suc i) (b ∷ bs) t f =
    let u = (and_yes (leb low b) (rising_from (suc b) bs) t).1 in
    let k : suc b ≤ get_or bs i 0 = rising_at (suc b) bs i u (le_of_suc-le-suc f.inside) in
    yes_and (outside (get_or bs i 0) c b) (all (outside (get_or bs i 0) c) bs)
    (not_T (ltb (get_or bs i 0) b && leb b c) (λ v. never k (ltb_yes (and_yes (ltb (get_or bs i 0) b) (leb b c) v).0)))
    (found_outside (suc b) c i bs u (earlier f))
  where
    never : suc b ≤ get_or bs i 0 → get_or bs i 0 < b → ⊥
    never k l = omega arith

-- ---- among a reading's

-- 0 is the first boundary
pub insert_zero : (l : List ℕ) → (k : List ℕ) × (insert 0 l ≡ 0 ∷ k)
insert_zero [] = ([], refl)
insert_zero (m ∷ l) = go (ltb 0 m) (eqb 0 m) refl refl
  where
    go : (x y : Bool) → ltb 0 m ≡ x → eqb 0 m ≡ y → (k : List ℕ) × (cond x (0 ∷ m ∷ l) (cond y (m ∷ l) (m ∷ insert 0 l)) ≡ 0 ∷ k)
    go true y ex ey = (m ∷ l, refl)
    go false true ex ey = (l, ap (λ n. n ∷ l) (sym (eqb-true 0 m ey)))
    go false false ex ey = absurd (neither (ltb-false 0 m ex) (eqb-false 0 m ey))
      where
        neither : m ≤ 0 → (0 ≡ m → ⊥) → ⊥
        neither a b = omega arith

pub from_zero_lem : (r : Reading) → (bs : List ℕ) × (boundaries r ≡ 0 ∷ bs)
unfolding boundaries
from_zero_lem r = insert_zero (ascending (joined (map (λ g. g.lower ∷ (g.upper + 1) ∷ []) r.ranges)))

-- a row is found at every number among boundaries that ascend from 0
pub number_found : (c : ℕ) (bs : List ℕ) → T (rising_from 0 (0 ∷ bs)) → RowFound (0 ∷ bs) c (row_number (0 ∷ bs) c)
unfolding row_number
number_found c bs t =
    rw (le-leb 0 c zero-le)
    (let n : ℕ = length (select (λ x. leb x c) bs) in
    let e : n ≡ suc n - 1 = omega arith in
    subst (RowFound (0 ∷ bs) c) e (counted 0 c bs zero-le (and_yes (leb 0 0) (rising_from 1 bs) t).1))

module _ (r : Reading) (c : ℕ) where
  pub row_found : RowFound (boundaries r) c (row_number (boundaries r) c)
  row_found = go (from_zero_lem r).0 (from_zero_lem r).1
    where
      go : (bs : List ℕ) → boundaries r ≡ 0 ∷ bs → RowFound (boundaries r) c (row_number (boundaries r) c)
      go bs e = rw e (number_found c bs (subst (λ l. T (rising_from 0 l)) e (boundaries_rise r)))

  pub row_one : (i : ℕ) → RowFound (boundaries r) c i → i ≡ row_number (boundaries r) c
  row_one i f = found_one 0 c i (row_number (boundaries r) c) (boundaries r) (boundaries_rise r) f row_found

-- ---- the covering rule

get_d_row : (f : ℕ → List ℕ) (bs : List ℕ) (i : ℕ) → i < length bs → get_or (map f bs) i [] ≡ f (get_or bs i 0)
get_d_row f [] i h = absurd (not-suc-le-zero h)
get_d_row f (b ∷ bs) zero h = refl
get_d_row f (b ∷ bs) (suc i) h = get_d_row f bs i (le_of_suc-le-suc h)

-- the row that is found is the covering rule
pub found_row_lem : (r : Reading) (c i : ℕ) → RowFound (boundaries r) c i → get_or (rows r) i [] ≡ categories_at r c
unfolding rows
found_row_lem r c i f =
    get_d_row (categories_at r) (boundaries r) i f.inside
    ∙ sym (categories_stay r (get_or (boundaries r) i 0) c f.up_to (found_outside 0 c i (boundaries r) (boundaries_rise r) f))

-- at every code point, and every other number
pub every_row : (r : Reading) (c : ℕ) → eval_row (boundaries r) (rows r) c ≡ categories_at r c
unfolding eval_row
every_row r c = found_row_lem r c (row_number (boundaries r) c) (row_found r c)
