-- The list `boundaries` holds exactly 0, each lower and each upper + 1, ascending without repeats; no other list does, and there are as
-- many rows. Idea: putting a number in its place adds that member and no other; two ascending lists with the same members are one.
-- Assumes nothing.
use Prim.Native.Nat.{ℕ, suc, ◌+◌, ◌≤◌, zero-le}
use native.Mathlib.Nat.{le_refl}
use native.Mathlib.Omega.{arith}
use mathlib.Core.Path.{◌≡◌, refl, sym, ap, ap₂, ◌∙◌, subst}
use mathlib.Core.Logic.{◌⊎◌, inl, inr}
use mathlib.Core.Bool.{Bool, true, false, cond, ◌||◌}
use mathlib.Core.List.{List, [], ◌∷◌, map}
use lib.Dec.{T, leb, ltb, eqb, eqb_refl, eqb→eq}
use lib.ListN.{length, length-map}
use mir.Facts.{and_yes, yes_and, or_yes, leb_yes, yes_leb}
use borrow.Author.Tests.{eqb-true}
use Rattle.paper.specs.Lists.{any, joined}
use Rattle.paper.specs.CharDef.Reading.{Range, Reading}
use Rattle.paper.specs.Rows.Covering.{is_boundary, rising, Boundaries, insert, ascending, boundaries, categories_at, rows}
use Rattle.paper.proofs.Lists.Facts.{true→T, or_left}
use Rattle.paper.proofs.Rows.Rising.{rising_from, ascending_rising, boundaries_rise}

-- ---- members

or_rotate : (x y z : Bool) → (x || (y || z)) ≡ (y || (x || z))
or_rotate true true z = refl
or_rotate true false z = refl
or_rotate false true z = refl
or_rotate false false z = refl

or_join : (x y z : Bool) → (x || (y || z)) ≡ ((x || y) || z)
or_join true y z = refl
or_join false y z = refl

or_idem : (x z : Bool) → (x || z) ≡ (x || (x || z))
or_idem true z = refl
or_idem false z = refl

insert_any : (b n : ℕ) (l : List ℕ) → any (eqb b) (insert n l) ≡ (eqb b n || any (eqb b) l)
insert_any b n [] = refl
insert_any b n (m ∷ l) = go (ltb n m) (eqb n m) refl (insert_any b n l)
  where
    go : (x y : Bool) → eqb n m ≡ y → any (eqb b) (insert n l) ≡ (eqb b n || any (eqb b) l)
        → any (eqb b) (cond x (n ∷ m ∷ l) (cond y (m ∷ l) (m ∷ insert n l))) ≡ (eqb b n || (eqb b m || any (eqb b) l))
    go true y e ih = refl
    go false true e ih = or_idem (eqb b m) (any (eqb b) l) ∙ ap (λ k. eqb b k || (eqb b m || any (eqb b) l)) (sym (eqb-true n m e))
    go false false e ih = ap (λ z. eqb b m || z) ih ∙ or_rotate (eqb b m) (eqb b n) (any (eqb b) l)

pub ascending_any : (b : ℕ) (l : List ℕ) → any (eqb b) (ascending l) ≡ any (eqb b) l
ascending_any b [] = refl
ascending_any b (n ∷ l) = insert_any b n (ascending l) ∙ ap (λ z. eqb b n || z) (ascending_any b l)

bounds_any : (b : ℕ) (gs : List Range)
    → any (eqb b) (joined (map (λ g. g.lower ∷ (g.upper + 1) ∷ []) gs)) ≡ any (λ g. eqb b g.lower || eqb b (g.upper + 1)) gs
bounds_any b [] = refl
bounds_any b (g ∷ gs) =
    ap (λ z. eqb b g.lower || (eqb b (g.upper + 1) || z)) (bounds_any b gs) ∙ or_join (eqb b g.lower) (eqb b (g.upper + 1)) _

-- ---- ascending

pub from_rising : (l : List ℕ) → T (rising l) → T (rising_from 0 l)
from_rising [] t = tt
from_rising (a ∷ l) t = yes_and (leb 0 a) (rising_from (suc a) l) (yes_leb {b = a} zero-le) (on a l t)
  where
    on : (a : ℕ) (l : List ℕ) → T (rising (a ∷ l)) → T (rising_from (suc a) l)
    on a [] t = tt
    on a (b ∷ l) t = let h = and_yes (ltb a b) (rising (b ∷ l)) t in yes_and (ltb a b) (rising_from (suc b) l) h.0 (on b l h.1)

pub to_rising : (low : ℕ) (l : List ℕ) → T (rising_from low l) → T (rising l)
to_rising low [] t = tt
to_rising low (a ∷ []) t = tt
to_rising low (a ∷ b ∷ l) t =
    let h = and_yes (leb low a) (rising_from (suc a) (b ∷ l)) t in
    yes_and (ltb a b) (rising (b ∷ l)) (and_yes (ltb a b) (rising_from (suc b) l) h.1).0 (to_rising (suc a) (b ∷ l) h.1)

pub boundaries_are : (r : Reading) → Boundaries r (boundaries r)
unfolding boundaries is_boundary
boundaries_are r =
    let l : List ℕ = 0 ∷ joined (map (λ g. g.lower ∷ (g.upper + 1) ∷ []) r.ranges) in
    record {
      members = λ b. ascending_any b l ∙ ap (λ z. eqb b 0 || z) (bounds_any b r.ranges);
      ascending = to_rising 0 (ascending l) (ascending_rising l);
    }

-- ---- one list only

member_above : (low b : ℕ) (l : List ℕ) → T (rising_from low l) → T (any (eqb b) l) → low ≤ b
member_above low b [] t m = absurd m
member_above low b (x ∷ l) t m = go (or_yes (eqb b x) (any (eqb b) l) m) (member_above (suc x) b l h.1)
  where
    h : T (leb low x) × T (rising_from (suc x) l)
    h = and_yes (leb low x) (rising_from (suc x) l) t

    go : T (eqb b x) ⊎ T (any (eqb b) l) → (T (any (eqb b) l) → suc x ≤ b) → low ≤ b
    go (inl e) ih = let q : b ≡ x = eqb→eq b x e in let k : low ≤ x = leb_yes h.0 in omega arith
    go (inr k) ih = let j = ih k in let i : low ≤ x = leb_yes h.0 in omega arith

-- what is below the rest is not among it
not_above : (x b : ℕ) (l : List ℕ) → T (rising_from (suc x) l) → b ≤ x → any (eqb b) l ≡ false
not_above x b l t h = go (any (eqb b) l) refl
  where
    never : suc x ≤ b → ⊥
    never k = omega arith

    go : (z : Bool) → any (eqb b) l ≡ z → z ≡ false
    go true e = absurd (never (member_above (suc x) b l t (true→T _ e)))
    go false e = refl

head_le : (low x y : ℕ) (l m : List ℕ) → T (rising_from low (x ∷ l)) → T (any (eqb y) (x ∷ l)) → x ≤ y
head_le low x y l m t k = member_above x y (x ∷ l) (yes_and (leb x x) (rising_from (suc x) l) (yes_leb (le_refl x)) (and_yes (leb low x) _ t).1) k

pub rising_one : (low : ℕ) (l m : List ℕ) → T (rising_from low l) → T (rising_from low m) → ((b : ℕ) → any (eqb b) l ≡ any (eqb b) m) → l ≡ m
rising_one low [] [] t u f = refl
rising_one low [] (y ∷ m) t u f = absurd (subst T (sym (f y)) (or_left (eqb y y) (any (eqb y) m) (eqb_refl y)))
rising_one low (x ∷ l) [] t u f = absurd (subst T (f x) (or_left (eqb x x) (any (eqb x) l) (eqb_refl x)))
rising_one low (x ∷ l) (y ∷ m) t u f =
    let a : x ≤ y = head_le low x y l m t (subst T (sym (f y)) (or_left (eqb y y) (any (eqb y) m) (eqb_refl y))) in
    let b : y ≤ x = head_le low y x m l u (subst T (f x) (or_left (eqb x x) (any (eqb x) l) (eqb_refl x))) in
    let e : x ≡ y = omega arith in
    let tl : T (rising_from (suc x) l) = (and_yes (leb low x) (rising_from (suc x) l) t).1 in
    let um : T (rising_from (suc x) m) = subst (λ k. T (rising_from (suc k) m)) (sym e) (and_yes (leb low y) (rising_from (suc y) m) u).1 in
    ap₂ (λ k s. k ∷ s) e (rising_one (suc x) l m tl um (tails tl um (λ c. f c ∙ ap (λ k. eqb c k || any (eqb c) m) (sym e))))
  where
    tails : T (rising_from (suc x) l) → T (rising_from (suc x) m) → ((c : ℕ) → (eqb c x || any (eqb c) l) ≡ (eqb c x || any (eqb c) m))
        → (c : ℕ) → any (eqb c) l ≡ any (eqb c) m
    tails tl um g c = go (eqb c x) refl (g c)
      where
        go : (z : Bool) → eqb c x ≡ z → (z || any (eqb c) l) ≡ (z || any (eqb c) m) → any (eqb c) l ≡ any (eqb c) m
        go true e h =
            let q : c ≡ x = eqb-true c x e in
            let k : c ≤ x = omega arith in
            not_above x c l tl k ∙ sym (not_above x c m um k)
        go false e h = h

pub boundaries_one : (r : Reading) (bs : List ℕ) → Boundaries r bs → bs ≡ boundaries r
boundaries_one r bs b =
    rising_one 0 bs (boundaries r) (from_rising bs b.ascending) (boundaries_rise r) (λ c. b.members c ∙ sym ((boundaries_are r).members c))

-- ---- a row to each

pub row_for_each : (r : Reading) → length (rows r) ≡ length (boundaries r)
unfolding rows
row_for_each r = length-map (boundaries r) (categories_at r)
