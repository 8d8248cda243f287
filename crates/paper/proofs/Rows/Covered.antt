-- What the covering rule gives at a code point: exactly the categories of the ranges that hold it, none twice, in the order of first
-- sight; with none named, DEFAULT if it is interned, else nothing. Idea: each law is one of first sights, by induction over the list.
-- Assumes nothing.
use Prim.Native.Nat.{ℕ, zero, suc}
use mathlib.Core.Path.{◌≡◌, refl, sym, ap, ◌∙◌, subst}
use mathlib.Core.Bool.{Bool, true, false, not, cond, ◌&&◌, ◌||◌}
use mathlib.Core.List.{List, [], ◌∷◌, ◌++◌, map}
use lib.Dec.{T, ltb, eqb, leb-zero, leb-suc-zero, leb-suc-suc}
use mir.Facts.{T_not}
use borrow.Author.Tests.{eqb-true}
use Rattle.paper.specs.Lists.{empty, any, select, joined, fresh_after, first_seen, position_of, same, distinct}
use Rattle.paper.specs.CharDef.Reading.{Range, Reading}
use Rattle.paper.specs.Rows.Covering.{range_holds, covers, named, defaults, or_else, categories_at, default}
use Rattle.paper.proofs.Lists.Facts.{T→true, T→false, true→T, false→T, any_append}
use Rattle.paper.proofs.Rows.Sizes.{fresh_distinct}

-- no category twice
pub no_repeats : (r : Reading) (c : ℕ) → T (distinct (categories_at r c))
unfolding categories_at named defaults
no_repeats r c = go (named r c) (fresh_distinct [] (covers r c))
  where
    alone : (b : Bool) (n : ℕ) → T (distinct (cond b (n ∷ []) []))
    alone true n = tt
    alone false n = tt

    go : (l : List ℕ) → T (distinct l) → T (distinct (or_else l (defaults r)))
    go [] d = alone (any (same default) r.names) _
    go (x ∷ l) d = d

-- first sights have the elements that the list has
fresh_any : (before l : List ℕ) (x : ℕ) → (any (eqb x) before || any (eqb x) (fresh_after eqb before l)) ≡ (any (eqb x) before || any (eqb x) l)
fresh_any before [] x = refl
fresh_any before (y ∷ l) x = go (any (eqb y) before) refl (eqb x y) refl (any (eqb x) before) refl (fresh_any (y ∷ before) l x)
  where
    F : List ℕ
    F = fresh_after eqb (y ∷ before) l

    was_there : any (eqb y) before ≡ true → eqb x y ≡ true → any (eqb x) before ≡ false → ⊥
    was_there e i k =
        let q : x ≡ y = eqb-true x y i in
        T_not (any (eqb x) before) (subst (λ z. T (any (eqb z) before)) (sym q) (true→T _ e)) (false→T _ k)

    go : (b : Bool) → any (eqb y) before ≡ b → (q : Bool) → eqb x y ≡ q → (z : Bool) → any (eqb x) before ≡ z
        → ((eqb x y || any (eqb x) before) || any (eqb x) F) ≡ ((eqb x y || any (eqb x) before) || any (eqb x) l)
        → (z || any (eqb x) (cond b F (y ∷ F))) ≡ (z || (q || any (eqb x) l))
    go b e q i true k ih = refl
    go true e true i false k ih = absurd (was_there e i k)
    go true e false i false k ih = rw (i, k) at ih
    go false e true i false k ih = rw i
    go false e false i false k ih = rw i (rw (i, k) at ih)

covers_any : (gs : List Range) (c x : ℕ) → any (eqb x) (joined (map (λ g. g.categories) (select (range_holds c) gs))) ≡ any (λ g. range_holds c g && any (eqb x) g.categories) gs
covers_any [] c x = refl
covers_any (g ∷ gs) c x = go (range_holds c g) (covers_any gs c x)
  where
    R : List Range
    R = select (range_holds c) gs

    go : (b : Bool) → any (eqb x) (joined (map (λ g. g.categories) R)) ≡ any (λ g. range_holds c g && any (eqb x) g.categories) gs
        → any (eqb x) (joined (map (λ g. g.categories) (cond b (g ∷ R) R))) ≡ ((b && any (eqb x) g.categories) || any (λ g. range_holds c g && any (eqb x) g.categories) gs)
    go true ih = any_append (eqb x) g.categories (joined (map (λ g. g.categories) R)) ∙ ap (λ b. any (eqb x) g.categories || b) ih
    go false ih = ih

-- exactly the categories of the ranges that hold c
pub exactly_covered : (r : Reading) (c x : ℕ) → any (eqb x) (named r c) ≡ any (λ g. range_holds c g && any (eqb x) g.categories) r.ranges
unfolding named
exactly_covered r c x = fresh_any [] (covers r c) x ∙ covers_any r.ranges c x

-- the order of first sight: x stands before y exactly where its first place is before y's first place
fresh_order : (before l : List ℕ) (x y : ℕ) → T (not (any (eqb x) before)) → T (not (any (eqb y) before))
    → ltb (position_of eqb x (fresh_after eqb before l)) (position_of eqb y (fresh_after eqb before l)) ≡ ltb (position_of eqb x l) (position_of eqb y l)
fresh_order before [] x y a b = refl
fresh_order before (z ∷ l) x y a b = go (any (eqb z) before) refl (eqb x z) refl (eqb y z) refl (fresh_order (z ∷ before) l x y)
  where
    F : List ℕ
    F = fresh_after eqb (z ∷ before) l

    there : (w : ℕ) → any (eqb z) before ≡ true → eqb w z ≡ true → T (not (any (eqb w) before)) → ⊥
    there w e i t = T_not (any (eqb w) before) (subst (λ k. T (any (eqb k) before)) (sym (eqb-true w z i)) (true→T _ e)) t

    go : (b : Bool) → any (eqb z) before ≡ b → (p : Bool) → eqb x z ≡ p → (q : Bool) → eqb y z ≡ q
        → (T (not (eqb x z || any (eqb x) before)) → T (not (eqb y z || any (eqb y) before)) → ltb (position_of eqb x F) (position_of eqb y F) ≡ ltb (position_of eqb x l) (position_of eqb y l))
        → ltb (position_of eqb x (cond b F (z ∷ F))) (position_of eqb y (cond b F (z ∷ F)))
        ≡ ltb (cond p zero (suc (position_of eqb x l))) (cond q zero (suc (position_of eqb y l)))
    go true e true i q j ih = absurd (there x e i a)
    go true e false i true j ih = absurd (there y e j b)
    go true e false i false j ih = ih (rw i a) (rw j b) ∙ sym (leb-suc-suc (suc (position_of eqb x l)) (position_of eqb y l))
    go false e true i true j ih = rw (i, j)
    go false e true i false j ih = rw (i, j) (lt_ltb_both (position_of eqb y F) (position_of eqb y l))
      where
        lt_ltb_both : (m n : ℕ) → ltb 0 (suc m) ≡ ltb 0 (suc n)
        lt_ltb_both m n = leb-suc-suc 0 m ∙ leb-zero m ∙ sym (leb-suc-suc 0 n ∙ leb-zero n)
    go false e false i true j ih = rw (i, j) (none_below (position_of eqb x F) (position_of eqb x l))
      where
        none_below : (m n : ℕ) → ltb (suc m) 0 ≡ ltb (suc n) 0
        none_below m n = leb-suc-zero (suc m) ∙ sym (leb-suc-zero (suc n))
    go false e false i false j ih =
        rw (i, j)
        (leb-suc-suc (suc (position_of eqb x F)) (position_of eqb y F) ∙ ih (rw i a) (rw j b) ∙ sym (leb-suc-suc (suc (position_of eqb x l)) (position_of eqb y l)))

pub first_sight_order : (r : Reading) (c x y : ℕ)
    → ltb (position_of eqb x (named r c)) (position_of eqb y (named r c)) ≡ ltb (position_of eqb x (covers r c)) (position_of eqb y (covers r c))
unfolding named
first_sight_order r c x y = fresh_order [] (covers r c) x y tt tt

-- with and without a range that holds c and names a category
covers_none : (gs : List Range) (c : ℕ) → any (λ g. range_holds c g && not (empty g.categories)) gs ≡ not (empty (joined (map (λ g. g.categories) (select (range_holds c) gs))))
covers_none [] c = refl
covers_none (g ∷ gs) c = go (range_holds c g) g.categories (covers_none gs c)
  where
    R : List ℕ
    R = joined (map (λ g. g.categories) (select (range_holds c) gs))

    S : Bool
    S = any (λ g. range_holds c g && not (empty g.categories)) gs

    split : (b : Bool) → empty (joined (map (λ g. g.categories) (cond b (g ∷ select (range_holds c) gs) (select (range_holds c) gs)))) ≡ empty (cond b (g.categories ++ R) R)
    split true = refl
    split false = refl

    go' : (b : Bool) (l : List ℕ) → S ≡ not (empty R) → ((b && not (empty l)) || S) ≡ not (empty (cond b (l ++ R) R))
    go' true [] ih = ih
    go' true (x ∷ l) ih = refl
    go' false l ih = ih

    go : (b : Bool) (l : List ℕ) → S ≡ not (empty R) → ((b && not (empty g.categories)) || S) ≡ not (empty (joined (map (λ g. g.categories) (cond b (g ∷ select (range_holds c) gs) (select (range_holds c) gs)))))
    go b l ih = go' b g.categories ih ∙ ap not (sym (split b))

pub categories_named : (r : Reading) (c : ℕ) → T (any (λ g. range_holds c g && not (empty g.categories)) r.ranges) → categories_at r c ≡ named r c
unfolding categories_at named
categories_named r c t = go (covers r c) (subst T (covers_none r.ranges c) t)
  where
    go : (l : List ℕ) → T (not (empty l)) → or_else (first_seen eqb l) (defaults r) ≡ first_seen eqb l
    go [] n = absurd n
    go (x ∷ l) n = refl

pub categories_default : (r : Reading) (c : ℕ) → T (not (any (λ g. range_holds c g && not (empty g.categories)) r.ranges)) → categories_at r c ≡ defaults r
unfolding categories_at named
categories_default r c t = go (covers r c) (subst (λ b. T (not b)) (covers_none r.ranges c) t)
  where
    go : (l : List ℕ) → T (not (not (empty l))) → or_else (first_seen eqb l) (defaults r) ≡ defaults r
    go [] n = refl
    go (x ∷ l) n = absurd n

pub default_there : (r : Reading) → T (any (same default) r.names) → defaults r ≡ position_of same default r.names ∷ []
unfolding defaults
default_there r t = rw (T→true (any (same default) r.names) t)

pub default_absent : (r : Reading) → T (not (any (same default) r.names)) → defaults r ≡ []
unfolding defaults
default_absent r t = rw (T→false (any (same default) r.names) t)
