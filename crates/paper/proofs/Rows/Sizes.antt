-- There are at most maxRows rows and maxRowPlaces row places, so an offset into them has 24 bits: two boundaries for each range and
-- one more, and a row names a category once.
-- Assumes nothing.
use Prim.Native.Nat.{ℕ, zero, suc, ◌+◌, ◌*◌, ◌<◌, ◌≤◌, zero-le, suc-le-suc}
use native.Mathlib.Nat.{not-suc-le-zero, le_refl, le_trans}
use native.Mathlib.Omega.{arith}
use mathlib.Core.Path.{◌≡◌, refl, sym, ap, subst}
use mathlib.Core.Bool.{Bool, true, false, not, cond, ◌||◌}
use mathlib.Core.List.{List, [], ◌∷◌, map}
use lib.Dec.{T, leb, ltb, eqb, eqb→eq, lit≤}
use lib.ListN.{length}
use mir.Facts.{and_yes, yes_and, or_yes, T_not, not_T, leb_yes, yes_leb, ltb_yes, yes_ltb}
use borrow.Author.Tests.{eqb-true, eqb-false}
use Rattle.paper.specs.Sizes.{max_categories, max_rows, max_row_places}
use Rattle.paper.specs.Lists.{all, any, select, joined, sum, fresh_after, position_of, same, distinct}
use Rattle.paper.specs.CharDef.Reading.{Range, Reading, Within}
use Rattle.paper.specs.Rows.Covering.{range_holds, named, defaults, or_else, categories_at, insert, ascending, boundaries, rows, default}
use Rattle.paper.specs.Rows.Flat.{max_offset}
use Rattle.paper.specs.Pack.Rules.{numbered}
use Rattle.paper.proofs.Lists.Facts.{true→T, or_left, or_right, all_append, false→T}
use Rattle.paper.proofs.Rows.Boundaries.{row_for_each}

any_select : (p q : ℕ → Bool) (l : List ℕ) → T (any p (select q l)) → T (any p l)
any_select p q [] t = t
any_select p q (x ∷ l) t = go (q x) t (any_select p q l)
  where
    go : (b : Bool) → T (any p (cond b (x ∷ select q l) (select q l))) → (T (any p (select q l)) → T (any p l)) → T (p x || any p l)
    go true t ih = go₂ (p x) t
      where
        go₂ : (c : Bool) → T (c || any p (select q l)) → T (c || any p l)
        go₂ true t = tt
        go₂ false t = ih t
    go false t ih = or_right (p x) (any p l) (ih t)

not_any_select : (p q : ℕ → Bool) (l : List ℕ) → T (not (any p l)) → T (not (any p (select q l)))
not_any_select p q l t = not_T (any p (select q l)) (λ u. T_not (any p l) (any_select p q l u) t)

distinct_select : (q : ℕ → Bool) (l : List ℕ) → T (distinct l) → T (distinct (select q l))
distinct_select q [] t = tt
distinct_select q (x ∷ l) t =
    let h = and_yes (not (any (eqb x) l)) (distinct l) t in
    go (q x) h.0 (distinct_select q l h.1)
  where
    go : (b : Bool) → T (not (any (eqb x) l)) → T (distinct (select q l)) → T (distinct (cond b (x ∷ select q l) (select q l)))
    go true n r = yes_and (not (any (eqb x) (select q l))) (distinct (select q l)) (not_any_select (eqb x) q l n) r
    go false n r = r

other : ℕ → ℕ → Bool
other n c = not (eqb n c)

select_none : (n : ℕ) (l : List ℕ) → T (not (any (eqb n) l)) → select (other n) l ≡ l
unfolding other
select_none n [] t = refl
select_none n (x ∷ l) t = go (eqb n x) t (select_none n l)
  where
    go : (b : Bool) → T (not (b || any (eqb n) l)) → (T (not (any (eqb n) l)) → select (other n) l ≡ l)
        → cond (not b) (x ∷ select (other n) l) (select (other n) l) ≡ x ∷ l
    go true t ih = absurd t
    go false t ih = ap (λ k. x ∷ k) (ih t)

select_length : (n : ℕ) (l : List ℕ) → T (distinct l) → length l ≤ suc (length (select (other n) l))
unfolding other
select_length n [] t = zero-le
select_length n (x ∷ l) t =
    let h = and_yes (not (any (eqb x) l)) (distinct l) t in
    go (eqb n x) refl h.0 (select_length n l h.1)
  where
    go : (b : Bool) → eqb n x ≡ b → T (not (any (eqb x) l)) → length l ≤ suc (length (select (other n) l))
        → suc (length l) ≤ suc (length (cond (not b) (x ∷ select (other n) l) (select (other n) l)))
    go true e d ih =
        let nx : n ≡ x = eqb-true n x e in
        rw (select_none n l (subst (λ k. T (not (any (eqb k) l))) (sym nx) d)) (le_refl (suc (length l)))
    go false e d ih = suc-le-suc ih

select_below : (n : ℕ) (l : List ℕ) → T (all (λ c. ltb c (suc n)) l) → T (all (λ c. ltb c n) (select (other n) l))
unfolding other
select_below n [] t = tt
select_below n (x ∷ l) t =
    let h = and_yes (ltb x (suc n)) (all (λ c. ltb c (suc n)) l) t in
    go (eqb n x) refl h.0 (select_below n l h.1)
  where
    go : (b : Bool) → eqb n x ≡ b → T (ltb x (suc n)) → T (all (λ c. ltb c n) (select (other n) l))
        → T (all (λ c. ltb c n) (cond (not b) (x ∷ select (other n) l) (select (other n) l)))
    go true e t ih = ih
    go false e t ih =
        let k : x < suc n = ltb_yes t in
        let m : n ≡ x → ⊥ = eqb-false n x e in
        let j : x < n = strict k m in
        yes_and (ltb x n) (all (λ c. ltb c n) (select (other n) l)) (yes_ltb j) ih
      where
        strict : x < suc n → (n ≡ x → ⊥) → x < n
        strict k m = omega arith

pub distinct_length : (n : ℕ) (l : List ℕ) → T (distinct l) → T (all (λ c. ltb c n) l) → length l ≤ n
distinct_length zero [] d t = zero-le
distinct_length zero (x ∷ l) d t = absurd (not-suc-le-zero (ltb_yes {a = x} {b = 0} (and_yes (ltb x 0) _ t).0))
distinct_length (suc n) l d t =
    le_trans (select_length n l d) (suc-le-suc (distinct_length n (select (other n) l) (distinct_select (other n) l d) (select_below n l t)))

-- ---- first sights are distinct

fresh_apart : (before l : List ℕ) (x : ℕ) → T (any (eqb x) before) → T (not (any (eqb x) (fresh_after eqb before l)))
fresh_apart before [] x t = tt
fresh_apart before (y ∷ l) x t = go (any (eqb y) before) refl (fresh_apart (y ∷ before) l x (or_right (eqb x y) (any (eqb x) before) t))
  where
    F : List ℕ
    F = fresh_after eqb (y ∷ before) l

    go : (b : Bool) → any (eqb y) before ≡ b → T (not (any (eqb x) F)) → T (not (any (eqb x) (cond b F (y ∷ F))))
    go true e n = n
    go false e n = not_T (eqb x y || any (eqb x) F) (λ u. two_ways (or_yes (eqb x y) (any (eqb x) F) u))
      where
        two_ways : mathlib.Core.Logic.◌⊎◌ (T (eqb x y)) (T (any (eqb x) F)) → ⊥
        two_ways (mathlib.Core.Logic.inl q) = T_not (any (eqb y) before) (subst (λ k. T (any (eqb k) before)) (eqb→eq x y q) t) (false→T _ e)
        two_ways (mathlib.Core.Logic.inr q) = T_not (any (eqb x) F) q n

pub fresh_distinct : (before l : List ℕ) → T (distinct (fresh_after eqb before l))
fresh_distinct before [] = tt
fresh_distinct before (y ∷ l) = go (any (eqb y) before) (fresh_distinct (y ∷ before) l)
  where
    F : List ℕ
    F = fresh_after eqb (y ∷ before) l

    go : (b : Bool) → T (distinct F) → T (distinct (cond b F (y ∷ F)))
    go true d = d
    go false d = yes_and (not (any (eqb y) F)) (distinct F) (fresh_apart (y ∷ before) l y (or_left (eqb y y) (any (eqb y) before) (lib.Dec.eqb_refl y))) d

fresh_all : (p : ℕ → Bool) (before l : List ℕ) → T (all p l) → T (all p (fresh_after eqb before l))
fresh_all p before [] t = tt
fresh_all p before (y ∷ l) t =
    let h = and_yes (p y) (all p l) t in
    go (any (eqb y) before) h.0 (fresh_all p (y ∷ before) l h.1)
  where
    F : List ℕ
    F = fresh_after eqb (y ∷ before) l

    go : (b : Bool) → T (p y) → T (all p F) → T (all p (cond b F (y ∷ F)))
    go true a d = d
    go false a d = yes_and (p y) (all p F) a d

covered_all : (p : ℕ → Bool) (c : ℕ) (gs : List Range) → T (all (λ g. all p g.categories) gs)
    → T (all p (joined (map (λ g. g.categories) (select (range_holds c) gs))))
covered_all p c [] t = tt
covered_all p c (g ∷ gs) t =
    let h = and_yes (all p g.categories) (all (λ g. all p g.categories) gs) t in
    go (range_holds c g) h.0 (covered_all p c gs h.1)
  where
    rest : List Range
    rest = select (range_holds c) gs

    go : (b : Bool) → T (all p g.categories) → T (all p (joined (map (λ g. g.categories) rest)))
        → T (all p (joined (map (λ g. g.categories) (cond b (g ∷ rest) rest))))
    go true a d = all_append p g.categories (joined (map (λ g. g.categories) rest)) a d
    go false a d = d

pub position_below : (x : List ℕ) (ns : List (List ℕ)) → T (any (same x) ns) → position_of same x ns < length ns
position_below x [] t = absurd t
position_below x (n ∷ ns) t = go (same x n) t (position_below x ns)
  where
    go : (b : Bool) → T (b || any (same x) ns) → (T (any (same x) ns) → position_of same x ns < length ns)
        → cond b 0 (suc (position_of same x ns)) < suc (length ns)
    go true t ih = suc-le-suc zero-le
    go false t ih = suc-le-suc (ih t)

-- a row holds as many categories as there are, at most
pub row_length : (r : Reading) (c : ℕ) → T (numbered r) → length (categories_at r c) ≤ length r.names
unfolding categories_at numbered
row_length r c t = go (named r c) (distinct_length (length r.names) (named r c) (fresh_distinct [] covers) (fresh_all (λ k. ltb k (length r.names)) [] covers (covered_all (λ k. ltb k (length r.names)) c r.ranges t)))
  where
    covers : List ℕ
    covers = joined (map (λ g. g.categories) (select (range_holds c) r.ranges))

    default_case : (b : Bool) → any (same default) r.names ≡ b → length (cond b (position_of same default r.names ∷ []) []) ≤ length r.names
    default_case true e = let k = position_below default r.names (true→T _ e) in omega arith
    default_case false e = zero-le

    go : (l : List ℕ) → length l ≤ length r.names → length (or_else l (defaults r)) ≤ length r.names
    go [] h = default_case (any (same default) r.names) refl
    go (x ∷ l) h = h

insert_length : (n : ℕ) (l : List ℕ) → length (insert n l) ≤ suc (length l)
insert_length n [] = le_refl 1
insert_length n (m ∷ l) = go (ltb n m) (eqb n m) (insert_length n l)
  where
    go : (x y : Bool) → length (insert n l) ≤ suc (length l) → length (cond x (n ∷ m ∷ l) (cond y (m ∷ l) (m ∷ insert n l))) ≤ suc (suc (length l))
    go true y ih = le_refl (suc (suc (length l)))
    go false true ih = omega arith
    go false false ih = suc-le-suc ih

ascending_length : (l : List ℕ) → length (ascending l) ≤ length l
ascending_length [] = zero-le
ascending_length (n ∷ l) = le_trans (insert_length n (ascending l)) (suc-le-suc (ascending_length l))

edges_length : (gs : List Range) → length (joined (map (λ g. g.lower ∷ (g.upper + 1) ∷ []) gs)) ≡ 2 * length gs
edges_length [] = refl
edges_length (g ∷ gs) = let e = edges_length gs in omega arith

pub boundaries_fit : (r : Reading) → Within r → length (boundaries r) ≤ max_rows
unfolding boundaries
boundaries_fit r w =
    let l : List ℕ = 0 ∷ joined (map (λ g. g.lower ∷ (g.upper + 1) ∷ []) r.ranges) in
    let k = ascending_length l in
    let e = edges_length r.ranges in
    omega arith

sum_bound : (n : ℕ) (l : List (List ℕ)) → T (all (λ k. leb (length k) n) l) → sum (map length l) ≤ length l * n
sum_bound n [] t = zero-le
sum_bound n (k ∷ l) t =
    let h = and_yes (leb (length k) n) (all (λ k. leb (length k) n) l) t in
    let a : length k ≤ n = leb_yes h.0 in
    let b = sum_bound n l h.1 in
    rw (native.Mathlib.Nat.suc-mul (length l) n) (omega arith)

rows_short : (r : Reading) (bs : List ℕ) → T (numbered r) → Within r → T (all (λ k. leb (length k) max_categories) (map (categories_at r) bs))
rows_short r [] t w = tt
rows_short r (b ∷ bs) t w =
    yes_and (leb (length (categories_at r b)) max_categories) _ (yes_leb (le_trans (row_length r b t) w.categories_fit)) (rows_short r bs t w)

pub rows_fit : (r : Reading) → Within r → length (rows r) ≤ max_rows
rows_fit r w = rw row_for_each (boundaries_fit r w)

pub places_fit : (r : Reading) → Within r → T (numbered r) → sum (map length (rows r)) ≤ max_row_places
unfolding rows
places_fit r w t =
    let a = sum_bound max_categories (rows r) (rows_short r (boundaries r) t w) in
    let b : length (map (categories_at r) (boundaries r)) ≤ max_rows = rows_fit r w in
    omega arith

-- an offset never overflows
pub offsets_fit : max_row_places ≤ max_offset
offsets_fit = lit≤ tt
