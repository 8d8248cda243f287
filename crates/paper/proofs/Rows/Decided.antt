-- The laws of the covering rule leave one row: a list without repeats is decided by its elements and their order.
-- Assumes nothing.
use Prim.Native.Nat.{ℕ, zero, suc, ◌≤◌, zero-le, suc-le-suc}
use native.Mathlib.Omega.{arith}
use mathlib.Core.Path.{◌≡◌, refl, sym, ap, ap₂, ◌∙◌, subst}
use mathlib.Core.Bool.{Bool, true, false, not, cond, ◌&&◌, ◌||◌}
use mathlib.Core.List.{List, [], ◌∷◌}
use lib.Dec.{T, ltb, eqb, eqb_refl, leb-zero, leb-suc-zero, leb-suc-suc}
use lib.ListN.{length}
use mir.Facts.{and_yes}
use borrow.Author.Tests.{eqb-true, ltb-false, le-ltb}
use Rattle.paper.specs.Lists.{any, position_of, distinct}
use Rattle.paper.specs.CharDef.Reading.{Reading}
use Rattle.paper.specs.Rows.Covering.{range_holds, covers, named}
use Rattle.paper.proofs.Apart.{true_false}
use Rattle.paper.proofs.Lists.Facts.{T→true, T→false}
use Rattle.paper.proofs.Rows.Sizes.{fresh_distinct}
use Rattle.paper.proofs.Rows.Covered.{exactly_covered, first_sight_order}

position_most : (x : ℕ) (l : List ℕ) → position_of eqb x l ≤ length l
position_most x [] = zero-le
position_most x (y ∷ l) = go (eqb x y) (position_most x l)
  where
    go : (b : Bool) → position_of eqb x l ≤ length l → cond b zero (suc (position_of eqb x l)) ≤ suc (length l)
    go true h = zero-le
    go false h = suc-le-suc h

-- x is there exactly where it has a place
position_there : (x : ℕ) (l : List ℕ) → ltb (position_of eqb x l) (length l) ≡ any (eqb x) l
position_there x [] = leb-suc-zero 0
position_there x (y ∷ l) = go (eqb x y) (position_there x l)
  where
    go : (b : Bool) → ltb (position_of eqb x l) (length l) ≡ any (eqb x) l → ltb (cond b zero (suc (position_of eqb x l))) (suc (length l)) ≡ (b || any (eqb x) l)
    go true h = leb-suc-suc 0 (length l) ∙ leb-zero (length l)
    go false h = leb-suc-suc (suc (position_of eqb x l)) (length l) ∙ h

position_absent : (x : ℕ) (l : List ℕ) → any (eqb x) l ≡ false → position_of eqb x l ≡ length l
position_absent x l e =
    let a = position_most x l in
    let b : length l ≤ position_of eqb x l = ltb-false (position_of eqb x l) (length l) (position_there x l ∙ e) in
    omega arith

-- the same elements, and in the same order
pub record Alike (l m : List ℕ) : Type 0 where
  pub members : (x : ℕ) → any (eqb x) l ≡ any (eqb x) m
  pub order : (x y : ℕ) → ltb (position_of eqb x l) (position_of eqb y l) ≡ ltb (position_of eqb x m) (position_of eqb y m)

module _ (x : ℕ) (l m : List ℕ) (dl : T (not (any (eqb x) l))) (dm : T (not (any (eqb x) m))) (a : Alike (x ∷ l) (x ∷ m)) where
  tail_members : (y : ℕ) → any (eqb y) l ≡ any (eqb y) m
  tail_members y = go (eqb y x) refl (a.members y)
    where
      go : (b : Bool) → eqb y x ≡ b → (eqb y x || any (eqb y) l) ≡ (eqb y x || any (eqb y) m) → any (eqb y) l ≡ any (eqb y) m
      go true e h =
          let q : y ≡ x = eqb-true y x e in
          rw q (T→false (any (eqb x) l) dl ∙ sym (T→false (any (eqb x) m) dm))
      go false e h = rw e at h

  tail_order : (y z : ℕ) → ltb (position_of eqb y l) (position_of eqb z l) ≡ ltb (position_of eqb y m) (position_of eqb z m)
  tail_order y z = go (eqb y x) refl (eqb z x) refl (a.order y z)
    where
      past : (k : List ℕ) → T (not (any (eqb x) k)) → y ≡ x → ltb (position_of eqb y k) (position_of eqb z k) ≡ false
      past k d q =
          let n : position_of eqb y k ≡ length k = ap (λ w. position_of eqb w k) q ∙ position_absent x k (T→false (any (eqb x) k) d) in
          rw n (le-ltb (length k) (position_of eqb z k) (position_most z k))

      before : (k : List ℕ) → T (not (any (eqb x) k)) → z ≡ x → ltb (position_of eqb y k) (position_of eqb z k) ≡ any (eqb y) k
      before k d q =
          let n : position_of eqb z k ≡ length k = ap (λ w. position_of eqb w k) q ∙ position_absent x k (T→false (any (eqb x) k) d) in
          rw n (position_there y k)

      go : (b : Bool) → eqb y x ≡ b → (c : Bool) → eqb z x ≡ c
          → ltb (cond (eqb y x) zero (suc (position_of eqb y l))) (cond (eqb z x) zero (suc (position_of eqb z l)))
          ≡ ltb (cond (eqb y x) zero (suc (position_of eqb y m))) (cond (eqb z x) zero (suc (position_of eqb z m)))
          → ltb (position_of eqb y l) (position_of eqb z l) ≡ ltb (position_of eqb y m) (position_of eqb z m)
      go true e c f h = past l dl (eqb-true y x e) ∙ sym (past m dm (eqb-true y x e))
      go false e true f h = before l dl (eqb-true z x f) ∙ tail_members y ∙ sym (before m dm (eqb-true z x f))
      go false e false f h =
          sym (leb-suc-suc (suc (position_of eqb y l)) (position_of eqb z l)) ∙ (rw (e, f) at h) ∙ leb-suc-suc (suc (position_of eqb y m)) (position_of eqb z m)

heads_same : (x y : ℕ) (l m : List ℕ) → Alike (x ∷ l) (y ∷ m) → x ≡ y
heads_same x y l m a = go (eqb x y) refl
  where
    first_is : (z : ℕ) (k : List ℕ) → position_of eqb z (z ∷ k) ≡ 0
    first_is z k = rw (T→true (eqb z z) (eqb_refl z))

    never : ltb (position_of eqb y (x ∷ l)) (position_of eqb x (x ∷ l)) ≡ false
    never = rw (first_is x l) (leb-suc-zero (position_of eqb y (x ∷ l)))

    go : (b : Bool) → eqb x y ≡ b → x ≡ y
    go true e = eqb-true x y e
    go false e =
        let p : position_of eqb x (y ∷ m) ≡ suc (position_of eqb x m) = rw e in
        let t : ltb (position_of eqb y (y ∷ m)) (position_of eqb x (y ∷ m)) ≡ true = ap₂ (λ i j. ltb i j) (first_is y m) p ∙ leb-suc-suc 0 (position_of eqb x m) ∙ leb-zero (position_of eqb x m) in
        true_false (sym t ∙ sym (a.order y x) ∙ never)

-- a list without repeats is decided by its elements and their order
pub alike_same : (l m : List ℕ) → T (distinct l) → T (distinct m) → Alike l m → l ≡ m
alike_same [] [] d e a = refl
alike_same [] (y ∷ m) d e a = true_false (sym (rw (T→true (eqb y y) (eqb_refl y))) ∙ sym (a.members y))
alike_same (x ∷ l) [] d e a = true_false (sym (rw (T→true (eqb x x) (eqb_refl x))) ∙ a.members x)
alike_same (x ∷ l) (y ∷ m) d e a =
    let q : y ≡ x = sym (heads_same x y l m a) in
    let b : Alike (x ∷ l) (x ∷ m) = subst (λ k. Alike (x ∷ l) (k ∷ m)) q a in
    let f : T (distinct (x ∷ m)) = subst (λ k. T (distinct (k ∷ m))) q e in
    let dl = and_yes (not (any (eqb x) l)) (distinct l) d in
    let dm = and_yes (not (any (eqb x) m)) (distinct m) f in
    let s : l ≡ m = alike_same l m dl.1 dm.1 (record { members = tail_members x l m dl.0 dm.0 b; order = tail_order x l m dl.0 dm.0 b }) in
    ap₂ (λ w k. w ∷ k) (sym q) s

-- so the three laws of the covering rule leave one list
pub named_decided : (r : Reading) (c : ℕ) (l : List ℕ) → T (distinct l)
    → ((x : ℕ) → any (eqb x) l ≡ any (λ g. range_holds c g && any (eqb x) g.categories) r.ranges)
    → ((x y : ℕ) → ltb (position_of eqb x l) (position_of eqb y l) ≡ ltb (position_of eqb x (covers r c)) (position_of eqb y (covers r c)))
    → l ≡ named r c
unfolding named
named_decided r c l d p q =
    alike_same l (named r c) d (fresh_distinct [] (covers r c))
    (record { members = λ x. p x ∙ sym (exactly_covered r c x); order = λ x y. q x y ∙ sym (first_sight_order r c x y) })
