-- A stamp above all that are there gives first sights: the places with this stamp are the numbers before.
-- Assumes nothing.
use Prim.Native.Nat.{ℕ, zero, suc, ◌+◌, ◌≤◌, ◌<◌}
use native.Mathlib.Omega.{arith}
use mathlib.Core.Path.{◌≡◌, refl, ap, ◌∙◌}
use mathlib.Core.Bool.{Bool, true, false, cond, ◌||◌}
use mathlib.Core.List.{List, [], ◌∷◌}
use lib.Dec.{T, leb, ltb, eqb}
use lib.ListN.{length, get_or, set, length-set}
use lib.Seq.{get_or-set_same, get_or-set_other}
use mir.Facts.{and_yes, yes_and, leb_yes, yes_leb, ltb_yes}
use borrow.Author.Tests.{lt-ltb, eq-eqb, ne_eqb, eqb-true, eqb-false}
use Rattle.paper.specs.Lists.{all, any, fresh_after, first_seen}
use Rattle.paper.proofs.Lists.Facts.{all_imp}
use Rattle.cover.specs.Stamps.{is_seen, stamped, stamps}
use Rattle.cover.proofs.Notes.{stamped_seen, stamped_new, stamped_none}

-- the stamps say what stands before
abbrev Agree : ℕ → List ℕ → List ℕ → Type 0
Agree s seen before = (x : ℕ) → x < length seen → eqb (get_or seen x 0) s ≡ any (eqb x) before

agree_seen : (s x : ℕ) (seen before : List ℕ) → eqb (get_or seen x 0) s ≡ true → Agree s seen before → Agree s seen (x ∷ before)
agree_seen s x seen before e a y h = go (eqb y x) refl
  where
    go : (z : Bool) → eqb y x ≡ z → eqb (get_or seen y 0) s ≡ (z || any (eqb y) before)
    go true k = ap (λ i. eqb (get_or seen i 0) s) (eqb-true y x k) ∙ e
    go false k = a y h

agree_new : (s x : ℕ) (seen before : List ℕ) → x < length seen → Agree s seen before → Agree s (set seen x s) (x ∷ before)
agree_new s x seen before l a y h = go (eqb y x) refl
  where
    go : (z : Bool) → eqb y x ≡ z → eqb (get_or (set seen x s) y 0) s ≡ (z || any (eqb y) before)
    go true k =
        ap (λ i. eqb (get_or (set seen x s) i 0) s) (eqb-true y x k)
        ∙ ap (λ v. eqb v s) (get_or-set_same seen x s 0 l) ∙ eq-eqb s s refl
    go false k =
        let n : length (set seen x s) ≡ length seen = length-set seen x s in
        ap (λ v. eqb v s) (get_or-set_other seen x y s 0 (eqb-false y x k)) ∙ a y (omega arith)

seen_is : (s x : ℕ) (seen : List ℕ) → x < length seen → is_seen s seen x ≡ eqb (get_or seen x 0) s
seen_is s x seen h = ap (λ b. cond b (eqb (get_or seen x 0) s) true) (lt-ltb x (length seen) h)

stamped_fresh : (s n : ℕ) (seen before l : List ℕ) → length seen ≡ n → Agree s seen before → T (all (λ x. ltb x n) l) → stamped s seen l ≡ fresh_after eqb before l
stamped_fresh s n seen before [] e a t = stamped_none s seen
stamped_fresh s n seen before (x ∷ l) e a t =
    go (any (eqb x) before) refl (λ b u. stamped_fresh s n seen (x ∷ before) l e b u) (λ f b u. stamped_fresh s n (set seen x s) (x ∷ before) l f b u)
  where
    g : T (ltb x n) × T (all (λ x. ltb x n) l)
    g = and_yes (ltb x n) (all (λ x. ltb x n) l) t

    lt : x < length seen
    lt = let h : x < n = ltb_yes g.0 in omega arith

    is : eqb (get_or seen x 0) s ≡ any (eqb x) before
    is = a x lt

    go : (b : Bool) → any (eqb x) before ≡ b
        → (Agree s seen (x ∷ before) → T (all (λ x. ltb x n) l) → stamped s seen l ≡ fresh_after eqb (x ∷ before) l)
        → (length (set seen x s) ≡ n → Agree s (set seen x s) (x ∷ before) → T (all (λ x. ltb x n) l) → stamped s (set seen x s) l ≡ fresh_after eqb (x ∷ before) l)
        → stamped s seen (x ∷ l) ≡ cond b (fresh_after eqb (x ∷ before) l) (x ∷ fresh_after eqb (x ∷ before) l)
    go true k ih ij =
        stamped_seen s x seen l (seen_is s x seen lt ∙ is ∙ k)
        ∙ ih (agree_seen s x seen before (is ∙ k) a) g.1
    go false k ih ij =
        stamped_new s x seen l (seen_is s x seen lt ∙ is ∙ k)
        ∙ ap (λ m. x ∷ m) (ij (length-set seen x s ∙ e) (agree_new s x seen before lt a) g.1)

-- stamps up to `old` are none that comes after
old_at : (old x : ℕ) (seen : List ℕ) → T (all (λ v. leb v old) seen) → get_or seen x 0 ≤ old
old_at old x [] t = omega arith
old_at old zero (v ∷ seen) t = leb_yes (and_yes (leb v old) (all (λ v. leb v old) seen) t).0
old_at old (suc x) (v ∷ seen) t = old_at old x seen (and_yes (leb v old) (all (λ v. leb v old) seen) t).1

pub stamped_first : (old n : ℕ) (seen l : List ℕ) → length seen ≡ n → T (all (λ v. leb v old) seen) → T (all (λ x. ltb x n) l)
    → stamped (old + 1) seen l ≡ first_seen eqb l
stamped_first old n seen l e t u = stamped_fresh (old + 1) n seen [] l e (λ x h. ne_eqb (get_or seen x 0) (old + 1) (differ (get_or seen x 0) (old_at old x seen t))) u
  where
    differ : (v : ℕ) → v ≤ old → v ≡ old + 1 → ⊥
    differ v h k = omega arith

-- and the stamps of one row are old in the next
set_all : (p : ℕ → Bool) (l : List ℕ) (i v : ℕ) → T (p v) → T (all p l) → T (all p (set l i v))
set_all p [] i v h t = tt
set_all p (x ∷ l) zero v h t = yes_and (p v) (all p l) h (and_yes (p x) (all p l) t).1
set_all p (x ∷ l) (suc i) v h t = let g = and_yes (p x) (all p l) t in yes_and (p x) (all p (set l i v)) g.0 (set_all p l i v h g.1)

older : (old : ℕ) (l : List ℕ) → T (all (λ v. leb v old) l) → T (all (λ v. leb v (old + 1)) l)
older old l t = all_imp (λ v. leb v old) (λ v. leb v (old + 1)) (λ v u. up v (leb_yes u)) l t
  where
    up : (v : ℕ) → v ≤ old → T (leb v (old + 1))
    up v h = let k : v ≤ old + 1 = omega arith in yes_leb k

stamps_all : (p : ℕ → Bool) (s : ℕ) (seen l : List ℕ) → T (p s) → T (all p seen) → T (all p (stamps s seen l))
unfolding stamps
stamps_all p s seen [] h t = t
stamps_all p s seen (x ∷ l) h t = stamps_all p s (cond (is_seen s seen x) seen (set seen x s)) l h (go (is_seen s seen x))
  where
    go : (b : Bool) → T (all p (cond b seen (set seen x s)))
    go true = t
    go false = set_all p seen x s h t

pub stamps_old : (old : ℕ) (seen l : List ℕ) → T (all (λ v. leb v old) seen) → T (all (λ v. leb v (old + 1)) (stamps (old + 1) seen l))
stamps_old old seen l t = stamps_all (λ v. leb v (old + 1)) (old + 1) seen l (yes_leb (native.Mathlib.Nat.le_refl (old + 1))) (older old seen t)
