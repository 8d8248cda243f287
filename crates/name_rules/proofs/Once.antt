-- No name twice: a turn compares name i with those before it, in their order, where the paper's `once_after` has them the other way round;
-- what stands before decides, and not its order.
-- Assumes nothing.
use Prim.Native.Nat.{ℕ, ◌+◌, ◌≤◌, ◌<◌}
use mathlib.Core.Path.{◌≡◌, refl, sym, ap, ap₂, ◌∙◌}
use mathlib.Core.Bool.{Bool, true, false, not, ◌&&◌, ◌||◌, or_comm, or_assoc}
use mathlib.Core.List.{List, [], ◌∷◌, ◌++◌, map}
use Rattle.paper.specs.Lists.{any, same}
use Rattle.paper.specs.Pack.Rules.{once_after, once}
use Rattle.paper.specs.Tables.Layout.{name_slot_of, pieces}
use Rattle.paper.proofs.Tables.Laws.{left}
use Rattle.name_rules.specs.Placed.{placed, name_of, placed_names}
use Rattle.name_rules.proofs.Placed.{placed_snoc}
use Rattle.table_rules.proofs.Tests.{passed, clash}
use Rattle.table_rules.proofs.Turn.{begins, fails, goes, ends}

-- ---- what stands before, in any order

once_alike : (ns b c : List (List ℕ)) → ((x : List ℕ) → any (same x) b ≡ any (same x) c) → once_after b ns ≡ once_after c ns
once_alike [] b c e = refl
once_alike (n ∷ ns) b c e =
    ap₂ (λ x y. not x && y) (e n) (once_alike ns (n ∷ b) (n ∷ c) (λ x. ap (λ y. same x n || y) (e x)))

pub any_snoc : (p : List ℕ → Bool) (xs : List (List ℕ)) (x : List ℕ) → any p (x ∷ xs) ≡ any p (xs ++ (x ∷ []))
any_snoc p [] x = refl
any_snoc p (y ∷ xs) x =
    sym (or_assoc (p x) (p y) (any p xs)) ∙ ap (λ b. b || any p xs) (or_comm (p x) (p y)) ∙ or_assoc (p y) (p x) (any p xs)
    ∙ ap (λ b. p y || b) (any_snoc p xs x)

-- the answer of a comparison, of the names that were compared
pub compared : (r : Bool) (s t x y : List ℕ) → r ≡ same s t → s ≡ x → t ≡ y → same x y ≡ r
compared r s t x y e p q = sym (ap₂ same p q) ∙ sym e

-- ---- the names before name n

not_or : (a b : Bool) → not (a || b) ≡ (not a && not b)
not_or true b = refl
not_or false b = refl

module _ (names l : List ℕ) (n : ℕ) where
  abbrev pub new_test : ℕ → List (List ℕ) → Bool
  new_test s ps = not (any (same (name_of n l names)) (map (placed names) (map name_slot_of ps)))

  new_one : ℕ → List ℕ → Bool
  new_one s p = not (same (name_of n l names) (placed names (name_slot_of p)))

  new_more : (s : ℕ) (p : List ℕ) (ps : List (List ℕ)) → new_test s (p ∷ ps) ≡ (new_one s p && new_test s ps)
  unfolding new_one
  new_more s p ps = not_or (same (name_of n l names) (placed names (name_slot_of p))) _

  pub new_begins : new_test 0 (left 4 n 0 l) ≡ not (any (same (name_of n l names)) (placed_names n l names))
  unfolding placed_names
  new_begins = begins 4 new_test new_one (λ s p. s) new_more l n 0

  module _ (i : ℕ) (v : Bool) (inv : new_test 0 (left 4 n i l) ≡ v) where
    pub new_fails : i < n → same (name_of n l names) (name_of i l names) ≡ true → false ≡ v
    unfolding new_one name_of
    new_fails lt e = fails 4 new_test new_one (λ s p. s) new_more l n i 0 v inv lt (λ t. rw e at t)

    pub new_goes : i < n → same (name_of n l names) (name_of i l names) ≡ false → new_test 0 (left 4 n (i + 1) l) ≡ v
    unfolding new_one name_of
    new_goes lt e = goes 4 new_test new_one (λ s p. s) new_more l n i 0 v inv lt (rw e tt)

    pub new_ends : n ≤ i → true ≡ v
    new_ends h = ends 4 new_test new_one (λ s p. s) new_more l n i 0 v inv h

-- ---- all names

module _ (names l : List ℕ) (n : ℕ) where
  abbrev pub once_test : List (List ℕ) → List (List ℕ) → Bool
  once_test before ps = once_after before (map (placed names) (map name_slot_of ps))

  once_one : List (List ℕ) → List ℕ → Bool
  once_one before p = not (any (same (placed names (name_slot_of p))) before)

  abbrev once_next : List (List ℕ) → List ℕ → List (List ℕ)
  once_next before p = placed names (name_slot_of p) ∷ before

  once_more : (before : List (List ℕ)) (p : List ℕ) (ps : List (List ℕ)) → once_test before (p ∷ ps) ≡ (once_one before p && once_test (once_next before p) ps)
  unfolding once_one
  once_more before p ps = refl

  pub once_begins : once_test (placed_names 0 l names) (left 4 n 0 l) ≡ once (placed_names n l names)
  unfolding placed_names pieces
  once_begins = begins 4 once_test once_one once_next once_more l n []

  module _ (i : ℕ) (v b : Bool) (inv : once_test (placed_names i l names) (left 4 n i l) ≡ v)
      (e : b ≡ not (any (same (name_of i l names)) (placed_names i l names))) where
    pub once_fails : i < n → not b ≡ true → false ≡ v
    unfolding once_one name_of
    once_fails lt h =
        fails 4 once_test once_one once_next once_more l n i (placed_names i l names) v inv lt
        (clash b _ e h)

    pub once_goes : i < n → not b ≡ false → once_test (placed_names (i + 1) l names) (left 4 n (i + 1) l) ≡ v
    unfolding once_one name_of
    once_goes lt h =
        once_alike (map (placed names) (map name_slot_of (left 4 n (i + 1) l))) (placed_names (i + 1) l names) (name_of i l names ∷ placed_names i l names)
        (λ x. ap (any (same x)) (placed_snoc names l i) ∙ sym (any_snoc (same x) (placed_names i l names) (name_of i l names)))
        ∙ goes 4 once_test once_one once_next once_more l n i (placed_names i l names) v inv lt (passed b _ e h)

  pub once_ends : (i : ℕ) (v : Bool) → once_test (placed_names i l names) (left 4 n i l) ≡ v → n ≤ i → true ≡ v
  once_ends i v inv h = ends 4 once_test once_one once_next once_more l n i (placed_names i l names) v inv h
