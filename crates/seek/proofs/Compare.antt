-- A part of the text compared with a part of the store.
-- Assumes nothing.
use Prim.Native.Nat.{ℕ, ◌+◌, ◌-◌, ◌≤◌, ◌<◌}
use native.Mathlib.Omega.{arith}
use mathlib.Core.Path.{◌≡◌, refl, sym, ap, ap₂, ◌∙◌}
use mathlib.Core.Bool.{Bool, true, false, ◌&&◌}
use mathlib.Core.List.{List, [], ◌∷◌}
use lib.Dec.{eqb}
use lib.ListN.{length, take, drop, get_or, length-take, length-drop}
use lib.Seq.{get_or-take, get_or-drop}
use lib.Pointwise.{pointwise}
use mir.Facts.{not_T}
use Rattle.std.proofs.lemmas.Slice.{between_is}
use Rattle.std.specs.List.{between}
use Rattle.paper.specs.Lists.{same}
use Rattle.paper.proofs.Lists.Facts.{T→false}
use Rattle.paper.proofs.Lists.Parts.{nothing, part_length}
use Rattle.paper.proofs.Lists.Seen.{same_eq}

-- ---- two lists

pub unlike : (a b : List ℕ) → (a ≡ b → ⊥) → false ≡ same a b
unlike a b h = sym (T→false (same a b) (not_T (same a b) (λ t. h (same_eq a b t))))

pub differs : (a b : List ℕ) → (length a ≡ length b → ⊥) → false ≡ same a b
differs a b h = unlike a b (λ e. h (ap length e))

-- `==` of slices
pub same_is : (a b : List ℕ) → pointwise eqb a b ≡ same a b
same_is [] [] = refl
same_is [] (y ∷ b) = refl
same_is (x ∷ a) [] = refl
same_is (x ∷ a) (y ∷ b) = ap (λ t. eqb x y && t) (same_is a b)

-- ---- a part of the text and as many bytes of the store

pub part_at : (start end i : ℕ) (text : List ℕ) → i < end - start → get_or (drop start (take end text)) i 0 ≡ get_or text (start + i) 0
part_at start end i text h = get_or-drop start (take end text) i 0 ∙ get_or-take end text (start + i) 0 (omega arith)

piece_at : (at n i : ℕ) (l : List ℕ) → i < n → get_or (take n (drop at l)) i 0 ≡ get_or l (at + i) 0
piece_at at n i l h = get_or-take n (drop at l) i 0 h ∙ get_or-drop at l i 0

module _ (text store : List ℕ) (start end at : ℕ) where
  abbrev pub is_there : Bool
  is_there = same (drop start (take end text)) (take (end - start) (drop at store))

  pub nothing_there : end ≤ start → true ≡ is_there
  nothing_there h =
      let b : end - start ≡ 0 = omega arith in
      sym (ap₂ (λ x k. same x (take k (drop at store))) (nothing text start end h) b)

  pub too_long : end ≤ length text → length store < at + (end - start) → 0 < end - start → false ≡ is_there
  too_long w h p =
      let a = part_length text start end w in
      let b : length (take (end - start) (drop at store)) < end - start = simp (length-take, length-drop) (omega arith) in
      differs (drop start (take end text)) (take (end - start) (drop at store)) (λ e. omega (arith, e))

  -- any one byte that differs
  pub byte_fails : (i p q : ℕ) → i < end - start → p ≡ start + i → q ≡ at + i → (get_or text p 0 ≡ get_or store q 0 → ⊥) → false ≡ is_there
  byte_fails i p q lt ep eq h =
      unlike (drop start (take end text)) (take (end - start) (drop at store))
      (λ e. h (ap (λ k. get_or text k 0) ep ∙ sym (part_at start end i text lt) ∙ ap (λ l. get_or l i 0) e ∙ piece_at at (end - start) i store lt ∙ sym (ap (λ k. get_or store k 0) eq)))

  -- the comparison itself
  pub all_there : (r : Bool) → r ≡ pointwise eqb (between start end text) (between at (at + (end - start)) store) → r ≡ is_there
  all_there r e =
      let k : at + (end - start) - at ≡ end - start = omega arith in
      e ∙ same_is (between start end text) (between at (at + (end - start)) store)
      ∙ ap₂ (λ a n. same a (take n (drop at store))) (between_is text start end) k
