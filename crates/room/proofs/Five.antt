-- Five lent tables of any sizes, whatever stands in them: what the test of their lengths says, and one table up to its size and past it. The readers
-- of char.def and of a pack cite it at their sizes, and so does unk.def's.
-- Assumes nothing.
use Prim.Native.Nat.{ℕ, ◌≤◌}
use native.Mathlib.Omega.{arith}
use mathlib.Core.Path.{◌≡◌, refl, sym, ap, ◌∙◌, subst}
use mathlib.Core.Bool.{Bool, true, false, not, cond, ◌&&◌}
use mathlib.Core.List.{List, [], ◌++◌, append-nil}
use lib.Dec.{T, leb}
use lib.ListN.{length, take, drop, replicate, length-replicate, drop_of_length-le}
use lib.Seq.{length-take-le, drop_at}
use mir.Facts.{and_yes, yes_and, yes_leb, leb_yes, not_T}
use borrow.Author.Tests.{le-leb, not-true, not-false}
use Rattle.paper.specs.Tables.Lent.{zeroed, padded}
use Rattle.paper.proofs.Lists.Facts.{T→true, T→false}
use Rattle.paper.proofs.Tables.Append.{padded_length, padded_none}

-- ---- refusal 1: each length is no less than its size, in the tables' order

pub record Room (s₁ s₂ s₃ s₄ s₅ a b c d e : ℕ) : Type 0 where
  pub first : s₁ ≤ a
  pub second : s₂ ≤ b
  pub third : s₃ ≤ c
  pub fourth : s₄ ≤ d
  pub fifth : s₅ ≤ e

unfoldable pub long_enough : (s₁ s₂ s₃ s₄ s₅ a b c d e : ℕ) → Bool
long_enough s₁ s₂ s₃ s₄ s₅ a b c d e = leb s₁ a && (leb s₂ b && (leb s₃ c && (leb s₄ d && leb s₅ e)))

-- where a reader's own test is this one, at its sizes
module _ {s₁ s₂ s₃ s₄ s₅ a b c d e : ℕ} {test : Bool} (is : test ≡ long_enough s₁ s₂ s₃ s₄ s₅ a b c d e) where
  room_says : T test → Room s₁ s₂ s₃ s₄ s₅ a b c d e
  unfolding long_enough
  room_says t =
      let x = and_yes (leb s₁ a) _ (subst T is t) in
      let y = and_yes (leb s₂ b) _ x.1 in
      let z = and_yes (leb s₃ c) _ y.1 in
      let w = and_yes (leb s₄ d) (leb s₅ e) z.1 in
      record { first = leb_yes x.0; second = leb_yes y.0; third = leb_yes z.0; fourth = leb_yes w.0; fifth = leb_yes w.1 }

  pub no_room : (Room s₁ s₂ s₃ s₄ s₅ a b c d e → ⊥) → false ≡ test
  no_room f = sym (T→false test (not_T test (λ t. f (room_says t))))

  pub has_room : Room s₁ s₂ s₃ s₄ s₅ a b c d e → true ≡ test
  unfolding long_enough
  has_room h =
      sym (is ∙ T→true _
      (yes_and (leb s₁ a) _ (yes_leb h.first)
      (yes_and (leb s₂ b) _ (yes_leb h.second)
      (yes_and (leb s₃ c) _ (yes_leb h.third) (yes_and (leb s₄ d) (leb s₅ e) (yes_leb h.fourth) (yes_leb h.fifth))))))

  pub room_is : true ≡ test → Room s₁ s₂ s₃ s₄ s₅ a b c d e
  room_is h = room_says (subst T h tt)

-- the test in the code is of its opposite
module _ (test : Bool) {x : Bool} (h : x ≡ test) where
  pub lacking : not x ≡ true → false ≡ test
  lacking n = sym (not-true x n) ∙ h

  pub having : not x ≡ false → true ≡ test
  having n = sym (not-false x n) ∙ h

-- ---- one table, up to its size n and past it

module _ (n : ℕ) (l : List ℕ) where
  module _ (h : n ≤ length l) where
    pub part_long : n ≡ length (take n l)
    part_long = sym (length-take-le n l h)

    zeroed_is : zeroed n l ≡ replicate n 0 ++ drop n l
    unfolding zeroed
    zeroed_is = rw (le-leb n (length l) h)

    pub zero_past : padded n [] ++ drop n l ≡ zeroed n l
    zero_past = ap (λ x. x ++ drop n l) (sym (padded_none n)) ∙ sym zeroed_is

    pub past_zero : drop n (zeroed n l) ≡ drop n l
    past_zero = ap (drop n) zeroed_is ∙ drop_at (replicate n 0) (drop n l) n (length-replicate n 0)

  pub zero_padded : length l ≡ n → zeroed n l ≡ padded n []
  zero_padded e =
      let g : length l ≤ n = omega arith in
      zeroed_is (omega arith) ∙ ap (λ x. replicate n 0 ++ x) (drop_of_length-le l g) ∙ append-nil (replicate n 0) ∙ padded_none n

  pub past_padded : (m : List ℕ) → length l ≤ n → drop n (padded n l ++ m) ≡ m
  past_padded m h = drop_at (padded n l) m n (padded_length n l h)

-- ---- what a reader leaves, by a test

-- a refusal leaves what lies past the sizes, whether it clears the room or not
pub past_either : {A B : Type 0} (past : A → B) (b : Bool) {cleared lent : A} → past cleared ≡ past lent → past (cond b cleared lent) ≡ past lent
past_either past true e = e
past_either past false e = refl

pub by_test : {P : Type 0} (b : Bool) → (b ≡ true → P) → (b ≡ false → P) → P
by_test true f g = f refl
by_test false f g = g refl
