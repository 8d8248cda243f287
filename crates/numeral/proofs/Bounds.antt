-- What stands before a bound's digits, and which codes are bounds: `0x` taken off at a place of a text, and a code by its cases.
-- Assumes nothing.
use Prim.Native.Nat.{ℕ, ◌≤◌, ◌<◌}
use mathlib.Core.Path.{◌≡◌, refl, sym, ap, ◌∙◌}
use mathlib.Core.Bool.{Bool, true, false, cond, ◌&&◌}
use mathlib.Core.Option.{Option, none, some}
use mathlib.Core.List.{List, [], ◌∷◌}
use lib.Dec.{eqb}
use lib.ListN.{take, drop}
use Rattle.std.specs.Cmp.Lexicographic.{pointwise}
use Rattle.std.proofs.Math.Bool.{and-true}
use Rattle.std.proofs.lemmas.Bool.{false≢true}
use Rattle.paper.proofs.Lists.Facts.{and_false}
use borrow.Author.Tests.{ne_eqb}
use Rattle.paper.specs.Sizes.{max_u16}
use Rattle.paper.specs.Refusals.{bound_unreadable, bound_mark}
use Rattle.paper.specs.Text.Scalar.{digit0, letter_x}
use Rattle.paper.specs.CharDef.Line.{stands_for}
use Rattle.paper.specs.Computed.Numeral.{numeral}
use Rattle.paper.specs.Computed.ReadText.{strip0x, bound_is, no_bound, checked_bound, bound_of}
use Rattle.paper.proofs.Numbers.Read.{numeral_sound}
use Rattle.numeral.proofs.Digits.{below, above, within}

-- ---- `0x`

pub strip_off : (a : ℕ) (s : List ℕ) → eqb a digit0 ≡ false → strip0x (a ∷ s) ≡ a ∷ s
strip_off a [] e = refl
strip_off a (b ∷ s) e = rw e

pub strip_off₂ : (a b : ℕ) (s : List ℕ) → eqb b letter_x ≡ false → strip0x (a ∷ b ∷ s) ≡ a ∷ b ∷ s
strip_off₂ a b s e = go (eqb a digit0)
  where
    go : (x : Bool) → cond (x && eqb b letter_x) (strip0x s) (a ∷ b ∷ s) ≡ a ∷ b ∷ s
    go true = rw e
    go false = refl

pub strip_more : (s rest : List ℕ) → pointwise eqb (take 2 s) (digit0 ∷ letter_x ∷ []) ≡ true → rest ≡ drop 2 s → strip0x rest ≡ strip0x s
strip_more [] rest h e = absurd (false≢true h)
strip_more (a ∷ []) rest h e = absurd (false≢true (sym (and_false (eqb a digit0)) ∙ h))
strip_more (a ∷ b ∷ s) rest h e =
    ap strip0x e ∙ sym (ap (λ x. cond x (strip0x s) (a ∷ b ∷ s)) (ap (λ y. eqb a digit0 && y) (sym (and-true (eqb b letter_x))) ∙ h))

pub strip_none : (s : List ℕ) → pointwise eqb (take 2 s) (digit0 ∷ letter_x ∷ []) ≡ false → strip0x s ≡ s
strip_none [] h = refl
strip_none (a ∷ []) h = refl
strip_none (a ∷ b ∷ s) h = ap (λ x. cond x (strip0x s) (a ∷ b ∷ s)) (ap (λ y. eqb a digit0 && y) (sym (and-true (eqb b letter_x))) ∙ h)

-- ---- a code

module _ (code : ℕ) where
  pub mark : code ≡ 0xFEFF → no_bound bound_mark ≡ checked_bound (some code)
  unfolding checked_bound
  mark e = rw e

  pub swapped : code ≡ 0xFFFE → no_bound bound_mark ≡ checked_bound (some code)
  unfolding checked_bound
  swapped e = rw e

  module _ (f : code ≡ 0xFEFF → ⊥) (g : code ≡ 0xFFFE → ⊥) where
    pub before : code < 0xD800 → bound_is code ≡ checked_bound (some code)
    unfolding checked_bound stands_for
    before h = rw (ne_eqb code 0xFEFF f, ne_eqb code 0xFFFE g, below 0xD800 0xDFFF code h)

    pub behind : 0xDFFF < code → bound_is code ≡ checked_bound (some code)
    unfolding checked_bound stands_for
    behind h = rw (ne_eqb code 0xFEFF f, ne_eqb code 0xFFFE g, above 0xD800 0xDFFF code h)

    pub surrogate : 0xD800 ≤ code → code ≤ 0xDFFF → bound_is 0xFFFD ≡ checked_bound (some code)
    unfolding checked_bound stands_for
    surrogate h k = rw (ne_eqb code 0xFEFF f, ne_eqb code 0xFFFE g, within 0xD800 0xDFFF code h k)

pub no_code : no_bound bound_unreadable ≡ checked_bound none
unfolding checked_bound
no_code = refl

-- what is read in 16 bits fits 16 bits
pub code_small : (cs : List ℕ) (code : ℕ) → some code ≡ numeral 16 max_u16 cs → code ≤ max_u16
code_small cs code e = (numeral_sound 16 max_u16 cs code (sym e)).fits

pub bound_of_lem : (cs number : List ℕ) (o : Option ℕ) → strip0x number ≡ strip0x cs → pointwise eqb (take 2 number) (digit0 ∷ letter_x ∷ []) ≡ false
    → o ≡ numeral 16 max_u16 number → checked_bound o ≡ bound_of cs
unfolding bound_of
bound_of_lem cs number o e n g = ap checked_bound (g ∙ ap (numeral 16 max_u16) (sym (strip_none number n) ∙ e))
