-- Digits "of either case" with their values, by computation over the characters below 128: the 22 characters below are digits, and no other
-- character is one.
-- Assumes nothing.
use Prim.Native.Nat.{ℕ, ◌<◌, ◌≤◌}
use native.Mathlib.Omega.{arith}
use native.Mathlib.Decide.{dec_lt}
use mathlib.Core.Path.{◌≡◌, refl}
use mathlib.Core.Logic.{◌⊎◌, inl, inr}
use mathlib.Core.Bool.{Bool, true, false, ◌&&◌, ◌||◌}
use mathlib.Core.List.{List, [], ◌∷◌, map}
use lib.Dec.{T, leb, eqb, eqb→eq}
use mir.Facts.{or_yes}
use borrow.Author.Tests.{lt-leb}
use Rattle.paper.specs.Lists.{any}
use Rattle.paper.specs.Text.Scalar.{between, digit0}
use Rattle.paper.specs.Numbers.Numeral.{digit9, upper_a, upper_f, lower_a, lower_f, no_digit, digit_of}
use Rattle.paper.proofs.Lists.Facts.{below, from_below}
use Rattle.paper.proofs.Examples.CharDef.{bytes_of}

unfoldable pub digits : List ℕ
unfolding bytes_of
digits = bytes_of "0123456789ABCDEFabcdef"

pub digit_values : map digit_of digits ≡ 0 ∷ 1 ∷ 2 ∷ 3 ∷ 4 ∷ 5 ∷ 6 ∷ 7 ∷ 8 ∷ 9 ∷ 10 ∷ 11 ∷ 12 ∷ 13 ∷ 14 ∷ 15 ∷ 10 ∷ 11 ∷ 12 ∷ 13 ∷ 14 ∷ 15 ∷ []
unfolding digit_of digits
digit_values = refl

-- a digit of the list, or no digit of any base
judged : ℕ → Bool
unfolding digits digit_of
judged c = any (eqb c) digits || eqb (digit_of c) no_digit

all_judged : T (below judged 128)
unfolding judged
all_judged = tt

past : (lo hi c : ℕ) → hi < c → between lo hi c ≡ false
past lo hi c h = rw (lt-leb c hi h) (go (leb lo c))
  where
    go : (b : Bool) → (b && false) ≡ false
    go true = refl
    go false = refl

large : (c : ℕ) → 128 ≤ c → digit_of c ≡ no_digit
unfolding digit_of
large c h =
    let a : digit9 < c = omega arith in
    let b : upper_f < c = omega arith in
    let d : lower_f < c = omega arith in
    rw (past digit0 digit9 c a, past upper_a upper_f c b, past lower_a lower_f c d)

pub digits_only : (c : ℕ) → digit_of c < no_digit → T (any (eqb c) digits)
digits_only c worth =
    elim (dec_lt c 128) [
      | yes small ↦ listed (or_yes (any (eqb c) digits) (eqb (digit_of c) no_digit) (unfold judged in from_below judged 128 all_judged c small))
      | no big ↦ absurd (omega (arith, large c (omega arith)))
    ]
  where
    listed : T (any (eqb c) digits) ⊎ T (eqb (digit_of c) no_digit) → T (any (eqb c) digits)
    listed (inl t) = t
    listed (inr e) = let k : digit_of c ≡ no_digit = eqb→eq (digit_of c) no_digit e in absurd (omega arith)
