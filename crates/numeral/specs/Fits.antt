-- The four promises by the paper's relations: which answer fits which characters.
-- Assumes nothing.
use Rattle.std.specs.Prelude.{ℕ, ◌≡◌, ◌≢◌, ◌⊎◌, List}
use Rattle.paper.specs.Refusals.{bound_unreadable, bound_mark}
use Rattle.paper.specs.Numbers.Numeral.{Numeral, Integer, pos, neg, SignedNumeral}
use Rattle.paper.specs.CharDef.Line.{stands_for}
use Rattle.paper.specs.CharDef.Line as line
use Rattle.paper.specs.CharDef.BadLine.{Hex16}
use Rattle.numeral.specs.declared.Signed.{Signed}
use Rattle.numeral.specs.declared.Signed.TheVariants as signed
use Rattle.std.specs.Prelude.{Err, None, Ok, Option, Result, Some}

-- the number that the characters spell; or there is none
abbrev pub NumberFits : ℕ → ℕ → List ℕ → Option ℕ → Type 0
NumberFits base limit cs (Some n) = Numeral base limit cs n
NumberFits base limit cs None = (n : ℕ) → Numeral base limit cs n → ⊥

abbrev pub SignedFits : ℕ → ℕ → ℕ → List ℕ → Option Signed → Type 0
SignedFits base top low cs (Some (signed.Plus n)) = SignedNumeral base top low cs (pos n)
SignedFits base top low cs (Some (signed.Minus n)) = SignedNumeral base top low cs (neg n)
SignedFits base top low cs None = (i : Integer) → SignedNumeral base top low cs i → ⊥

abbrev pub Marked : ℕ → Type 0
Marked code = (code ≡ 0xFEFF) ⊎ (code ≡ 0xFFFE)

-- the character that a code stands for, or the refusal of a mark
abbrev pub CodeFits : ℕ → Result ℕ ℕ → Type 0
CodeFits code (Ok b) = (code ≢ 0xFEFF) × (code ≢ 0xFFFE) × (b ≡ stands_for code)
CodeFits code (Err k) = Marked code × (k ≡ bound_mark)

-- why characters are no bound: they are no 16-bit hex number, or one of the two marks
pub data NoBoundBy (cs : List ℕ) (k : ℕ) : Type 0 where
  unreadable : ((code : ℕ) → Hex16 cs code → ⊥) → k ≡ bound_unreadable → NoBoundBy cs k
  mark : (code : ℕ) → Hex16 cs code → Marked code → k ≡ bound_mark → NoBoundBy cs k

-- the bound that the characters say, `0x` in front or not; or why there is none
abbrev pub BoundFits : List ℕ → Result ℕ ℕ → Type 0
BoundFits cs (Ok b) = line.Bound 0 cs b
BoundFits cs (Err k) = NoBoundBy cs k
