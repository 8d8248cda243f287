-- What the functions inside this crate promise of a line's fields and numbers.
-- Assumes nothing.
use Rattle.std.specs.Prelude.{ℕ, ◌+◌, ◌≤◌, ◌<◌, ◌≡◌, List, ◌∷◌, length, take, drop}
use Rattle.std.proofs.Math.Option.{Option, none, some}
use Rattle.paper.specs.Sizes.{line_fields}
use Rattle.paper.specs.Lists.{until, cut, is, join_with}
use Rattle.paper.specs.Text.Scalar.{comma}
use Rattle.paper.specs.Numbers.Numeral.{Integer, wrap16}
use Rattle.paper.specs.Unk.Entry.{nul}
use Rattle.unk_line.specs.Line.{joined_fields}
use Rattle.unk_line.specs.declared.FourFields.{FourFields}
use Rattle.std.specs.Prelude.{None, Some}
use Rattle.std.specs.Prelude as code

-- where the commas of a line are sought
abbrev pub comma_at : List ℕ → ℕ → ℕ → ℕ
comma_at text start end = start + length (until (is comma) (drop start (take end text)))

-- the fields of a line from `start` to `end`: the first four, and those behind them
pub record FourAre (text : List ℕ) (start end : ℕ) (f : FourFields) : Type 0 where
  pub behind : List (List ℕ)
  pub are : cut (is comma) (drop start (take end text))
      ≡ drop start (take f.first text)
      ∷ drop (f.first + 1) (take f.second text)
      ∷ drop (f.second + 1) (take f.third text)
      ∷ drop (f.third + 1) (take f.fourth text)
      ∷ behind
  pub joined : join_with nul behind ≡ joined_fields (drop f.more (take end text))
  pub from : start ≤ f.first
  pub one : f.first < f.second
  pub two : f.second < f.third
  pub three : f.third < f.fourth
  pub four : f.fourth ≤ end
  pub rest : f.more ≤ end

abbrev pub FieldsAre : List ℕ → ℕ → ℕ → code.Option FourFields → Type 0
FieldsAre text start end (Some f) = FourAre text start end f
FieldsAre text start end None = length (cut (is comma) (drop start (take end text))) < line_fields

-- the place of the next comma; or none stands there
abbrev pub CommaAt : List ℕ → ℕ → ℕ → code.Option ℕ → Type 0
CommaAt text start end (Some at) = (at ≡ comma_at text start end) × (at < end)
CommaAt text start end None = end ≤ comma_at text start end

-- "cost modulo 65,536 as a signed 16-bit number"
abbrev pub kept_cost : Option Integer → Option ℕ
kept_cost none = none
kept_cost (some i) = some (wrap16 i)
