-- What the answers of the program say, in the paper's terms.
-- Assumes nothing.
use Rattle.std.specs.Prelude.{ℕ}
use Rattle.std.proofs.Math.Option.{Option, none, some}
use Rattle.paper.specs.Numbers.Numeral.{Integer, pos, neg}
use Rattle.paper.specs.Computed.ReadText.{BoundFound, bound_is, no_bound}
use Rattle.numeral.specs.declared.Signed.{Signed}
use Rattle.numeral.specs.declared.Signed.TheVariants as signed
use Rattle.std.specs.Prelude.{Err, None, Ok, Result, Some}
use Rattle.std.specs.Prelude as code

abbrev pub said_number : code.Option ℕ → Option ℕ
said_number (Some n) = some n
said_number None = none

abbrev pub said_signed : code.Option Signed → Option Integer
said_signed (Some (signed.Plus n)) = some (pos n)
said_signed (Some (signed.Minus n)) = some (neg n)
said_signed None = none

abbrev pub said_bound : Result ℕ ℕ → BoundFound
said_bound (Ok n) = bound_is n
said_bound (Err k) = no_bound k
