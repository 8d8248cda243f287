-- `parse_digits` is the digit loop of the law `loop_reads`: what the loop has left to read says what all digits say.
-- Assumes nothing.
use Prim.Native.Nat.{◌≤◌}
use mathlib.Core.Path.{◌≡◌}
use lib.ListN.{drop}
use Rattle.paper.specs.Computed.Numeral.{spelled_by}
use Rattle.numeral.specs.DigitLoop.{digit_loop}
use Rattle.numeral.proofs.parse_digits.Given as goal

abbrev pub invariant-loop-b : goal.invariant-loop-b
invariant-loop-b l = (l.value ≤ l.limit) × (spelled_by l.base l.limit l.digits ≡ digit_loop l.base l.limit l.value (drop l.b-index l.digits))
