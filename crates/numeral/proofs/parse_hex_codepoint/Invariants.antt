-- `parse_hex_codepoint`: at each turn what is left, its `0x` taken off, is what the whole part is with its own taken off.
-- Assumes nothing.
use mathlib.Core.Path.{◌≡◌}
use lib.ListN.{length, take, drop}
use Rattle.paper.specs.Computed.ReadText.{strip0x}
use Rattle.numeral.proofs.parse_hex_codepoint.Given as goal

abbrev pub invariant-loop-rest : goal.invariant-loop-rest
invariant-loop-rest l = strip0x l.number ≡ strip0x (drop l.start (take l.end l.text))

abbrev pub decreases-loop-rest : goal.decreases-loop-rest
decreases-loop-rest l = length l.number
