-- `line::find_dots` meets its contract: what was passed stands in front of the pieces of what is left.
-- Assumes nothing.
use Prim.Native.Nat.{◌≤◌}
use Rattle.line.proofs.Steps.{Passed}
use Rattle.line.proofs.find_dots.Given as goal

abbrev pub invariant-loop-at : goal.invariant-loop-at
invariant-loop-at l = (l.start ≤ l.at) × (l.at ≤ l.end) × Passed l.text l.start l.end l.at
