-- `scan::solid_end` meets its contract: what is kept ends at the last place, or past what is kept still.
-- Assumes nothing.
use Prim.Native.Nat.{◌+◌, ◌-◌, ◌≤◌}
use mathlib.Core.Path.{◌≡◌}
use lib.ListN.{length, take, drop}
use Rattle.scan.specs.Answer.{solid}
use Rattle.scan.proofs.Scan.{end_of}
use Rattle.scan.proofs.solid_end.Given as goal

abbrev pub invariant-loop-at : goal.invariant-loop-at
invariant-loop-at l =
    (l.at ≤ l.end) × (end_of l.last l.at (solid (drop l.at (take l.end l.text))) ≡ l.start + length (solid (drop l.start (take l.end l.text))))

abbrev pub decreases-loop-at : goal.decreases-loop-at
decreases-loop-at l = l.end - l.at
