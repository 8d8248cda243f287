-- `scan::skip_gap` meets its contract: the gap that is left ends where the gap does.
-- Assumes nothing.
use Prim.Native.Nat.{◌+◌, ◌-◌, ◌≤◌}
use mathlib.Core.Path.{◌≡◌}
use lib.ListN.{length, take, drop}
use Rattle.scan.specs.Answer.{gap_run}
use Rattle.scan.proofs.skip_gap.Given as goal

abbrev pub invariant-loop-at : goal.invariant-loop-at
invariant-loop-at l =
    (l.at ≤ l.end)
    × (l.at + length (gap_run l.white (drop l.at (take l.end l.text))) ≡ l.start + length (gap_run l.white (drop l.start (take l.end l.text))))

abbrev pub decreases-loop-at : goal.decreases-loop-at
decreases-loop-at l = l.end - l.at
