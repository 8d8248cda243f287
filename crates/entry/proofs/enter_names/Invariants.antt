-- `entry::enter_names` meets its contract: the loop keeps `Entering`.
-- Assumes nothing.
use Prim.Native.Nat.{◌-◌}
use Rattle.entry.proofs.Words.{Entering}
use Rattle.entry.proofs.enter_names.Given as goal

abbrev pub invariant-loop-at : goal.invariant-loop-at
invariant-loop-at l = Entering l.text l.initial.names l.initial.slots l.initial.references l.initial.counts l.part.start l.part.end l.names l.slots l.references l.at l.counts

abbrev pub decreases-loop-at : goal.decreases-loop-at
decreases-loop-at l = l.part.end - l.at
