-- `entry::count_words` meets its contract: the loop keeps `Counting`.
-- Assumes nothing.
use Prim.Native.Nat.{◌-◌}
use Rattle.entry.proofs.Words.{Counting}
use Rattle.entry.proofs.count_words.Given as goal

abbrev pub invariant-loop-at : goal.invariant-loop-at
invariant-loop-at l = Counting l.text l.part.start l.part.end l.at l.n

abbrev pub decreases-loop-at : goal.decreases-loop-at
decreases-loop-at l = l.part.end - l.at
