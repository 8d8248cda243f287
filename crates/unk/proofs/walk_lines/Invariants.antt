-- `unk::walk_lines` meets its contract: the loop keeps `Walking`. Assumes nothing.
use Prim.Native.Nat.{◌+◌, ◌-◌}
use lib.ListN.{length}
use Rattle.unk_enter.specs.Lines.{mark_in}
use Rattle.unk.proofs.Walking.{Walking}
use Rattle.unk.proofs.walk_lines.Given as goal

abbrev pub invariant-loop-at : goal.invariant-loop-at
invariant-loop-at l =
    Walking (mark_in l.reading.names.now l.reading.categories.now l.reading.counts.categories) l.text (record { entries = l.entries; offsets = l.offsets; details = l.details }) l.counts l.at

abbrev pub decreases-loop-at : goal.decreases-loop-at
decreases-loop-at l =
    length l.text + 1 - l.at
