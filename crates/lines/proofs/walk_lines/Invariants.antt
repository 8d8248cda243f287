-- `lines::walk_lines` meets its contract: the loop keeps `Walking`, and memory that holds a reading has the sizes.
-- Assumes nothing.
use Prim.Native.Nat.{◌+◌, ◌-◌}
use lib.ListN.{length}
use Rattle.lines.proofs.Walking.{Walking}
use Rattle.lines.proofs.walk_lines.Given as goal

abbrev pub invariant-loop-at : goal.invariant-loop-at
invariant-loop-at l =
    Walking l.text (record { store = l.names; slots = l.slots; definitions = l.definitions; ranges = l.ranges; references = l.references }) l.counts l.line l.at

abbrev pub decreases-loop-at : goal.decreases-loop-at
decreases-loop-at l =
    length l.text + 1 - l.at
