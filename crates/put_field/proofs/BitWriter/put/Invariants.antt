-- `put_field::BitWriter::put` meets its contract. The field stands behind the bits that wait in one number, and each turn writes the byte that
-- stands highest in it. Assumes nothing.
use Rattle.put_field.proofs.Writing.{Emits}
use Rattle.put_field.proofs.BitWriter.put.Given as goal

abbrev pub invariant-loop-left : goal.invariant-loop-left
invariant-loop-left l = Emits l.initial.out l.initial.at l.initial.left l.held l.out l.at l.left

abbrev pub decreases-loop-left : goal.decreases-loop-left
decreases-loop-left l = l.left
