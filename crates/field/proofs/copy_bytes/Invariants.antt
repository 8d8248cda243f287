-- `field::copy_bytes` meets its contract. Assumes nothing.
use Rattle.field.proofs.Copy.{Copying}
use Rattle.field.proofs.copy_bytes.Given as goal

abbrev pub invariant-loop-i : goal.invariant-loop-i
invariant-loop-i l = Copying l.pack l.at l.n l.to l.initial.room l.room l.i
