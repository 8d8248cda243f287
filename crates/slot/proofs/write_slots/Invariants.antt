-- `slot::write_slots` meets its contract: the entries of the slots so far are a patch of the table. Assumes nothing.
use Rattle.paper.specs.Sizes.{max_categories}
use Rattle.slot.proofs.Written.{Writing}
use Rattle.slot.proofs.write_slots.Given as goal

abbrev pub invariant-loop-i : goal.invariant-loop-i
invariant-loop-i l = Writing max_categories l.slots l.initial.categories l.categories l.i
