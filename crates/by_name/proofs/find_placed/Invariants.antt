-- `by_name::find_placed` meets its contract: the names whose slots are left decide as all do. Assumes nothing.
use Rattle.by_name.proofs.Placed.{Placing}
use Rattle.by_name.proofs.find_placed.Given as goal

abbrev pub invariant-loop-i : goal.invariant-loop-i
invariant-loop-i l = Placing l.names l.categories l.count l.name l.i
