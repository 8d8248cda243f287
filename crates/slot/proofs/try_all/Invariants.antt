-- `slot::try_all` meets its contract: the names whose slots are left decide as all do. Assumes nothing.
use lib.ListN.{take, drop}
use Rattle.slot.proofs.Laid.{Looking}
use Rattle.slot.proofs.try_all.Given as goal

abbrev pub invariant-loop-i : goal.invariant-loop-i
invariant-loop-i l = Looking l.names l.slots l.count (drop l.start (take l.end l.text)) l.i
