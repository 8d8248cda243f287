-- `window::gather` meets its contract: each turn passes over a slot or puts it behind the others.
-- Assumes nothing.
use lib.ListN.{length}
use Rattle.window.proofs.Gathering.{Gathering}
use Rattle.window.proofs.gather.Given as goal

abbrev pub invariant-loop-i : goal.invariant-loop-i
invariant-loop-i l = Gathering l.ranges l.from l.to (length l.initial.near) l.near l.i l.n
