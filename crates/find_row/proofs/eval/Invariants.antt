-- `find_row::eval` meets its contract: each turn halves what is left between `lo` and `hi`, and the search of `Search` goes on.
-- Assumes nothing.
use Rattle.find_row.proofs.Search.{Search}
use Prim.Native.Nat.{◌-◌}
use Rattle.find_row.proofs.eval.Given as goal

abbrev pub invariant-loop-hi : goal.invariant-loop-hi
invariant-loop-hi l = Search l.boundaries l.c l.lo l.hi

abbrev pub decreases-loop-hi : goal.decreases-loop-hi
decreases-loop-hi l = l.hi - l.lo
