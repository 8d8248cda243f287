-- `name_rules::is_new` meets its contract: the names that are left are tested as all before name i are. Names of different marks differ.
-- Assumes nothing.
use Prim.Native.Nat.{◌≤◌}
use mathlib.Core.Path.{◌≡◌}
use mathlib.Core.Bool.{not}
use Rattle.paper.specs.Lists.{any, same}
use Rattle.paper.proofs.Tables.Laws.{left}
use Rattle.name_rules.specs.Placed.{name_of, placed_names}
use Rattle.name_rules.proofs.Once.{new_test}
use Rattle.name_rules.proofs.is_new.Given as goal

abbrev pub invariant-loop-k : goal.invariant-loop-k
invariant-loop-k l =
    (l.k ≤ l.i)
    × (new_test l.names l.categories l.i 0 (left 4 l.i l.k l.categories)
    ≡ not (any (same (name_of l.i l.categories l.names)) (placed_names l.i l.categories l.names)))
