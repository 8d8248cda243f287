-- `name_rules::names_once` meets its contract: the names that are left are new after those before them exactly where no name is there twice.
-- Assumes nothing.
use Prim.Native.Nat.{◌≤◌}
use mathlib.Core.Path.{◌≡◌}
use Rattle.paper.specs.Pack.Rules.{once}
use Rattle.paper.proofs.Tables.Laws.{left}
use Rattle.name_rules.specs.Placed.{placed_names}
use Rattle.name_rules.proofs.Once.{once_test}
use Rattle.name_rules.proofs.names_once.Given as goal

abbrev pub invariant-loop-i : goal.invariant-loop-i
invariant-loop-i l =
    (l.i ≤ l.n)
    × (once_test l.names l.categories l.n (placed_names l.i l.categories l.names) (left 4 l.n l.i l.categories) ≡ once (placed_names l.n l.categories l.names))
