-- `table_rules::names_stand` meets its contract: the slots that are left stand from here as all do from 0. Assumes nothing.
use Prim.Native.Nat.{◌≤◌}
use mathlib.Core.Path.{◌≡◌}
use Rattle.paper.specs.Tables.Layout.{pieces}
use Rattle.paper.proofs.Tables.Laws.{left}
use Rattle.table_rules.proofs.Entries.{names_test}
use Rattle.table_rules.proofs.names_stand.Given as goal

abbrev pub invariant-loop-i : goal.invariant-loop-i
invariant-loop-i l =
    (l.i ≤ l.n) × ((l.at ≤ l.total) × (names_test l.total l.at (left 4 l.n l.i l.categories) ≡ names_test l.total 0 (pieces 4 l.n l.categories)))
