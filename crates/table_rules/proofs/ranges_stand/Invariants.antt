-- `table_rules::ranges_stand` meets its contract: the slots that are left stand from here as all do from 0. Assumes nothing.
use Prim.Native.Nat.{◌≤◌}
use mathlib.Core.Path.{◌≡◌}
use Rattle.paper.specs.Tables.Layout.{pieces}
use Rattle.paper.proofs.Tables.Laws.{left}
use Rattle.table_rules.proofs.Entries.{ranges_test}
use Rattle.table_rules.proofs.ranges_stand.Given as goal

abbrev pub invariant-loop-i : goal.invariant-loop-i
invariant-loop-i l =
    (l.i ≤ l.n) × ((l.sum ≤ l.total) × (ranges_test l.total l.sum (left 8 l.n l.i l.ranges) ≡ ranges_test l.total 0 (pieces 8 l.n l.ranges)))
