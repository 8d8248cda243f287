-- `name_rules::names_formed` meets its contract: the names that are left are tested as all are. Assumes nothing.
use Prim.Native.Nat.{◌≤◌}
use mathlib.Core.Path.{◌≡◌}
use Rattle.paper.specs.Lists.{all}
use Rattle.paper.specs.Computed.Rules.{formed}
use Rattle.paper.proofs.Tables.Laws.{left}
use Rattle.name_rules.specs.Placed.{placed_names}
use Rattle.name_rules.proofs.Formed.{formed_at}
use Rattle.name_rules.proofs.names_formed.Given as goal

abbrev pub invariant-loop-i : goal.invariant-loop-i
invariant-loop-i l = (l.i ≤ l.n) × (all (formed_at l.names) (left 4 l.n l.i l.categories) ≡ all formed (placed_names l.n l.categories l.names))
