-- `by_name::names_inside` meets its contract: the slots that are left decide as all do. Assumes nothing.
use Prim.Native.Nat.{◌≤◌}
use mathlib.Core.Path.{◌≡◌}
use Rattle.paper.specs.Lists.{any}
use Rattle.paper.specs.Rows.Numbers.{name_slots_of, past_store}
use Rattle.by_name.proofs.Placed.{slots_left}
use Rattle.by_name.proofs.names_inside.Given as goal

abbrev pub invariant-loop-i : goal.invariant-loop-i
invariant-loop-i l = (l.i ≤ l.count) × (any (past_store l.names) (slots_left l.categories l.count l.i) ≡ any (past_store l.names) (name_slots_of l.categories l.count))
