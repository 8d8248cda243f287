-- `hold::numbers_known` meets its contract: the numbers that are left are tested as all are. Assumes nothing.
use Prim.Native.Nat.{◌≤◌}
use mathlib.Core.Path.{◌≡◌}
use mathlib.Core.List.{map}
use lib.Dec.{ltb}
use Rattle.paper.specs.Lists.{all}
use Rattle.paper.specs.Tables.Layout.{pieces}
use Rattle.paper.specs.Tables.Lent.{num}
use Rattle.paper.proofs.Tables.Laws.{left}
use Rattle.hold.proofs.Known.{is_known}
use Rattle.hold.proofs.numbers_known.Given as goal

abbrev pub invariant-loop-i : goal.invariant-loop-i
invariant-loop-i l =
    (l.i ≤ l.n) × (all (is_known l.known) (left 2 l.n l.i l.references) ≡ all (λ c. ltb c l.known) (map (num 2 0) (pieces 2 l.n l.references)))
