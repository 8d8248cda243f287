-- `name_rules::mark_names` meets its contract: after i turns the first i names' marks stand there. Assumes nothing.
use Prim.Native.Nat.{◌≤◌}
use mathlib.Core.Path.{◌≡◌}
use lib.ListN.{length}
use Rattle.name_rules.specs.Marked.{Marked}
use Rattle.name_rules.proofs.mark_names.Given as goal

abbrev pub invariant-loop-i : goal.invariant-loop-i
invariant-loop-i l = (l.i ≤ l.n) × ((length l.marks ≡ length l.initial.marks) × Marked l.i l.categories l.names l.marks)
