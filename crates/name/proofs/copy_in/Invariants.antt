-- `name::copy_in` meets its contract: what is copied so far is a patch of the store. Assumes nothing.
use Prim.Native.Nat.{◌-◌}
use mathlib.Core.Path.{◌≡◌}
use Rattle.name.proofs.Copy.{Copying}
use Rattle.name.proofs.copy_in.Given as goal

abbrev pub invariant-loop-i : goal.invariant-loop-i
invariant-loop-i l = (l.len ≡ l.end - l.start) × Copying l.text l.initial.names l.names l.start l.end l.at l.i
