-- `unk_enter::copy_joined` meets its contract: what is copied so far is a patch of the room. Assumes nothing.
use Prim.Native.Nat.{◌-◌}
use mathlib.Core.Path.{◌≡◌}
use Rattle.unk_enter.proofs.Copy.{Copying}
use Rattle.unk_enter.proofs.copy_joined.Given as goal

abbrev pub invariant-loop-i : goal.invariant-loop-i
invariant-loop-i l = (l.len ≡ l.end - l.start) × Copying l.text l.initial.details l.details l.start l.end l.at l.i
