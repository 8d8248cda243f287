-- `cover::named` meets its contract: each turn notes one slot's numbers or passes over it.
-- Assumes nothing.
use Prim.Native.Nat.{◌-◌}
use Rattle.cover.specs.Slots.{slots_got, covers_got}
use Rattle.cover.proofs.Notes.{Left}
use Rattle.cover.proofs.named.Given as goal

abbrev pub invariant-loop-i : goal.invariant-loop-i
invariant-loop-i l = Left l.stamp (covers_got l.c (slots_got 0 l.count l.ranges) l.references) l.initial.seen l.initial.out l.at (covers_got l.c (slots_got l.i (l.count - l.i) l.ranges) l.references) l.seen l.out l.to
