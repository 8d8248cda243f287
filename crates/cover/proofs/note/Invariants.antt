-- `cover::note` meets its contract: each turn notes one number, and what is left of `Notes` gives the whole.
-- Assumes nothing.
use Prim.Native.Nat.{◌-◌}
use Rattle.cover.specs.Slots.{numbers_got}
use Rattle.cover.proofs.Notes.{Left}
use Rattle.cover.proofs.note.Given as goal

abbrev pub invariant-loop-i : goal.invariant-loop-i
invariant-loop-i l = Left l.stamp (numbers_got l.first l.count l.references) l.initial.seen l.initial.out l.at (numbers_got l.i (l.end - l.i) l.references) l.seen l.out l.to
