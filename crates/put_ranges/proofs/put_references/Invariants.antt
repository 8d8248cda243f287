-- `put_ranges::put_references` meets its contract: before each turn the references so far are put. Assumes nothing.
use Prim.Native.Nat.{◌*◌}
use mathlib.Core.List.{map}
use Rattle.paper.specs.Pack.Fields.{number_width, field}
use Rattle.put_field.specs.Writer.{Puts}
use Rattle.put_ranges.specs.Ranges.{numbers_from}
use Rattle.put_ranges.proofs.put_references.Given as goal

abbrev pub invariant-loop-i : goal.invariant-loop-i
invariant-loop-i l = Puts l.initial.out l.initial.w (map (field number_width) (numbers_from l.first l.i l.references)) (number_width * l.i) l.out l.w
