-- `put_parts::put_definitions` meets its contract: before each turn the definitions so far are put. Assumes nothing.
use Prim.Native.Nat.{◌*◌}
use mathlib.Core.List.{map}
use Rattle.paper.specs.Lists.{joined}
use Rattle.paper.specs.Pack.Fields.{definition_width, definition_fields}
use Rattle.paper.specs.Tables.Layout.{definition_size, definition_of, pieces}
use Rattle.put_field.specs.Writer.{Puts}
use Rattle.put_parts.proofs.put_definitions.Given as goal

abbrev pub invariant-loop-i : goal.invariant-loop-i
invariant-loop-i l =
    Puts l.initial.out l.initial.w (joined (map definition_fields (map definition_of (pieces definition_size l.i l.definitions)))) (definition_width * l.i) l.out l.w
