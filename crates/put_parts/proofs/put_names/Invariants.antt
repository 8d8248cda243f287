-- `put_parts::put_names` meets its contract: before each turn the names so far are put, and `at` is the sum of their lengths. Assumes nothing.
use Prim.Native.Nat.{◌+◌, ◌*◌}
use mathlib.Core.Path.{◌≡◌}
use mathlib.Core.List.{map}
use Rattle.paper.specs.Lists.{joined, sum}
use Rattle.paper.specs.Pack.Fields.{name_length_width, byte_width, name_fields}
use Rattle.paper.specs.Tables.Layout.{split}
use Rattle.put_field.specs.Writer.{Puts}
use Rattle.put_parts.specs.Parts.{lengths_in}
use Rattle.put_parts.proofs.put_names.Given as goal

abbrev pub invariant-loop-i : goal.invariant-loop-i
invariant-loop-i l =
    (l.at ≡ sum (lengths_in l.i l.categories))
    × Puts l.initial.out l.initial.w (joined (map name_fields (split (lengths_in l.i l.categories) l.names))) (name_length_width * l.i + byte_width * l.at) l.out l.w
