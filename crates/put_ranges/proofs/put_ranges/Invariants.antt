-- `put_ranges::put_ranges` meets its contract: before each turn the ranges so far are put, and `used` is the sum of their counts. Assumes nothing.
use Prim.Native.Nat.{◌+◌, ◌*◌}
use mathlib.Core.Path.{◌≡◌}
use mathlib.Core.List.{map}
use Rattle.paper.specs.Lists.{joined, sum}
use Rattle.paper.specs.Pack.Fields.{range_width, number_width, range_fields}
use Rattle.paper.specs.Tables.Layout.{range_slot_size, slot_of, pieces, ranging}
use Rattle.put_field.specs.Writer.{Puts}
use Rattle.put_ranges.specs.Ranges.{counts_in, all_numbers}
use Rattle.put_ranges.proofs.put_ranges.Given as goal

abbrev pub invariant-loop-i : goal.invariant-loop-i
invariant-loop-i l =
    (l.used ≡ sum (counts_in l.i l.ranges))
    × Puts l.initial.out l.initial.w (joined (map range_fields (ranging (map slot_of (pieces range_slot_size l.i l.ranges)) (all_numbers l.n l.ranges l.references))))
    (range_width * l.i + number_width * l.used) l.out l.w
