-- `put_ranges::put_bounds` meets its contract: three fields, one behind another. Assumes nothing.
use mathlib.Core.Path.{refl}
use Rattle.put_field.proofs.Writing.{puts_both, puts_are}
use Rattle.put_ranges.proofs.put_bounds.Goals as goal

pub returns : goal.returns
returns c =
    puts_are (puts_both c.put-second.ensures (puts_both c.put-third.ensures c.put.ensures))
    (simp (c.from.ensures, c.from-2.ensures, c.from-3.ensures)) refl
