-- `put_ranges::put_references` meets its contract: each turn puts one reference more. Assumes nothing.
use native.Mathlib.Omega.{arith}
use mathlib.Core.Path.{◌∙◌}
use Rattle.paper.specs.Pack.Fields.{number_width}
use Rattle.paper.specs.Tables.Layout.{pieces}
use Rattle.put_ranges.specs.Ranges.{numbers_from}
use Rattle.put_field.proofs.Writing.{puts_nothing, puts_both, puts_are}
use Rattle.put_ranges.proofs.Entries.{number_more}
use Rattle.put_ranges.proofs.put_references.Goals as goal

pub loop-i-init : goal.loop-i-init
unfolding numbers_from pieces
loop-i-init c = puts_nothing _ _ _ c.requires.room

pub loop-i-preserved : goal.loop-i-preserved
loop-i-preserved c =
    puts_are (puts_both c.loop-i.invariant c.put-w.ensures)
    (number_more number_width _ _ _ _ _ (omega arith) (omega arith) (c.from.ensures ∙ c.get_u16-number.ensures))
    (omega arith)
