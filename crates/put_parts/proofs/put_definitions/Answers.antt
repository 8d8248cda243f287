-- `put_parts::put_definitions` meets its contract: each turn puts one definition more. Assumes nothing.
use native.Mathlib.Omega.{arith}
use mathlib.Core.Path.{sym}
use Rattle.paper.specs.Pack.Fields.{definition_fields}
use Rattle.paper.specs.Tables.Layout.{definition_size, definition_of, pieces}
use Rattle.put_field.proofs.Writing.{puts_nothing, puts_both, puts_are}
use Rattle.put_parts.proofs.Definitions.{joined_more}
use Rattle.put_parts.proofs.put_definitions.Goals as goal

pub loop-i-init : goal.loop-i-init
unfolding pieces
loop-i-init c = puts_nothing _ _ _ c.requires.room

pub loop-i-preserved : goal.loop-i-preserved
loop-i-preserved c =
    puts_are (puts_both c.loop-i.invariant c.put_definition-w.ensures)
    (sym (joined_more definition_fields definition_of definition_size _ _))
    (omega arith)
