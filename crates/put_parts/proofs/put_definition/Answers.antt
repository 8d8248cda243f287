-- `put_parts::put_definition` meets its contract: three fields, one behind another. Assumes nothing.
use native.Mathlib.Omega.{arith}
use mathlib.Core.Path.{refl}
use Rattle.put_field.proofs.Writing.{puts_both, puts_are}
use Rattle.put_parts.proofs.Definitions.{definition_fields_lem}
use Rattle.put_parts.proofs.put_definition.Goals as goal

pub returns : goal.returns
returns c =
    puts_are (puts_both c.put-second.ensures (puts_both c.put-third.ensures c.put.ensures))
    (definition_fields_lem c.args.i _ _ _ _ (omega arith) (omega (arith, c.flag_at-invoke.ensures)) (omega (arith, c.flag_at-group.ensures))
    (omega (arith, c.from.ensures, c.get_u32-length.ensures)))
    refl
