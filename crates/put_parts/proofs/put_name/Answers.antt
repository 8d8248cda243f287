-- `put_parts::put_name` meets its contract: the length, and the bytes behind it. Assumes nothing.
use native.Mathlib.Omega.{arith}
use mathlib.Core.Path.{refl}
use Rattle.put_field.proofs.Writing.{puts_both, puts_are}
use Rattle.put_parts.proofs.Names.{name_fields_lem}
use Rattle.put_parts.proofs.put_name.Goals as goal

pub returns : goal.returns
returns c =
    puts_are (puts_both c.put-second.ensures
    c.put_bytes.ensures)
    (name_fields_lem c.args.first
    c.args.n
    _ (omega arith)) refl
