-- `put_parts::put_head` meets its contract: five fields, one behind another. Assumes nothing.
use Rattle.put_field.proofs.Writing.{puts_both, puts_are}
use Rattle.put_parts.proofs.Definitions.{head_fields}
use native.Mathlib.Omega.{arith}
use mathlib.Core.Path.{refl}
use Rattle.put_parts.proofs.put_head.Goals as goal

pub returns : goal.returns
returns c =
    puts_are (puts_both c.put-second.ensures
    (puts_both c.put-third.ensures
    (puts_both c.put-fourth.ensures
    (puts_both c.put-fifth.ensures
    c.put.ensures))))
    (head_fields _ _ _ _ _ _ (omega arith) (omega arith) (omega arith) (omega arith) (omega arith)) refl
