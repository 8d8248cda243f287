-- `entry::append_definition` meets its contract: three writes are one patch by the definition's bytes.
-- Assumes nothing.
use native.Mathlib.Omega.{arith}
use mathlib.Core.Path.{◌≡◌, ◌∙◌, refl}
use mathlib.Core.Bool.{Bool, true, false}
use mir.Val.{bool_byte}
use lib.ListN.{length-set}
use Rattle.paper.specs.Pack.Fields.{flag}
use Rattle.entry.proofs.Words.{definition_put}
use Rattle.entry.proofs.append_definition.Goals as goal

byte_is_flag : (b : Bool) → bool_byte b ≡ flag b
byte_is_flag true = refl
byte_is_flag false = refl

pub bounds-definitions-at-2 : goal.bounds-definitions-at-2
bounds-definitions-at-2 c = simp length-set (omega arith)

pub returns : goal.returns
returns c =
    definition_put _ _ _ _ _ _ _ _ (omega arith) (c.put_u32.ensures)
    (c.from.ensures ∙ byte_is_flag _) (c.from-2.ensures ∙ byte_is_flag _)
