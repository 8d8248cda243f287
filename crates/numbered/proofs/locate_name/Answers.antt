-- `numbered::locate_name` meets its contract: past the first tests, the slot that was read. Assumes nothing.
use native.Mathlib.Omega.{arith}
use mathlib.Core.Path.{◌∙◌}
use Rattle.numbered.proofs.Numbers.{name_past, name_there}
use Rattle.numbered.proofs.locate_name.Goals as goal

pub returns-then-names-start : goal.returns-then-names-start
returns-then-names-start c =
    name_past _ _ _ _ (omega arith) (omega arith) _ _ (c.from-start.ensures ∙ c.get_u16.ensures) (c.from-len.ensures ∙ c.get_u16-2.ensures) (omega arith)

pub returns : goal.returns
returns c =
    name_there _ _ _ _ (omega arith) (omega arith) _ _ (c.from-start.ensures ∙ c.get_u16.ensures) (c.from-len.ensures ∙ c.get_u16-2.ensures) (omega arith)
