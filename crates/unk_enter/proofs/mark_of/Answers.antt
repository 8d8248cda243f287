-- `unk_enter::mark_of` meets its contract: what is found among the names, case by case. Assumes nothing.
use native.Mathlib.Omega.{arith}
use mathlib.Core.Path.{ap, ◌∙◌}
use Rattle.std.specs.Prelude.{Ok}
use Rattle.unk_enter.proofs.Marks.{mark_below, mark_category, mark_absent, mark_refused}
use Rattle.unk_enter.proofs.mark_of.Goals as goal

pub overflow_add-result : goal.overflow_add-result
overflow_add-result c = let h = mark_below _ _ _ _ _ _ (c.requires.inside) (c.find_category.ensures) _ (c.in-Ok-Some.is ∙ ap Ok c.in-Ok-Some.field-0-is) in omega arith

pub overflow_cast-result : goal.overflow_cast-result
overflow_cast-result c = let h = mark_below _ _ _ _ _ _ (c.requires.inside) (c.find_category.ensures) _ (c.in-Ok-Some.is ∙ ap Ok c.in-Ok-Some.field-0-is) in omega arith

pub returns-in-Ok-Some : goal.returns-in-Ok-Some
returns-in-Ok-Some c = mark_category _ _ _ _ _ _ (c.requires.inside) (c.find_category.ensures) _ (c.in-Ok-Some.is ∙ ap Ok c.in-Ok-Some.field-0-is)

pub returns-in-Ok-None : goal.returns-in-Ok-None
returns-in-Ok-None c = mark_absent _ _ _ _ _ _ (c.requires.inside) (c.find_category.ensures) (c.in-Ok-None.is ∙ ap Ok c.in-Ok-None.field-0-is)

pub returns-in-Err : goal.returns-in-Err
returns-in-Err c = mark_refused _ _ _ _ _ _ (c.requires.inside) (c.find_category.ensures) _ (c.in-Err.is)
