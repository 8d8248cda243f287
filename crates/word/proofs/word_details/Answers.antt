-- `word::word_details` meets its contract: the part that was located, which lies in the table. Assumes nothing.
use native.Mathlib.Omega.{arith}
use mathlib.Core.Path.{sym, ◌∙◌}
use Rattle.word.proofs.Words.{details_inside, details_held, details_none}
use Rattle.word.proofs.word_details.Goals as goal

pub overflow_add-result : goal.overflow_add-result
overflow_add-result c = let h = details_inside _ _ _ _ _ (sym (c.in-Ok.is) ∙ c.locate_details.ensures) in omega arith

pub slice_bounds-result-end : goal.slice_bounds-result-end
slice_bounds-result-end c = let h = details_inside _ _ _ _ _ (sym (c.in-Ok.is) ∙ c.locate_details.ensures) in omega arith

pub returns-in-Ok : goal.returns-in-Ok
returns-in-Ok c = details_held _ _ _ _ _ (sym (c.in-Ok.is) ∙ c.locate_details.ensures)

pub returns-in-Err : goal.returns-in-Err
returns-in-Err c = details_none _ _ _ _ _ (sym (c.in-Err.is) ∙ c.locate_details.ensures)
