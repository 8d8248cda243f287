-- `word::lookup_word_ids` meets its contract: the part that was located, which lies in the table. Assumes nothing.
use native.Mathlib.Omega.{arith}
use mathlib.Core.Path.{sym, ◌∙◌}
use Rattle.word.proofs.Words.{ids_inside, ids_held, ids_none}
use Rattle.word.proofs.lookup_word_ids.Goals as goal

pub overflow_add-result : goal.overflow_add-result
overflow_add-result c = let h = ids_inside _ _ _ _ _ (sym (c.in-Ok.is) ∙ c.locate_word_ids.ensures) in omega arith

pub slice_bounds-result-end : goal.slice_bounds-result-end
slice_bounds-result-end c = let h = ids_inside _ _ _ _ _ (sym (c.in-Ok.is) ∙ c.locate_word_ids.ensures) in omega arith

pub returns-in-Ok : goal.returns-in-Ok
returns-in-Ok c = ids_held _ _ _ _ _ (sym (c.in-Ok.is) ∙ c.locate_word_ids.ensures)

pub returns-in-Err : goal.returns-in-Err
returns-in-Err c = ids_none _ _ _ _ _ (sym (c.in-Err.is) ∙ c.locate_word_ids.ensures)
