-- `word::locate_word_ids` meets its contract: the category's entry, then the part that it says. Assumes nothing.
use native.Mathlib.Omega.{arith}
use mathlib.Core.Path.{◌∙◌}
use Rattle.std.proofs.lemmas.Result.{err_from_is_err_and}
use Rattle.word.proofs.Words.{an_entry, ids_refused, ids_located}
use Rattle.word.proofs.locate_word_ids.Goals as goal

pub returns-in_err-at : goal.returns-in_err-at
returns-in_err-at c =
    let p = err_from_is_err_and c.from_residual.result c.from_residual.ensures.1 in
    rw (p.1, p.2) (ids_refused _ _ _ _ _ c.in_err-at.ensures)

pub overflow_add-at : goal.overflow_add-at
overflow_add-at c = let h = an_entry _ _ _ c.args.places.now _ c.in_ok-at.ensures in omega arith

pub returns : goal.returns
returns c = let h = c.from-first.ensures in ids_located _ _ _ _ c.in_ok-at.ensures _ _ (c.from-first.ensures ∙ c.get_u16.ensures) (c.from-size.ensures ∙ c.get_u16-2.ensures) c.span_within.ensures
