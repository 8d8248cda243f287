-- `word::word_entry` meets its contract: where the entry begins, then its fields. Assumes nothing.
use native.Mathlib.Omega.{arith}
use Rattle.std.proofs.lemmas.Result.{err_from_is_err_and}
use Rattle.word.proofs.Words.{an_entry, word_refused, word_there}
use Rattle.word.proofs.word_entry.Goals as goal

pub returns-in_err-at : goal.returns-in_err-at
returns-in_err-at c =
    let p = err_from_is_err_and c.from_residual.result c.from_residual.ensures.1 in
    rw (p.1, p.2) (word_refused _ _ _ _ c.in_err-at.ensures)

pub overflow_add-at : goal.overflow_add-at
overflow_add-at c = let h = an_entry _ _ _ c.args.entries.now _ c.in_ok-at.ensures in omega arith

pub overflow_add-at-2 : goal.overflow_add-at-2
overflow_add-at-2 c = let h = an_entry _ _ _ c.args.entries.now _ c.in_ok-at.ensures in omega arith

pub returns : goal.returns
returns c = word_there _ _ _ c.in_ok-at.ensures _ _ _ c.get_u16.ensures c.get_u16-2.ensures c.get_u16-3.ensures
