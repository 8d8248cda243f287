-- `word::locate_details` meets its contract: the entry's offset, then the part that stands behind the length there. Assumes nothing.
use Rattle.std.proofs.lemmas.Result.{err_from_is_err_and}
use Rattle.word.proofs.Words.{details_refused, details_located}
use Rattle.word.proofs.locate_details.Goals as goal

pub returns-in_err-at : goal.returns-in_err-at
returns-in_err-at c =
    let p = err_from_is_err_and c.from_residual.result c.from_residual.ensures.1 in
    rw (p.1, p.2) (details_refused _ _ _ _ _ c.in_err-at.ensures)

pub returns : goal.returns
returns c = details_located _ _ _ _ c.in_ok-at.ensures _ _ c.get_u32-offset.ensures c.get_u32-len.ensures c.span_within.ensures
