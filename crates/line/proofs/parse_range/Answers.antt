-- `line::parse_range` meets its contract: the first word's parts are one, two, or too many.
-- Assumes nothing.
use native.Mathlib.Omega.{arith}
use Rattle.std.proofs.lemmas.Result.{err_from_is_err_and}
use Rattle.line.proofs.Lines.{no_bounds, bad_bound, one_bound, bad_lower, bad_upper, two_bounds, more_bounds}
use Rattle.line.proofs.parse_range.Goals as goal

pub returns-then-bounds : goal.returns-then-bounds
returns-then-bounds c = no_bounds c.next_word-bounds.ensures (omega arith)

pub returns-in_err-both : goal.returns-in_err-both
returns-in_err-both c =
    let p = err_from_is_err_and c.from_residual.result c.from_residual.ensures.1 in
    rw (p.1, p.2) (bad_bound c.next_word-bounds.ensures (omega arith) c.in_default.ensures c.in_err-both.ensures)

pub returns-in_default : goal.returns-in_default
returns-in_default c = one_bound c.next_word-bounds.ensures (omega arith) c.in_default.ensures c.in_ok-both.ensures

pub returns-in_default-find_dots : goal.returns-in_default-find_dots
returns-in_default-find_dots c = more_bounds c.next_word-bounds.ensures (omega arith) c.in-Some.ensures c.in_default-find_dots.ensures

pub returns-in_err-lower : goal.returns-in_err-lower
returns-in_err-lower c =
    let p = err_from_is_err_and c.from_residual-in_err-lower.result c.from_residual-in_err-lower.ensures.1 in
    rw (p.1, p.2) (bad_lower c.next_word-bounds.ensures (omega arith) c.in-Some.ensures c.in-None.ensures c.in_err-lower.ensures)

pub returns-in_err-upper : goal.returns-in_err-upper
returns-in_err-upper c =
    let p = err_from_is_err_and c.from_residual-in_err-upper.result c.from_residual-in_err-upper.ensures.1 in
    rw (p.1, p.2) (bad_upper c.next_word-bounds.ensures (omega arith) c.in-Some.ensures c.in-None.ensures c.in_ok-lower.ensures c.in_err-upper.ensures)

pub returns : goal.returns
returns c = two_bounds c.next_word-bounds.ensures (omega arith) c.in-Some.ensures c.in-None.ensures c.in_ok-lower.ensures c.in_ok-upper.ensures
