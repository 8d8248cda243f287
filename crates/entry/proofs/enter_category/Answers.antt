-- `entry::enter_category` meets its contract: each way through is a case of `Entered`.
-- Assumes nothing.
use native.Mathlib.Omega.{arith}
use lib.ListN.{take, drop}
use Rattle.std.proofs.lemmas.Result.{err_from_is_err_and}
use Rattle.entry.proofs.Entered.{line_lines_full, line_full, line_category}
use Rattle.entry.proofs.enter_category.Goals as goal

pub returns-then-n-ge-MAX_CATEGORY_LINES : goal.returns-then-n-ge-MAX_CATEGORY_LINES
returns-then-n-ge-MAX_CATEGORY_LINES c r z = let a = c.args in let n = drop a.line.name.start (take a.line.name.end a.text.now) in line_lines_full z n a.line.invoke a.line.group a.line.length (omega arith)

pub returns-in_err-e : goal.returns-in_err-e
returns-in_err-e c =
    let a = c.args in
    let n = drop a.line.name.start (take a.line.name.end a.text.now) in
    let p = err_from_is_err_and c.from_residual.result c.from_residual.ensures.1 in
    rw (p.1, p.2)
    (λ r z. line_full z n a.line.invoke a.line.group a.line.length (omega arith) _ (c.in_err-e.ensures r.names z.names).full)

pub returns : goal.returns
returns c r z = let a = c.args in let n = drop a.line.name.start (take a.line.name.end a.text.now) in line_category z n a.line.invoke a.line.group a.line.length (omega arith) _ _ _ (c.in_ok-e.e) (c.in_ok-e.ensures r.names z.names) (c.append_definition.ensures)
