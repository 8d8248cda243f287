-- `pack_body::read_tail` meets its contract. Assumes nothing.
use native.Mathlib.Omega.{arith}
use Rattle.std.proofs.lemmas.Result.{err_from_is_err_and}
use Rattle.pack_body.proofs.Body.{definitions_long, definitions_broke, ranges_broke, total_broken, tail_in}
use Rattle.pack_body.proofs.read_tail.Goals as goal

pub read_definitions-requires-clause-n_in_bounds : goal.read_definitions-requires-clause-n_in_bounds
read_definitions-requires-clause-n_in_bounds c =
    let l = definitions_long c.requires.definitions_value in
    let f = c.requires.head_fits.lines_fit in
    omega arith

pub returns-in_err-behind : goal.returns-in_err-behind
returns-in_err-behind c =
    let a = c.args in
    let p = err_from_is_err_and c.from_residual.result c.from_residual.ensures.1 in
    rw (p.1, p.2) (definitions_broke a.pack.now a.from.at a.head c.in_err-behind.ensures)

pub returns-in_err-used : goal.returns-in_err-used
returns-in_err-used c =
    let a = c.args in
    let p = err_from_is_err_and c.from_residual-in_err-used.result c.from_residual-in_err-used.ensures.1 in
    rw (p.1, p.2) (ranges_broke a.pack.now a.from.at a.head _ _ _ c.in_ok-behind.ensures c.in_err-used.ensures)

pub returns-then-used-head : goal.returns-then-used-head
returns-then-used-head c =
    let a = c.args in
    total_broken a.pack.now a.from.at a.head _ _ _ c.in_ok-behind.ensures _ _ _ c.in_ok-used.ensures (λ e. omega arith)

pub returns : goal.returns
returns c =
    let a = c.args in
    let q = c.requires in
    tail_in a.pack.now a.from.at a.head _ _ _ c.in_ok-behind.ensures _ _ _ c.in_ok-used.ensures (omega arith) q.head_bound q.head_fits.lines_fit q.definitions_value
