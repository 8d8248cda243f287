-- `pack_body::read_body` meets its contract. Assumes nothing.
use native.Mathlib.Omega.{arith}
use Rattle.std.proofs.lemmas.Result.{err_from_is_err_and}
use Rattle.pack_body.proofs.Body.{no_names, no_definitions, no_ranges, names_broke, tail_broke, body_in}
use Rattle.pack_body.proofs.read_body.Goals as goal

pub read_names-requires-clause-stored : goal.read_names-requires-clause-stored
read_names-requires-clause-stored c = no_names c.requires.references_value

pub returns-in_err-bytes : goal.returns-in_err-bytes
returns-in_err-bytes c =
    let a = c.args in
    let p = err_from_is_err_and c.from_residual.result c.from_residual.ensures.1 in
    rw (p.1, p.2) (names_broke a.pack.now a.from.at a.head c.in_err-bytes.ensures)

pub read_tail-requires-clause-definitions_value : goal.read_tail-requires-clause-definitions_value
read_tail-requires-clause-definitions_value c = no_definitions c.requires.references_value

pub read_tail-requires-clause-ranged : goal.read_tail-requires-clause-ranged
read_tail-requires-clause-ranged c = no_ranges c.requires.references_value

pub returns-in_err-next : goal.returns-in_err-next
returns-in_err-next c =
    let a = c.args in
    let p = err_from_is_err_and c.from_residual-in_err-next.result c.from_residual-in_err-next.ensures.1 in
    rw (p.1, p.2) (tail_broke a.pack.now a.from.at a.head _ _ _ _ c.in_ok-bytes.ensures c.in_err-next.ensures)

pub returns : goal.returns
returns c =
    let a = c.args in
    body_in a.pack.now a.from.at a.head _ _ _ _ c.in_ok-bytes.ensures _ _ _ c.in_ok-next.ensures
