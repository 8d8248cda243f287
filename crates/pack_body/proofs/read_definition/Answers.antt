-- `pack_body::read_definition` meets its contract. Assumes nothing.
use native.Mathlib.Omega.{arith}
use Rattle.std.proofs.lemmas.Result.{err_from_is_err_and}
use Rattle.pack_body.proofs.Defined.{invoke_cut, group_cut, length_cut, definition_read}
use Rattle.pack_body.proofs.read_definition.Goals as goal

pub returns-in_err-invoke : goal.returns-in_err-invoke
returns-in_err-invoke c =
    let p = err_from_is_err_and c.from_residual.result c.from_residual.ensures.1 in
    rw (p.1, p.2) (invoke_cut c.args.pack.now c.args.from.at (omega arith) c.in_err-invoke.ensures)

pub returns-in_err-group : goal.returns-in_err-group
returns-in_err-group c =
    let p = err_from_is_err_and c.from_residual-in_err-group.result c.from_residual-in_err-group.ensures.1 in
    rw (p.1, p.2) (group_cut c.args.pack.now c.args.from.at (omega arith) c.in_ok-invoke.ensures c.in_err-group.ensures)

pub returns-in_err-length : goal.returns-in_err-length
returns-in_err-length c =
    let p = err_from_is_err_and c.from_residual-in_err-length.result c.from_residual-in_err-length.ensures.1 in
    rw (p.1, p.2) (length_cut c.args.pack.now c.args.from.at (omega arith) c.in_ok-invoke.ensures c.in_ok-group.ensures c.in_err-length.ensures)

pub returns : goal.returns
returns c = definition_read c.args.pack.now c.args.from.at (omega arith) c.in_ok-invoke.ensures c.in_ok-group.ensures c.in_ok-length.ensures
