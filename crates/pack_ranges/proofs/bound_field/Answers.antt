-- `pack_ranges::bound_field` meets its contract. Assumes nothing.
use native.Mathlib.Omega.{arith}
use mathlib.Core.Path.{sym}
use Rattle.std.proofs.lemmas.Result.{err_from_is_err_and}
use Rattle.paper.specs.Refusals.{pack_rule}
use Rattle.pack_field.proofs.Steps.{cut, keeps, breaks}
use Rattle.paper.specs.Pack.Fields.{bound_width}
use Rattle.paper.specs.Pack.Rules.{is_bound}
use Rattle.field.proofs.Promise.{field_small}
use Rattle.pack_ranges.proofs.bound_field.Goals as goal

pub returns-in_err-v : goal.returns-in_err-v
returns-in_err-v c =
    let a = c.args in
    let p = err_from_is_err_and c.from_residual.result c.from_residual.ensures.1 in
    rw (p.1, p.2)
    (cut a.pack.now a.from.at bound_width (omega arith) (omega arith) (omega arith) pack_rule is_bound c.in_err-v.ensures)

pub overflow_cast-v : goal.overflow_cast-v
overflow_cast-v c =
    let a = c.args in
    let h = field_small a.pack.now a.from.at bound_width _ _ _ c.in_ok-v.ensures in
    omega arith

pub returns-then-not-is_bound : goal.returns-then-not-is_bound
returns-then-not-is_bound c =
    let a = c.args in
    breaks a.pack.now a.from.at bound_width (omega arith) (omega arith) (omega arith) pack_rule is_bound
    c.in_ok-v.ensures (sym c.if-not-is_bound.ensures)

pub returns : goal.returns
returns c =
    let a = c.args in
    keeps a.pack.now a.from.at bound_width (omega arith) (omega arith) (omega arith) pack_rule is_bound
    c.in_ok-v.ensures (sym c.if-not-is_bound.ensures)
