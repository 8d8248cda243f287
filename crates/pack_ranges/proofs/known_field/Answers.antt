-- `pack_ranges::known_field` meets its contract. Assumes nothing.
use native.Mathlib.Omega.{arith}
use Rattle.std.proofs.lemmas.Result.{err_from_is_err_and}
use Rattle.paper.specs.Refusals.{pack_rule}
use Rattle.pack_field.proofs.Steps.{cut, keeps, breaks}
use borrow.Author.Tests.{lt-ltb, le-ltb}
use lib.Dec.{ltb}
use Rattle.paper.specs.Pack.Fields.{number_width}
use Rattle.pack_ranges.proofs.known_field.Goals as goal

pub returns-in_err-v : goal.returns-in_err-v
returns-in_err-v c =
    let a = c.args in
    let p = err_from_is_err_and c.from_residual.result c.from_residual.ensures.1 in
    rw (p.1, p.2)
    (cut a.pack.now a.from.at number_width (omega arith) (omega arith) (omega arith) pack_rule (λ x. ltb x a.known) c.in_err-v.ensures)

pub returns-then-known-v : goal.returns-then-known-v
returns-then-known-v c =
    let a = c.args in
    breaks a.pack.now a.from.at number_width (omega arith) (omega arith) (omega arith) pack_rule (λ x. ltb x a.known)
    c.in_ok-v.ensures (le-ltb c.in_ok-v.v a.known (omega arith))

pub returns : goal.returns
returns c =
    let a = c.args in
    keeps a.pack.now a.from.at number_width (omega arith) (omega arith) (omega arith) pack_rule (λ x. ltb x a.known)
    c.in_ok-v.ensures (lt-ltb c.in_ok-v.v a.known (omega arith))
