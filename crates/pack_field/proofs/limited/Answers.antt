-- `pack_field::limited` meets its contract. Assumes nothing.
use Prim.Native.Nat.{◌+◌}
use native.Mathlib.Omega.{arith}
use Rattle.std.proofs.lemmas.Result.{err_from_is_err_and}
use Rattle.paper.specs.Refusals.{pack_rule}
use Rattle.pack_field.proofs.Steps.{cut, keeps, breaks}
use borrow.Author.Tests.{le-leb, lt-leb}
use Rattle.paper.specs.Computed.ReadPack.{count_rule}
use Rattle.pack_field.proofs.limited.Goals as goal

pub returns-in_err-v : goal.returns-in_err-v
returns-in_err-v c =
    let a = c.args in
    let p = err_from_is_err_and c.from_residual.result c.from_residual.ensures.1 in
    rw (p.1, p.2)
    (cut a.pack.now a.from.at a.width (omega arith) (omega arith) (omega arith) pack_rule (count_rule a.limit a.used) c.in_err-v.ensures)

pub returns-then-limit-used : goal.returns-then-limit-used
returns-then-limit-used c =
    let a = c.args in
    breaks a.pack.now a.from.at a.width (omega arith) (omega arith) (omega arith) pack_rule (count_rule a.limit a.used)
    c.in_ok-v.ensures (lt-leb (a.used + c.in_ok-v.v) a.limit (omega arith))

pub returns : goal.returns
returns c =
    let a = c.args in
    keeps a.pack.now a.from.at a.width (omega arith) (omega arith) (omega arith) pack_rule (count_rule a.limit a.used)
    c.in_ok-v.ensures (le-leb (a.used + c.in_ok-v.v) a.limit (omega arith))
