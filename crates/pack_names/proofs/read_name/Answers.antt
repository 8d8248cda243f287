-- `pack_names::read_name` meets its contract. Assumes nothing.
use native.Mathlib.Omega.{arith}
use Rattle.std.proofs.lemmas.Result.{err_from_is_err_and}
use Rattle.pack_names.proofs.Naming.{no_length, over_length, length_cut, length_on, name_follows}
use Rattle.pack_names.proofs.read_name.Goals as goal
use Rattle.pack_names.proofs.read_name.Goals.{then-len-eq0-via-then-len-eq0, then-len-eq0-via-else-len-eq0+then-used-len}

pub returns-in_err-v : goal.returns-in_err-v
returns-in_err-v c =
    let a = c.args in
    let p = err_from_is_err_and c.from_residual.result c.from_residual.ensures.1 in
    rw (p.1, p.2) (λ ns z. length_cut a.pack.now a.from.at a.used (omega arith) c.in_err-v.ensures ns)

pub returns-then-len-eq0 : goal.returns-then-len-eq0
returns-then-len-eq0 c =
    let a = c.args in
    λ ns z. elim c.then-len-eq0.branch [
      | then-len-eq0-via-then-len-eq0 w ↦ no_length a.pack.now a.from.at a.used (omega arith) c.in_ok-v.ensures w.if-len-eq0.true ns
      | then-len-eq0-via-else-len-eq0+then-used-len w ↦ over_length a.pack.now a.from.at a.used (omega arith) c.in_ok-v.ensures (omega arith) ns
    ]

pub take_name-requires-clause-len_bound : goal.take_name-requires-clause-len_bound
take_name-requires-clause-len_bound c =
    let a = c.args in
    let o = length_on a.pack.now a.from.at a.used (omega arith) c.in_ok-v.ensures (omega arith) (omega arith) in
    omega arith

pub returns : goal.returns
returns c =
    let a = c.args in
    λ ns z. name_follows a.pack.now a.from.at a.used (omega arith) c.in_ok-v.ensures (omega arith) (omega arith) ns _ a.i c.take_name.result
    (c.take_name.ensures ns z)
