-- `pack_head::read_head` meets its contract. Assumes nothing.
use native.Mathlib.Omega.{arith}
use Rattle.std.proofs.lemmas.Result.{err_from_is_err_and}
use Rattle.pack_head.proofs.Counting.{version_cut, version_other, version_on, version_read}
use Rattle.pack_head.proofs.read_head.Goals as goal

pub returns-in_err-version : goal.returns-in_err-version
returns-in_err-version c =
    let a = c.args in
    let p = err_from_is_err_and c.from_residual.result c.from_residual.ensures.1 in
    rw (p.1, p.2) (version_cut a.pack.now a.from.at (omega arith) c.in_err-version.ensures)

pub returns-then-version-ne-VERSION : goal.returns-then-version-ne-VERSION
returns-then-version-ne-VERSION c =
    let a = c.args in
    version_other a.pack.now a.from.at (omega arith) c.in_ok-version.ensures (λ e. omega arith)

pub read_counts-requires : goal.read_counts-requires
read_counts-requires c =
    let a = c.args in
    let o = version_on a.pack.now a.from.at (omega arith) c.in_ok-version.ensures (omega arith) in
    omega arith

pub returns : goal.returns
returns c =
    let a = c.args in
    version_read a.pack.now a.from.at (omega arith) c.in_ok-version.ensures (omega arith) c.read_counts.result c.read_counts.ensures
