-- `pack_head::last_counts` meets its contract. Assumes nothing.
use native.Mathlib.Omega.{arith}
use Rattle.std.proofs.lemmas.Result.{err_from_is_err_and}
use Rattle.paper.specs.Pack.Fields.{ranges_width}
use Rattle.pack_head.proofs.Counting.{within, last_stop, last_stop_2, last_read}
use Rattle.pack_head.proofs.last_counts.Goals as goal

pub limited-requires-2 : goal.limited-requires-2
limited-requires-2 c =
    let a = c.args in
    let x = within a.pack.now ranges_width _ a.from.at c.in_ok-ranges.ensures in
    record { at_le_max_place = omega arith; used_le_max_references = omega arith }

pub returns-in_err-ranges : goal.returns-in_err-ranges
returns-in_err-ranges c =
    let a = c.args in
    let p = err_from_is_err_and c.from_residual.result c.from_residual.ensures.1 in
    rw (p.1, p.2) (last_stop a.pack.now a.from.at a.categories a.lines c.in_err-ranges.ensures)

pub returns-in_err-references : goal.returns-in_err-references
returns-in_err-references c =
    let a = c.args in
    let p = err_from_is_err_and c.from_residual-in_err-references.result c.from_residual-in_err-references.ensures.1 in
    rw (p.1, p.2) (last_stop_2 a.pack.now a.from.at a.categories a.lines c.in_ok-ranges.ensures c.in_err-references.ensures)

pub returns : goal.returns
returns c =
    let a = c.args in
    last_read a.pack.now a.from.at a.categories a.lines c.in_ok-ranges.ensures c.in_ok-references.ensures (omega arith) (omega arith)
