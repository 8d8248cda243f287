-- `pack_head::read_counts` meets its contract. Assumes nothing.
use native.Mathlib.Omega.{arith}
use Rattle.std.proofs.lemmas.Result.{err_from_is_err_and}
use Rattle.paper.specs.Pack.Fields.{categories_width, lines_width}
use Rattle.pack_head.proofs.Counting.{within, first_stop, first_stop_2, first_read}
use Rattle.pack_head.proofs.read_counts.Goals as goal

pub limited-requires-2 : goal.limited-requires-2
limited-requires-2 c =
    let a = c.args in
    let x = within a.pack.now categories_width _ a.from.at c.in_ok-categories.ensures in
    record { at_le_max_place = omega arith; used_le_max_references = omega arith }

pub last_counts-requires : goal.last_counts-requires
last_counts-requires c =
    let a = c.args in
    let x = within a.pack.now categories_width _ a.from.at c.in_ok-categories.ensures in
    let y = within a.pack.now lines_width _ _ c.in_ok-lines.ensures in
    (omega arith, (omega arith, omega arith))

pub returns-in_err-categories : goal.returns-in_err-categories
returns-in_err-categories c =
    let a = c.args in
    let p = err_from_is_err_and c.from_residual.result c.from_residual.ensures.1 in
    rw (p.1, p.2) (first_stop a.pack.now a.from.at c.in_err-categories.ensures)

pub returns-in_err-lines : goal.returns-in_err-lines
returns-in_err-lines c =
    let a = c.args in
    let p = err_from_is_err_and c.from_residual-in_err-lines.result c.from_residual-in_err-lines.ensures.1 in
    rw (p.1, p.2) (first_stop_2 a.pack.now a.from.at c.in_ok-categories.ensures c.in_err-lines.ensures)

pub returns : goal.returns
returns c =
    let a = c.args in
    first_read a.pack.now a.from.at c.in_ok-categories.ensures c.in_ok-lines.ensures c.last_counts.result c.last_counts.ensures
