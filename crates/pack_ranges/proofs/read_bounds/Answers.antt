-- `pack_ranges::read_bounds` meets its contract. Assumes nothing.
use native.Mathlib.Omega.{arith}
use Rattle.std.proofs.lemmas.Result.{err_from_is_err_and}
use Rattle.pack_ranges.proofs.Ranging.{bounded, lower_broke, upper_broke, count_broke, bounds_read}
use Rattle.pack_ranges.proofs.read_bounds.Goals as goal

pub returns-in_err-lower : goal.returns-in_err-lower
returns-in_err-lower c =
    let a = c.args in
    let p = err_from_is_err_and c.from_residual.result c.from_residual.ensures.1 in
    rw (p.1, p.2) (lower_broke a.pack.now a.from.at a.known a.total a.used c.in_err-lower.ensures)

pub bound_field-requires-2 : goal.bound_field-requires-2
bound_field-requires-2 c =
    let x = bounded c.args.pack.now c.args.from.at c.in_ok-lower.ensures in
    omega arith

pub returns-in_err-upper : goal.returns-in_err-upper
returns-in_err-upper c =
    let a = c.args in
    let p = err_from_is_err_and c.from_residual-in_err-upper.result c.from_residual-in_err-upper.ensures.1 in
    rw (p.1, p.2) (upper_broke a.pack.now a.from.at a.known a.total a.used c.in_ok-lower.ensures c.in_err-upper.ensures)

pub limited-requires-clause-at_le_max_place : goal.limited-requires-clause-at_le_max_place
limited-requires-clause-at_le_max_place c =
    let x = bounded c.args.pack.now c.args.from.at c.in_ok-lower.ensures in
    let y = bounded c.args.pack.now _ c.in_ok-upper.ensures in
    (omega arith, (omega arith, omega arith))

pub returns-in_err-count : goal.returns-in_err-count
returns-in_err-count c =
    let a = c.args in
    let p = err_from_is_err_and c.from_residual-in_err-count.result c.from_residual-in_err-count.ensures.1 in
    rw (p.1, p.2)
    (count_broke a.pack.now a.from.at a.known a.total a.used c.in_ok-lower.ensures c.in_ok-upper.ensures c.in_err-count.ensures)

pub overflow_cast-bounds : goal.overflow_cast-bounds
overflow_cast-bounds c =
    let x = bounded c.args.pack.now c.args.from.at c.in_ok-lower.ensures in
    omega arith

pub overflow_cast-bounds-2 : goal.overflow_cast-bounds-2
overflow_cast-bounds-2 c =
    let y = bounded c.args.pack.now _ c.in_ok-upper.ensures in
    omega arith

pub returns : goal.returns
returns c =
    let a = c.args in
    bounds_read a.pack.now a.from.at a.known a.total a.used c.in_ok-lower.ensures c.in_ok-upper.ensures c.in_ok-count.ensures
