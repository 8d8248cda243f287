-- `pack_ranges::read_ranges` meets its contract. Assumes nothing.
use native.Mathlib.Omega.{arith}
use Rattle.std.proofs.lemmas.Result.{err_from_is_err_and}
use Rattle.pack_ranges.proofs.Ranging.{no_range_yet, range_off, range_more, all_ranges}
use Rattle.pack_ranges.proofs.read_ranges.Goals as goal

pub loop-i-init : goal.loop-i-init
loop-i-init c = no_range_yet _ _ _ _ _ _ c.requires.ranged

pub returns-in_err-count : goal.returns-in_err-count
returns-in_err-count c =
    let p = err_from_is_err_and c.from_residual.result c.from_residual.ensures.1 in
    rw (p.1, p.2) (range_off _ _ _ _ _ _ _ _ _ c.loop-i.invariant c.loop-i-test.true c.in_err-count.ensures)

pub loop-i-preserved : goal.loop-i-preserved
loop-i-preserved c =
    range_more _ _ _ _ _ _ _ _ _ c.loop-i.invariant c.loop-i-test.true (omega arith) (omega arith) _ _ _ c.in_ok-count.ensures

pub returns : goal.returns
returns c = all_ranges _ _ _ _ _ _ _ _ _ c.loop-i.invariant c.loop-i-test.false
