-- `pack_ranges::read_range` meets its contract. Assumes nothing.
use Rattle.std.proofs.lemmas.Result.{err_from_is_err_and}
use Rattle.pack_ranges.proofs.Ranging.{range_broken, range_in_lem}
use Rattle.pack_ranges.proofs.read_range.Goals as goal

pub returns-in_err-next : goal.returns-in_err-next
returns-in_err-next c =
    let p = err_from_is_err_and c.from_residual-in_err-next.result c.from_residual-in_err-next.ensures.1 in
    rw (p.1, p.2) (range_broken c.in_ok-b.ensures c.in_err-next.ensures)

pub returns : goal.returns
returns c = range_in_lem c.in_ok-b.ensures _ _ _ _ c.in_ok-next.ensures c.put_range.ensures
