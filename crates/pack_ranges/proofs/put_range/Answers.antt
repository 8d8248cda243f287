-- `pack_ranges::put_range` meets its contract. Assumes nothing.
use native.Mathlib.Omega.{arith}
use Rattle.paper.proofs.Tables.Append.{four_puts}
use Rattle.pack_ranges.proofs.put_range.Goals as goal

pub returns : goal.returns
returns c =
    four_puts _ _ _ _ _ _ _ _ _ _ (omega arith)
    c.put_u16.ensures
    c.put_u16-2.ensures
    c.put_u16-3.ensures c.put_u16-4.ensures
