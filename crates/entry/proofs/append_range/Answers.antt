-- `entry::append_range` meets its contract: four writes are one patch by the entry's bytes.
-- Assumes nothing.
use Rattle.paper.proofs.Tables.Append.{four_puts}
use Rattle.entry.proofs.append_range.Goals as goal

pub returns : goal.returns
returns c = four_puts _ _ _ _ _ _ _ _ _ _ c.requires c.put_u16.ensures c.put_u16-2.ensures c.put_u16-3.ensures c.put_u16-4.ensures
