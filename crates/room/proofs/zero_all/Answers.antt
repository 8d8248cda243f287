-- `room::zero_all` meets its contract: each table is zero to its size. Assumes nothing.
use Rattle.room.proofs.Sizes.{clear_each}
use Rattle.room.proofs.zero_all.Goals as goal

pub returns : goal.returns
returns c = clear_each _ _ _ _ _ _ (c.zero.ensures) (c.zero-2.ensures) (c.zero-3.ensures) (c.zero-4.ensures) (c.zero-5.ensures)
