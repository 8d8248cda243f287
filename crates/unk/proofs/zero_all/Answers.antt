-- `unk::zero_all` meets its contract, table by table. Assumes nothing.
use Rattle.unk.proofs.Room.{clear_each}
use Rattle.unk.proofs.zero_all.Goals as goal

pub returns : goal.returns
returns c = let a = c.args in
    clear_each (record { entries = a.entries.now; offsets = a.offsets.now; details = a.details.now; places = a.places.now; members = a.members.now })
    _ _ _ _ _ (c.zero.ensures) (c.zero-2.ensures) (c.zero-3.ensures) (c.zero-4.ensures) (c.zero-5.ensures)
