-- `unk_enter::put_entry` meets its contract: four writes are one patch by the entry's bytes. Assumes nothing.
use Rattle.unk_enter.proofs.Patches.{word_put}
use Rattle.unk_enter.proofs.put_entry.Goals as goal

pub returns : goal.returns
returns c = word_put _ _ _ _ _ _ _ _ _ _ (c.requires) (c.put_u16.ensures) (c.put_u16-2.ensures) (c.put_u16-3.ensures) (c.put_u16-4.ensures)
