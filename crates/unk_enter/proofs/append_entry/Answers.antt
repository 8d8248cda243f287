-- `unk_enter::append_entry` meets its contract: each table has one entry more. Assumes nothing.
use mathlib.Core.Path.{refl}
use Rattle.unk_enter.proofs.Patches.{with_mark}
use Rattle.unk_enter.proofs.append_entry.Goals as goal

pub returns : goal.returns
returns c = let a = c.args in
    record {
      entry_put = with_mark _ a.e.left a.e.right a.e.cost _ (c.put_entry.ensures) (c.mark_of-mark.ensures);
      offset_put = c.put_u32.ensures;
      details_put = c.put_details.ensures;
      entries_more = refl;
      bytes_more = refl;
    }
