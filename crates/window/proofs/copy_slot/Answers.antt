-- `window::copy_slot` meets its contract: four writes are one patch by the slot's bytes.
-- Assumes nothing.
use native.Mathlib.Omega.{arith}
use Rattle.window.proofs.Gathering.{copied}
use Rattle.window.proofs.copy_slot.Goals as goal

pub returns : goal.returns
returns c = copied _ _ _ _ _ _ _ _ _ _ _ _ (omega arith) c.get_u16-lower.ensures c.get_u16-upper.ensures c.get_u16-first.ensures c.get_u16-count.ensures (omega arith) (omega arith) (omega arith) (omega arith) c.put_u16.ensures c.put_u16-2.ensures c.put_u16-3.ensures c.put_u16-4.ensures
