-- `unk_enter::put_details` meets its contract: two writes are one patch. Assumes nothing.
use native.Mathlib.Omega.{arith}
use Rattle.unk_enter.proofs.Copy.{length_and_fields}
use Rattle.unk_enter.proofs.put_details.Goals as goal

pub returns : goal.returns
returns c = length_and_fields _ _ _ _ _ _ _ _ (c.requires.inside) (omega arith) (omega arith) (c.put_u32.ensures) (c.copy_joined.ensures)
