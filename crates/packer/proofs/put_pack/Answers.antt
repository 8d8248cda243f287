-- `packer::put_pack` meets its contract: with the zero bits behind the fields no bit waits. Assumes nothing.
use native.Mathlib.Omega.{arith}
use Rattle.packer.proofs.Whole.{pack_whole}
use Rattle.packer.proofs.put_pack.Goals as goal

pub put-requires : goal.put-requires
put-requires c = record { width_in_bounds = omega arith; room = record { few = omega arith; room = omega arith } }

pub returns : goal.returns
returns c =
    pack_whole _ _ c.put_fields-end.ensures
    c.put.ensures (omega arith) (omega arith)
