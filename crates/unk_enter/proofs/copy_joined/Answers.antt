use native.Mathlib.Omega.{arith}
use Rattle.unk_enter.proofs.Copy.{copy_start, copy_on, copy_done}
use Rattle.unk_enter.proofs.copy_joined.Goals as goal

pub loop-i-init : goal.loop-i-init
loop-i-init c = (omega arith, copy_start _ _ _ _ _ (c.requires.inside) (omega arith))

pub loop-i-preserved : goal.loop-i-preserved
loop-i-preserved c = (omega arith, copy_on (c.loop-i.invariant.1) (omega arith) _ (c.joined_byte.ensures))

pub shape_of-details : goal.shape_of-details
shape_of-details c = c.loop-i.invariant.1.long

pub returns : goal.returns
returns c = copy_done (c.loop-i.invariant.1) (omega arith)
