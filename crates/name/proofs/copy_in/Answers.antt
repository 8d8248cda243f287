use native.Mathlib.Omega.{arith}
use Rattle.name.proofs.Copy.{copy_start, copy_on, copy_done}
use Rattle.name.proofs.copy_in.Goals as goal

pub loop-i-init : goal.loop-i-init
loop-i-init c = (omega arith, copy_start _ _ _ _ _ (omega arith) (omega arith))

pub loop-i-preserved : goal.loop-i-preserved
loop-i-preserved c = (omega arith, copy_on c.loop-i.invariant.1 (omega arith))

pub shape_of-names : goal.shape_of-names
shape_of-names c = c.loop-i.invariant.1.long

pub returns : goal.returns
returns c = copy_done c.loop-i.invariant.1 (omega arith)
