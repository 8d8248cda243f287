-- `field::copy_bytes` meets its contract. Assumes nothing.
use native.Mathlib.Omega.{arith}
use Rattle.field.proofs.Copy.{one_copied, all_copied}
use Rattle.field.proofs.copy_bytes.Goals as goal

pub loop-i-preserved : goal.loop-i-preserved
loop-i-preserved c = one_copied _ _ _ _ _ _ _ _ c.loop-i.invariant c.loop-i-test.true c.byte_at.ensures

pub returns : goal.returns
returns c = all_copied _ _ _ _ _ _ _ c.loop-i.invariant c.loop-i-test.false (omega arith)
