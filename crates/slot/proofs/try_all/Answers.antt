use Rattle.slot.proofs.Laid.{look_start, look_done, look_hit, look_on}
use Rattle.slot.proofs.try_all.Goals as goal

pub loop-i-init : goal.loop-i-init
loop-i-init c = look_start _ _ _ _

pub returns-then-is_name : goal.returns-then-is_name
returns-then-is_name c = look_hit (c.loop-i.invariant) (c.loop-i-test.true) _ (c.is_name.ensures) (c.if-is_name.true)

pub loop-i-preserved : goal.loop-i-preserved
loop-i-preserved c = look_on (c.loop-i.invariant) (c.loop-i-test.true) _ (c.is_name.ensures) (c.if-is_name.false)

pub returns : goal.returns
returns c = look_done (c.loop-i.invariant) (c.loop-i-test.false)
