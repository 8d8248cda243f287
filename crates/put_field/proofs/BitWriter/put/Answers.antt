use native.Mathlib.Omega.{arith}
use Rattle.put_field.proofs.Bits.{joined_up}
use Rattle.put_field.proofs.Writing.{emits_none, emits_more, emits_all}
use Rattle.put_field.proofs.BitWriter.put.Goals as goal

pub loop-left-init : goal.loop-left-init
loop-left-init c = emits_none _ _ _ _ (omega arith)

pub loop-left-preserved : goal.loop-left-preserved
loop-left-preserved c = emits_more c.loop-left.invariant (omega arith) (omega arith)

pub returns : goal.returns
returns c =
    let self = c.args.self in
    let e = joined_up c.from.result self.held c.args.value c.args.width c.from.ensures (omega arith) (omega arith) in
    emits_all _ self _ _ _ (omega (arith, e)) c.loop-left.invariant (omega arith)
