use native.Mathlib.Omega.{arith}
use Rattle.window.proofs.Gathering.{gathering_start, gathering_far, gathering_near, gathering_done}
use Rattle.window.proofs.gather.Goals as goal
use Rattle.window.proofs.gather.Goals.{then-not-is_far+else-near-n-lt-RANGE_BYTES, else-not-is_far}

pub loop-i-init : goal.loop-i-init
loop-i-init c = gathering_start _ _ _ _ _ (c.fill.ensures.after (λ y e. e))

pub loop-i-preserved : goal.loop-i-preserved
loop-i-preserved c =
    elim c.if-not-is_far.branch [
      | then-not-is_far+else-near-n-lt-RANGE_BYTES w ↦ rw (w.near-is, w.n-is)
          (gathering_near _ _ _ _ _ _ _ c.loop-i.invariant _ c.is_far.ensures _ w.if-not-is_far.true
          (omega (arith, c.loop-i.invariant.fits, c.loop-i.invariant.same_long)) w.copy_slot.ensures)
      | else-not-is_far w ↦ rw (w.near-is, w.n-is) (gathering_far _ _ _ _ _ _ _ c.loop-i.invariant _ c.is_far.ensures w.if-not-is_far.false)
    ]

pub returns : goal.returns
returns c = gathering_done _ _ _ _ _ _ _ _ c.loop-i.invariant (omega arith)
