use Prim.Native.Nat.{◌<◌}
use native.Mathlib.Omega.{arith}
use mathlib.Core.Path.{refl, ap, ◌∙◌}
use lib.ListN.{length, length-set}
use Rattle.mark.specs.Mark.{mark}
use Rattle.name_rules.proofs.Mark.{marked_more}
use Rattle.name_rules.proofs.mark_names.Goals as goal

pub loop-i-init : goal.loop-i-init
loop-i-init c = (omega arith, (refl, λ i h. absurd (omega arith)))

pub loop-i-preserved : goal.loop-i-preserved
loop-i-preserved c =
    let h : c.loop-i.i < length c.loop-i.marks = omega arith in (
      omega arith,
      (
        length-set c.loop-i.marks c.loop-i.i c.mark_of.result ∙ c.loop-i.invariant.1.0,
        marked_more _ _ _ c.loop-i.marks _ h c.loop-i.invariant.1.1
            (c.mark_of.ensures ∙ ap mark c.name_at.ensures),
      ),
    )

pub shape_of-marks : goal.shape_of-marks
shape_of-marks c = c.loop-i.invariant.1.0

pub returns : goal.returns
returns c = λ i h. c.loop-i.invariant.1.1 i (omega arith)
