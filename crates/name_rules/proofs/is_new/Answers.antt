use native.Mathlib.Omega.{arith}
use mathlib.Core.Path.{sym, ◌∙◌}
use Rattle.name_rules.proofs.Mark.{marks_apart}
use Rattle.name_rules.proofs.Once.{new_begins, new_fails, new_goes, new_ends, compared}
use Rattle.name_rules.proofs.Same.{same_is}
use Rattle.name_rules.proofs.is_new.Goals as goal
use Rattle.name_rules.proofs.is_new.Goals.{else-marks-k-via-then-marks-k+else-eq, else-marks-k-via-else-marks-k}

pub loop-k-init : goal.loop-k-init
loop-k-init c = (omega arith, let a = c.args in new_begins a.names.now a.categories.now a.i)

pub returns-then-eq : goal.returns-then-eq
returns-then-eq c =
    let a = c.args in
    new_fails a.names.now a.categories.now a.i c.loop-k.k _
    c.loop-k.invariant.1 c.loop-k-test.true
    (compared _ _ _ _ _ (c.eq.ensures ∙ same_is c.name_at-name.result.now c.name_at.result.now) c.name_at-name.ensures c.name_at.ensures ∙ c.if-eq.true)

pub loop-k-preserved : goal.loop-k-preserved
loop-k-preserved c =
    let a = c.args in
    let m = c.requires.marked in (
      omega arith,
      new_goes a.names.now a.categories.now a.i c.loop-k.k _ c.loop-k.invariant.1 c.loop-k-test.true
          (elim c.else-marks-k.branch [
            | else-marks-k-via-then-marks-k+else-eq w ↦ compared _ _ _ _ _ (w.eq.ensures ∙ same_is c.name_at-name.result.now w.name_at.result.now) c.name_at-name.ensures w.name_at.ensures ∙ w.if-eq.false
            | else-marks-k-via-else-marks-k w ↦
                marks_apart _ _ (λ e. w.if-marks-k.false (m c.loop-k.k (omega arith) ∙ e ∙ sym (m a.i (omega arith))))
          ]),
    )

pub returns : goal.returns
returns c =
    let a = c.args in
    new_ends a.names.now a.categories.now a.i c.loop-k.k _ c.loop-k.invariant.1 c.loop-k-test.false
