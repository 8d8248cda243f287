use native.Mathlib.Omega.{arith}
use Rattle.line.proofs.Steps.{passed_none, passed_end, passed_other, passed_dot, passed_found}
use Rattle.line.proofs.find_dots.Goals.{else-text-at-eq46-via-then-text-at-eq46+else-text-at-eq46-2, else-text-at-eq46-via-else-text-at-eq46}
use Rattle.line.proofs.find_dots.Goals as goal

pub loop-at-init : goal.loop-at-init
loop-at-init c =
    let a = c.args in
    (omega arith, omega arith, passed_none a.text.now a.start a.end (omega arith))

pub returns-then-text-at-eq46-2 : goal.returns-then-text-at-eq46-2
returns-then-text-at-eq46-2 c =
    let a = c.args in
    passed_found a.text.now a.start a.end (omega arith) c.loop-at.at (omega arith) c.loop-at.invariant.2
    (omega arith) c.if-text-at-eq46.true c.if-text-at-eq46-2.true

pub loop-at-preserved : goal.loop-at-preserved
loop-at-preserved c =
    let a = c.args in
    let t = c.loop-at in
    elim c.else-text-at-eq46.branch [
      | else-text-at-eq46-via-then-text-at-eq46+else-text-at-eq46-2 w ↦
          (omega arith, omega arith, passed_dot a.text.now a.start a.end (omega arith) t.at (omega arith) t.invariant.2 (omega arith) w.if-text-at-eq46-2.false)
      | else-text-at-eq46-via-else-text-at-eq46 w ↦
          (omega arith, omega arith, passed_other a.text.now a.start a.end (omega arith) t.at (omega arith) t.invariant.2 (omega arith) w.if-text-at-eq46.false)
    ]

pub returns : goal.returns
returns c =
    let a = c.args in
    passed_end a.text.now a.start a.end (omega arith) c.loop-at.at (omega arith) c.loop-at.invariant.2 (omega arith) (omega arith)
