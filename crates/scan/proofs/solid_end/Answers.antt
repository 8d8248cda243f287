use native.Mathlib.Omega.{arith}
use mathlib.Core.Path.{refl, sym, ◌∙◌}
use mathlib.Core.Bool.{true}
use lib.ListN.{take, drop}
use Rattle.scan.specs.Answer.{solid}
use Rattle.scan.proofs.Scan.{end_start, solid_end, white_within, solid_skip, solid_stop, solid_step, width_ascii, width_hash}
use Rattle.scan.proofs.solid_end.Goals as goal

pub loop-at-init : goal.loop-at-init
loop-at-init c =
    let a = c.args in
    (omega arith, sym (end_start a.start (solid (drop a.start (take a.end a.text.now)))))

pub returns-then-b-eq35 : goal.returns-then-b-eq35
returns-then-b-eq35 c =
    let a = c.args in
    let l = a.text.now in
    let i = c.loop-at.at in
    let n = c.loop-at.last in
    let h = c.loop-at.invariant.1 in
    sym
    (solid_stop l i a.end n 0 (width_hash l i a.end (omega arith) (omega arith) (c.if-b-eq35.true)) (omega arith) (omega arith) refl (c.if-b-eq35.true))
    ∙ h

pub loop-at-preserved-else-not-is_gap : goal.loop-at-preserved-else-not-is_gap
loop-at-preserved-else-not-is_gap c =
    let a = c.args in
    let l = a.text.now in
    let i = c.loop-at.at in
    let n = c.loop-at.last in
    let h = c.loop-at.invariant.1 in
    (omega arith, sym (solid_skip l i a.end n 1 (width_ascii l i a.end true (omega arith) (omega arith) (omega arith) (c.is_gap.ensures) c.if-not-is_gap.false) (omega arith) (omega arith)) ∙ h)

pub loop-at-preserved-then-not-is_gap : goal.loop-at-preserved-then-not-is_gap
loop-at-preserved-then-not-is_gap c =
    let a = c.args in
    let l = a.text.now in
    let i = c.loop-at.at in
    let n = c.loop-at.last in
    let h = c.loop-at.invariant.1 in
    (omega arith, sym (solid_step l i a.end n 0 (width_ascii l i a.end true (omega arith) (omega arith) (omega arith) (c.is_gap.ensures) c.if-not-is_gap.true) (omega arith) (omega arith) refl (c.if-b-eq35.false)) ∙ h)

pub wide_gap-w-requires : goal.wide_gap-w-requires
wide_gap-w-requires c = record { here = omega arith; within = omega arith; high = omega arith }

pub loop-at-preserved-then-w-eq0 : goal.loop-at-preserved-then-w-eq0
loop-at-preserved-then-w-eq0 c =
    let a = c.args in
    let l = a.text.now in
    let i = c.loop-at.at in
    let n = c.loop-at.last in
    let h = c.loop-at.invariant.1 in
    (omega arith, sym (solid_step l i a.end n (c.wide_gap-w.result) (c.wide_gap-w.ensures) (omega arith) (omega arith) (omega arith) (c.if-b-eq35.false)) ∙ h)

pub overflow_add-at-else-w-eq0 : goal.overflow_add-at-else-w-eq0
overflow_add-at-else-w-eq0 c =
    let a = c.args in
    let l = a.text.now in
    let i = c.loop-at.at in
    let n = c.loop-at.last in
    omega (arith, (white_within l i a.end n (c.wide_gap-w.result) (c.wide_gap-w.ensures) (omega arith)))

pub loop-at-smaller : goal.loop-at-smaller
loop-at-smaller c =
    let a = c.args in
    let l = a.text.now in
    let i = c.loop-at.at in
    let n = c.loop-at.last in
    omega (arith, (white_within l i a.end n (c.wide_gap-w.result) (c.wide_gap-w.ensures) (omega arith)))

pub loop-at-preserved : goal.loop-at-preserved
loop-at-preserved c =
    let a = c.args in
    let l = a.text.now in
    let i = c.loop-at.at in
    let n = c.loop-at.last in
    let h = c.loop-at.invariant.1 in
    (omega (arith, (white_within l i a.end n (c.wide_gap-w.result) (c.wide_gap-w.ensures) (omega arith))), sym (solid_skip l i a.end n (c.wide_gap-w.result) (c.wide_gap-w.ensures) (omega arith) (omega arith)) ∙ h)

pub returns : goal.returns
returns c =
    let a = c.args in
    let l = a.text.now in
    let i = c.loop-at.at in
    let n = c.loop-at.last in
    let h = c.loop-at.invariant.1 in
    sym (solid_end l i a.end n (omega arith)) ∙ h
