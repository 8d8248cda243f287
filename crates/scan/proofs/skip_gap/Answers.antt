use native.Mathlib.Omega.{arith}
use mathlib.Core.Path.{refl}
use Rattle.scan.proofs.Scan.{skip_end, skip_within, skip_on, skip_stop, width_ascii}
use Rattle.scan.proofs.skip_gap.Goals as goal

pub loop-at-init : goal.loop-at-init
loop-at-init c = (omega arith, refl)

pub loop-at-preserved-then-is_gap : goal.loop-at-preserved-then-is_gap
loop-at-preserved-then-is_gap c =
    let a = c.args in
    let l = a.text.now in
    let i = c.loop-at.at in
    (omega arith, omega (arith, skip_on l i a.end a.white 1 (width_ascii l i a.end a.white (omega arith) (omega arith) (omega arith) (c.is_gap.ensures) (c.if-is_gap.true)) (omega arith) (omega arith)))

pub returns-else-is_gap : goal.returns-else-is_gap
returns-else-is_gap c =
    let a = c.args in
    let l = a.text.now in
    let i = c.loop-at.at in
    omega
    (arith, skip_stop l i a.end a.white 0 (width_ascii l i a.end a.white (omega arith) (omega arith) (omega arith) (c.is_gap.ensures) (c.if-is_gap.false)) (omega arith) (omega arith) refl)

pub wide_gap-w-requires : goal.wide_gap-w-requires
wide_gap-w-requires c = record { here = omega arith; within = omega arith; high = omega arith }

pub returns-then-w-eq0 : goal.returns-then-w-eq0
returns-then-w-eq0 c =
    let a = c.args in
    let l = a.text.now in
    let i = c.loop-at.at in
    omega
    (arith, skip_stop l i a.end a.white (c.wide_gap-w.result) (c.wide_gap-w.ensures) (omega arith) (omega arith) (omega arith))

pub overflow_add-at-else-b-lt-ASCII_END : goal.overflow_add-at-else-b-lt-ASCII_END
overflow_add-at-else-b-lt-ASCII_END c =
    let a = c.args in
    let l = a.text.now in
    let i = c.loop-at.at in
    omega (arith, (skip_within l i a.end a.white (c.wide_gap-w.result) (c.wide_gap-w.ensures) (omega arith)))

pub loop-at-smaller : goal.loop-at-smaller
loop-at-smaller c =
    let a = c.args in
    let l = a.text.now in
    let i = c.loop-at.at in
    omega (arith, (skip_within l i a.end a.white (c.wide_gap-w.result) (c.wide_gap-w.ensures) (omega arith)))

pub loop-at-preserved : goal.loop-at-preserved
loop-at-preserved c =
    let a = c.args in
    let l = a.text.now in
    let i = c.loop-at.at in
    let n = (skip_within l i a.end a.white (c.wide_gap-w.result) (c.wide_gap-w.ensures) (omega arith)) in
    (omega arith, omega (arith, skip_on l i a.end a.white (c.wide_gap-w.result) (c.wide_gap-w.ensures) (omega arith) (omega arith)))

pub returns : goal.returns
returns c =
    let a = c.args in
    let l = a.text.now in
    let i = c.loop-at.at in
    omega (arith, skip_end l i a.end a.white (omega arith))
