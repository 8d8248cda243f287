use native.Mathlib.Omega.{arith}
use mathlib.Core.Path.{refl}
use Rattle.scan.proofs.Scan.{word_stop_end, word_stop, word_on, width_ascii}
use Rattle.scan.proofs.word_end.Goals.{then-b-lt-ASCII_END+else-is_gap, else-b-lt-ASCII_END+else-wide_gap-gt0}
use Rattle.scan.proofs.word_end.Goals as goal

pub loop-at-init : goal.loop-at-init
loop-at-init c = (omega arith, refl)

pub returns-then-is_gap : goal.returns-then-is_gap
returns-then-is_gap c =
    let a = c.args in
    let l = a.text.now in
    let i = c.loop-at.at in
    omega
    (arith, word_stop l i a.end a.white 1 (width_ascii l i a.end a.white (omega arith) (omega arith) (omega arith) c.is_gap.ensures c.if-is_gap.true) (omega arith) (omega arith))

pub wide_gap-requires : goal.wide_gap-requires
wide_gap-requires c = record { here = omega arith; within = omega arith; high = omega arith }

pub returns-then-wide_gap-gt0 : goal.returns-then-wide_gap-gt0
returns-then-wide_gap-gt0 c =
    let a = c.args in
    let l = a.text.now in
    let i = c.loop-at.at in
    omega (arith, word_stop l i a.end a.white c.wide_gap.result c.wide_gap.ensures (omega arith) (omega arith))

pub loop-at-preserved : goal.loop-at-preserved
loop-at-preserved c =
    let a = c.args in
    let l = a.text.now in
    let i = c.loop-at.at in
    elim c.if-b-lt-ASCII_END.branch [
      | then-b-lt-ASCII_END+else-is_gap w ↦
          (omega arith, omega (arith, word_on l i a.end a.white 0 (width_ascii l i a.end a.white (omega arith) (omega arith) (omega arith) w.is_gap.ensures w.if-is_gap.false) (omega arith) (omega arith) refl))
      | else-b-lt-ASCII_END+else-wide_gap-gt0 w ↦
          (omega arith, omega (arith, word_on l i a.end a.white w.wide_gap.result w.wide_gap.ensures (omega arith) (omega arith) (omega arith)))
    ]

pub returns : goal.returns
returns c =
    let a = c.args in
    let l = a.text.now in
    let i = c.loop-at.at in
    omega (arith, word_stop_end l i a.end a.white (omega arith))
