-- `scan::wide_gap` meets its contract: `white_width` says how wide the gap is, or a byte begins no White_Space, or White_Space is no gap.
-- Assumes nothing.
use native.Mathlib.Omega.{arith}
use mathlib.Core.Path.{sym}
use mathlib.Core.Logic.{inl, inr}
use lib.Seq.{length-take-le}
use Rattle.scan.proofs.Scan.{width_white, width_other, width_none}
use Rattle.scan.proofs.wide_gap.Goals as goal

pub slice_bounds-white_width-end : goal.slice_bounds-white_width-end
slice_bounds-white_width-end c =
    let a = c.args in
    sym (length-take-le a.end a.text.now (omega arith))

pub returns-in_default : goal.returns-in_default
returns-in_default c =
    let a = c.args in
    width_other a.text.now a.at a.end a.white (omega arith) (omega arith) (omega arith) (λ i. omega arith)
    (inl (omega arith)) c.if-not-white.false

pub returns-in_default-2 : goal.returns-in_default-2
returns-in_default-2 c =
    let a = c.args in
    width_other a.text.now a.at a.end a.white (omega arith) (omega arith) (omega arith) (λ i. omega arith)
    (inr (omega arith)) c.if-not-white.false

pub returns-in-194 : goal.returns-in-194
returns-in-194 c =
    let a = c.args in
    width_white a.text.now a.at a.end a.white c.if-not-white.false (c.white_width.ensures)

pub returns-then-not-white : goal.returns-then-not-white
returns-then-not-white c =
    let a = c.args in
    width_none a.text.now a.at a.end a.white (omega arith) (omega arith) (omega arith) c.if-not-white.true
