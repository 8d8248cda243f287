-- `scan::body_of` meets its contract: the body stands from behind the gap in front to the end of the last solid byte.
-- Assumes nothing.
use native.Mathlib.Omega.{arith}
use mathlib.Core.Path.{refl}
use mathlib.Core.Bool.{true}
use Rattle.numeral.proofs.Smaller.{least_min}
use Rattle.scan.proofs.Steps.{no_body, from_in, body_is}
use Rattle.scan.proofs.body_of.Goals as goal

pub returns-then-stop-start : goal.returns-then-stop-start
returns-then-stop-start c =
    let a = c.args in
    let l = a.text.now in
    no_body l a.end c.min-stop.result (least_min _ _ c.min-stop.ensures) a.start true (omega arith) refl

pub solid_end-requires : goal.solid_end-requires
solid_end-requires c =
    let a = c.args in
    let l = a.text.now in
    record { order = from_in l a.end c.min-stop.result (least_min _ _ c.min-stop.ensures) a.start c.skip_gap-from.result 0 true (omega arith) c.skip_gap-from.ensures; within = omega arith }

pub returns : goal.returns
returns c =
    let a = c.args in
    let l = a.text.now in
    body_is l a.end c.min-stop.result (least_min _ _ c.min-stop.ensures) a.start c.skip_gap-from.result
    c.solid_end.result true (omega arith) c.skip_gap-from.ensures refl c.solid_end.ensures
