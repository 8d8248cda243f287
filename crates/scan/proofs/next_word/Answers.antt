-- `scan::next_word` meets its contract: a word stands from behind the gap in front to the next gap.
-- Assumes nothing.
use native.Mathlib.Omega.{arith}
use Rattle.numeral.proofs.Smaller.{least_min}
use Rattle.scan.proofs.Steps.{no_next, from_in, next_is}
use Rattle.scan.proofs.next_word.Goals as goal

pub returns-then-stop-start : goal.returns-then-stop-start
returns-then-stop-start c =
    let a = c.args in
    let l = a.text.now in
    no_next l a.end c.min-stop.result (least_min _ _ c.min-stop.ensures) a.start a.white (omega arith)

pub word_end-requires : goal.word_end-requires
word_end-requires c =
    let a = c.args in
    let l = a.text.now in
    record { order = from_in l a.end c.min-stop.result (least_min _ _ c.min-stop.ensures) a.start c.skip_gap-from.result 0 a.white (omega arith) c.skip_gap-from.ensures; within = omega arith }

pub returns : goal.returns
returns c =
    let a = c.args in
    let l = a.text.now in
    next_is l a.end c.min-stop.result (least_min _ _ c.min-stop.ensures) a.start c.skip_gap-from.result
    c.word_end.result a.white (omega arith) c.skip_gap-from.ensures c.word_end.ensures
