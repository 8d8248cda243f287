use native.Mathlib.Omega.{arith}
use Rattle.entry.proofs.Words.{count_start, count_none, count_on, count_done}
use Rattle.entry.proofs.count_words.Goals as goal

pub loop-at-init : goal.loop-at-init
loop-at-init c = count_start _ _ _ c.requires.order c.requires.within

pub returns-then-w : goal.returns-then-w
returns-then-w c = count_none (c.loop-at.invariant) (c.next_word-w.result) (c.next_word-w.ensures) (omega arith)

pub loop-at-smaller : goal.loop-at-smaller
loop-at-smaller c = let g = c.next_word-w.ensures.from in let k = c.next_word-w.ensures.within (c.loop-at.invariant.upto) in omega arith

pub loop-at-preserved : goal.loop-at-preserved
loop-at-preserved c = count_on (c.loop-at.invariant) (c.next_word-w.result) (c.next_word-w.ensures) (omega arith)

pub returns : goal.returns
returns c = count_done (c.loop-at.invariant) c.loop-at-test.false
