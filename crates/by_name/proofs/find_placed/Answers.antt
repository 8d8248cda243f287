use native.Mathlib.Omega.{arith}
use Rattle.by_name.proofs.Placed.{place_start, place_done, place_other, place_hit, place_on, start_read, len_read}
use Rattle.by_name.proofs.find_placed.Goals.{then-len-name+else-holds_at, else-len-name}
use Rattle.by_name.proofs.find_placed.Goals as goal

pub loop-i-init : goal.loop-i-init
loop-i-init c = place_start _ _ _ _ c.requires.count_in_bounds c.requires.count_value

pub returns-then-holds_at : goal.returns-then-holds_at
returns-then-holds_at c =
    let s = start_read c.args.categories.now c.args.count c.loop-i.i c.loop-i-test.true c.loop-i.invariant.long in
    let l = len_read c.args.categories.now c.args.count c.loop-i.i c.loop-i-test.true c.loop-i.invariant.long in
    place_hit c.loop-i.invariant c.loop-i-test.true c.from-start.result c.from-len.result c.from-len.result (omega (arith, s)) (omega (arith, l)) (omega arith) _
    c.holds_at.ensures (omega arith) c.if-holds_at.true

pub loop-i-preserved : goal.loop-i-preserved
loop-i-preserved c =
    let s = start_read c.args.categories.now c.args.count c.loop-i.i c.loop-i-test.true c.loop-i.invariant.long in
    let l = len_read c.args.categories.now c.args.count c.loop-i.i c.loop-i-test.true c.loop-i.invariant.long in
    elim c.if-len-name.branch [
      | then-len-name+else-holds_at w ↦
          place_on c.loop-i.invariant c.loop-i-test.true w.from-start.result c.from-len.result c.from-len.result (omega (arith, s)) (omega (arith, l)) (omega arith) _
          w.holds_at.ensures (omega arith) w.if-holds_at.false
      | else-len-name w ↦ place_other c.loop-i.invariant c.loop-i-test.true c.from-len.result (omega (arith, l)) (λ e. omega arith)
    ]

pub returns : goal.returns
returns c = place_done c.loop-i.invariant c.loop-i-test.false
