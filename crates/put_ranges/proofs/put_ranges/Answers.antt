-- `put_ranges::put_ranges` meets its contract: each turn puts one range more. Assumes nothing.
use native.Mathlib.Omega.{arith}
use mathlib.Core.Path.{refl}
use Rattle.paper.specs.Tables.Layout.{pieces, ranging}
use Rattle.put_ranges.specs.Ranges.{counts_in}
use Rattle.put_field.proofs.Writing.{puts_nothing, puts_both, puts_are}
use Rattle.put_ranges.proofs.Ranges.{range_sum, range_fits, range_more}
use Rattle.put_ranges.proofs.put_ranges.Goals as goal

pub loop-i-init : goal.loop-i-init
unfolding counts_in pieces ranging
loop-i-init c = (refl, puts_nothing _ _ _ c.requires.room)

pub put_bounds-behind-requires : goal.put_bounds-behind-requires
put_bounds-behind-requires c =
    let f = range_fits _ _ _ _ _ c.loop-i-test.true c.requires.n_in_bounds c.get_u16-count.ensures c.loop-i.invariant.0 in
    record { few = omega arith; room = omega arith }

pub put_references-w-requires : goal.put_references-w-requires
put_references-w-requires c =
    let f = range_fits _ _ _ _ _ c.loop-i-test.true c.requires.n_in_bounds c.get_u16-count.ensures c.loop-i.invariant.0 in
    record { n_in_bounds = omega arith; room = record { few = omega arith; room = omega arith } }

pub loop-i-preserved : goal.loop-i-preserved
loop-i-preserved c = (
  (let s = range_sum _ _ _ _ _ c.loop-i-test.true c.requires.n_in_bounds c.get_u16-count.ensures c.loop-i.invariant.0 in omega arith),
  puts_are (puts_both c.loop-i.invariant.1 (puts_both c.put_bounds-behind.ensures c.put_references-w.ensures))
      (rw c.from.ensures (range_more _ _ _ _ _ c.loop-i-test.true c.requires.n_in_bounds c.get_u16-count.ensures c.loop-i.invariant.0 _ _ _
      c.get_u16-lower.ensures c.get_u16-upper.ensures))
      (omega arith),
)
