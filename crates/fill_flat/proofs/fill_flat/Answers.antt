use native.Mathlib.Omega.{arith}
use Rattle.fill_flat.proofs.Fills.{walk_start, next_rises, row_fits, walk_turn, walk_done}
use Rattle.fill_flat.proofs.fill_flat.Goals as goal

pub loop-w-init : goal.loop-w-init
loop-w-init c = ((walk_start _ _ _ _ c.requires.0 _ _ _ c.open_window-w.ensures.0 c.requires.1.0, omega arith), c.open_window-w.ensures.1)

pub entry_of-entry-requires : goal.entry_of-entry-requires
entry_of-entry-requires c =
    let f = row_fits _ _ _ _ c.requires.0 _ _ _ _ _ _ c.loop-w.invariant.0.0 c.loop-w-test.true _ _ _ c.covering_near-end.ensures _ c.step_on-next.ensures.0 in
    omega (arith, f)

pub loop-w-smaller : goal.loop-w-smaller
loop-w-smaller c =
    omega (arith, next_rises _ _ _ _ c.requires.0 _ _ _ _ _ _ c.loop-w.invariant.0.0 c.loop-w-test.true _ c.step_on-next.ensures.0, c.loop-w-test.true)

pub loop-w-preserved : goal.loop-w-preserved
loop-w-preserved c =
    let r = c.covering_near-end.ensures in
    let n = c.step_on-next.ensures.0 in (
      (walk_turn _ _ _ _ c.requires.0 _ _ _ _ _ _ c.loop-w.invariant.0.0 c.loop-w-test.true _ _ _ r _ n _ _ c.entry_of-entry.ensures c.spread.ensures, (row_fits _ _ _ _ c.requires.0 _ _ _ _ _ _ c.loop-w.invariant.0.0 c.loop-w-test.true _ _ _ r _ n).1),
      c.step_on-next.ensures.1,
    )

pub returns : goal.returns
returns c = walk_done _ _ _ _ c.requires.0 _ _ _ _ _ _ c.loop-w.invariant.0.0 (omega (arith, c.loop-w-test.false)) c.requires.1.1
