-- `slot::hint_at` meets its contract: the place that the mark gives. Assumes nothing.
use native.Mathlib.Omega.{arith}
use Rattle.slot.proofs.Hints.{hint_place}
use Rattle.slot.proofs.hint_at.Goals as goal

pub returns : goal.returns
returns c =
    let a = c.args in
    (omega arith, hint_place a.text.now a.start a.end _ (omega arith) (c.mark_of.ensures))
