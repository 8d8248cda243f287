-- `seek::holds_at` meets its contract. Assumes nothing.
use Prim.Native.Nat.{◌-◌}
use native.Mathlib.Omega.{arith}
use Rattle.seek.proofs.Compare.{nothing_there, too_long, byte_fails, all_there}
use Rattle.seek.proofs.holds_at.Goals.{then-names-len-via-then-names-len, then-names-len-via-else-names-len+then-names-len-2, then-names-len-via-else-names-len+else-names-len-2+then-text-end}
use Rattle.seek.proofs.holds_at.Goals as goal

pub returns-then-end-start : goal.returns-then-end-start
returns-then-end-start c = let a = c.args in nothing_there a.text.now a.names.now a.start a.end a.at c.if-end-start.true

pub returns-then-names-len : goal.returns-then-names-len
returns-then-names-len c =
    let a = c.args in
    elim c.then-names-len.branch [
      | then-names-len-via-then-names-len w ↦ too_long a.text.now a.names.now a.start a.end a.at (omega arith) (omega arith) (omega arith)
      | then-names-len-via-else-names-len+then-names-len-2 w ↦ too_long a.text.now a.names.now a.start a.end a.at (omega arith) (omega arith) (omega arith)
      | then-names-len-via-else-names-len+else-names-len-2+then-text-end w ↦
          byte_fails a.text.now a.names.now a.start a.end a.at (a.end - a.start - 1) _ _ (omega arith) (omega arith) (omega arith) w.if-text-end.true
    ]

pub returns : goal.returns
returns c = let a = c.args in all_there a.text.now a.names.now a.start a.end a.at _ c.eq.ensures
