use native.Mathlib.Omega.{arith}
use Rattle.table_rules.proofs.Entries.{names_begin, names_end, name_fails, name_goes}
use Rattle.table_rules.proofs.names_stand.Goals.{then-start-at-via-then-start-at, then-start-at-via-else-start-at+then-len-eq0, then-start-at-via-else-start-at+else-len-eq0+then-total-at}
use Rattle.table_rules.proofs.names_stand.Goals as goal

pub loop-i-init : goal.loop-i-init
loop-i-init c = (omega arith, (omega arith, names_begin _ _ _))

pub returns-then-start-at : goal.returns-then-start-at
returns-then-start-at c =
    name_fails _ _ _ _ _ c.from-start.result c.from-len.result _
    c.loop-i.invariant.1.1 c.loop-i-test.true c.requires (omega arith) (omega arith)
    (λ h. elim c.then-start-at.branch [
      | then-start-at-via-then-start-at w ↦ omega arith
      | then-start-at-via-else-start-at+then-len-eq0 w ↦ omega arith
      | then-start-at-via-else-start-at+else-len-eq0+then-total-at w ↦ omega arith
    ])

pub loop-i-preserved : goal.loop-i-preserved
loop-i-preserved c = (
  omega arith,
  (
    omega arith,
    name_goes _ _ _ _ _ c.from-start.result c.from-len.result _
        c.loop-i.invariant.1.1 c.loop-i-test.true c.requires (omega arith) (omega arith)
        (record { here = omega arith; some = omega arith; fits = omega arith }),
  ),
)

pub returns : goal.returns
returns c = names_end _ _ _ _ _ _ c.loop-i.invariant.1.1 c.loop-i-test.false
