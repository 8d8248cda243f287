use Rattle.std.proofs.Common.{rules, arith}
use Rattle.table_rules.proofs.Entries.{ranges_begin, ranges_end, range_fails, range_goes}
use Rattle.table_rules.proofs.ranges_stand.Goals.{then-first-sum-via-then-first-sum, then-first-sum-via-else-first-sum+then-not-is_bound, then-first-sum-via-else-first-sum+else-not-is_bound+then-not-is_bound-2, then-first-sum-via-else-first-sum+else-not-is_bound+else-not-is_bound-2+then-total-sum}
use Rattle.table_rules.proofs.ranges_stand.Goals as goal

pub loop-i-init : goal.loop-i-init
loop-i-init c = (omega arith, (omega arith, ranges_begin _ _ _))

pub returns-then-first-sum : goal.returns-then-first-sum
returns-then-first-sum c =
    range_fails _ _ _ _ _ c.get_u16-lower.result c.get_u16-upper.result c.from-first.result c.from-count.result _
    c.loop-i.invariant.1.1 c.loop-i-test.true c.requires (omega arith) (omega arith) (omega arith) (omega arith)
    (λ h. elim c.then-first-sum.branch [
      | then-first-sum-via-then-first-sum w ↦ omega arith
      | then-first-sum-via-else-first-sum+then-not-is_bound w ↦ search (rules, h.lower_ok)
      | then-first-sum-via-else-first-sum+else-not-is_bound+then-not-is_bound-2 w ↦ search (rules, h.upper_ok)
      | then-first-sum-via-else-first-sum+else-not-is_bound+else-not-is_bound-2+then-total-sum w ↦ omega arith
    ])

pub loop-i-preserved : goal.loop-i-preserved
loop-i-preserved c = (
  omega arith,
  (
    omega arith,
    range_goes _ _ _ _ _ c.get_u16-lower.result c.get_u16-upper.result c.from-first.result c.from-count.result _
        c.loop-i.invariant.1.1 c.loop-i-test.true c.requires (omega arith) (omega arith) (omega arith) (omega arith)
        (record {
          here = omega arith;
          lower_ok = search rules;
          upper_ok = search rules;
          fits = omega arith;
        }),
  ),
)

pub returns : goal.returns
returns c = ranges_end _ _ _ _ _ _ c.loop-i.invariant.1.1 c.loop-i-test.false
