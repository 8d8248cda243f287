use native.Mathlib.Omega.{arith}
use Rattle.by_name.proofs.Placed.{inside_begins, inside_fails, inside_goes, inside_ends}
use Rattle.by_name.proofs.names_inside.Goals as goal

pub loop-i-init : goal.loop-i-init
loop-i-init c = (omega arith, inside_begins c.args.names.now _ _)

pub returns-then-names-start : goal.returns-then-names-start
returns-then-names-start c =
    inside_fails c.args.names.now _ _ _ _ c.loop-i.invariant.1 c.loop-i-test.true c.requires c.from-start.result c.from-len.result
    (omega arith) (omega arith) (omega arith)

pub loop-i-preserved : goal.loop-i-preserved
loop-i-preserved c = (
  omega arith,
  inside_goes c.args.names.now _ _ _ _ c.loop-i.invariant.1 c.loop-i-test.true c.requires c.from-start.result c.from-len.result
      (omega arith) (omega arith) (omega arith),
)

pub returns : goal.returns
returns c = inside_ends c.args.names.now _ _ _ _ c.loop-i.invariant.1 c.loop-i-test.false
