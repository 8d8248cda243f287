use native.Mathlib.Omega.{arith}
use Rattle.table_rules.proofs.Entries.{all_ends}
use Rattle.hold.proofs.Known.{is_known, numbers_begin, number_fails, number_goes}
use Rattle.hold.proofs.numbers_known.Goals as goal

pub loop-i-init : goal.loop-i-init
loop-i-init c = (omega arith, numbers_begin _ _ _)

pub returns-then-known-c : goal.returns-then-known-c
returns-then-known-c c =
    number_fails c.args.known _ _ _ _ _ c.loop-i.invariant.1
    c.loop-i-test.true c.requires c.get_u16-c.ensures c.if-known-c.true

pub loop-i-preserved : goal.loop-i-preserved
loop-i-preserved c = (omega arith, number_goes c.args.known _ _ _ _ _ c.loop-i.invariant.1 c.loop-i-test.true c.requires c.get_u16-c.ensures c.if-known-c.false)

pub returns : goal.returns
returns c = all_ends 2 (is_known c.args.known) _ _ _ _ c.loop-i.invariant.1 c.loop-i-test.false
