use Rattle.std.proofs.Common.{rules, arith}
use Rattle.table_rules.proofs.Entries.{all_ends}
use Rattle.name_rules.proofs.Formed.{formed_at, formed_begin, formed_fails, formed_goes}
use Rattle.name_rules.proofs.names_formed.Goals as goal

pub loop-i-init : goal.loop-i-init
loop-i-init c = (omega arith, formed_begin _ _ _)

pub returns-then-not-is_formed : goal.returns-then-not-is_formed
returns-then-not-is_formed c =
    formed_fails _ _ _ _ _ _ _ c.loop-i.invariant.1 c.is_formed.ensures
    c.name_at.ensures c.loop-i-test.true (search rules)

pub loop-i-preserved : goal.loop-i-preserved
loop-i-preserved c = (omega arith, formed_goes _ _ _ _ _ _ _ c.loop-i.invariant.1 c.is_formed.ensures c.name_at.ensures c.loop-i-test.true (search rules))

pub returns : goal.returns
returns c = all_ends 4 (formed_at c.args.names.now) _ _ _ _ c.loop-i.invariant.1 c.loop-i-test.false
