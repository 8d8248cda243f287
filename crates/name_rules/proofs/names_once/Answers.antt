use Rattle.std.proofs.Common.{rules, arith}
use mathlib.Core.Path.{refl}
use Rattle.name_rules.proofs.Once.{once_begins, once_fails, once_goes, once_ends}
use Rattle.name_rules.proofs.names_once.Goals as goal

pub slice_bounds-mark_names-end : goal.slice_bounds-mark_names-end
slice_bounds-mark_names-end c = refl

pub mark_names-requires : goal.mark_names-requires
mark_names-requires c = c.requires

pub loop-i-init : goal.loop-i-init
loop-i-init c = (omega arith, once_begins _ _ _)

pub is_new-requires : goal.is_new-requires
is_new-requires c = record { i_in_bounds = (omega arith, omega arith); marked = λ k h. c.mark_names.ensures k (omega arith) }

pub returns-then-not-is_new : goal.returns-then-not-is_new
returns-then-not-is_new c =
    once_fails _ _ _ _ _ _ c.loop-i.invariant.1 c.is_new.ensures
    c.loop-i-test.true (search rules)

pub loop-i-preserved : goal.loop-i-preserved
loop-i-preserved c = (omega arith, once_goes _ _ _ _ _ _ c.loop-i.invariant.1 c.is_new.ensures c.loop-i-test.true (search rules))

pub returns : goal.returns
returns c = once_ends _ _ _ _ _ c.loop-i.invariant.1 c.loop-i-test.false
