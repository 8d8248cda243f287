-- `hold::Reading::holds` meets its contract: each of its tests is one of `Held`, and each alone refuses. Assumes nothing.
use mathlib.Core.Path.{ap, ◌∙◌}
use Rattle.paper.specs.Lists.{all}
use Rattle.paper.specs.Computed.HandedIn.{name_slots_in, slots_in, numbers_in}
use Rattle.paper.specs.Computed.Rules.{formed}
use Rattle.paper.specs.Pack.Rules.{once}
use Rattle.paper.proofs.Tables.Trip.{says}
use Rattle.hold.proofs.Held.{not_held, is_held, names_are}
use Rattle.table_rules.proofs.Tests.{passed, clash}
use Rattle.hold.proofs.Reading.holds.Goals as goal

pub returns-then-not-is_enough : goal.returns-then-not-is_enough
returns-then-not-is_enough c = not_held _ _ (λ h. clash _ _ c.is_enough.ensures c.if-not-is_enough.true-raw h.long)

pub names_stand-requires : goal.names_stand-requires
names_stand-requires c = (says _ _ _ _ _ _ (passed _ _ c.is_enough.ensures c.if-not-is_enough.false-raw)).for_categories

pub returns-then-not-names_stand : goal.returns-then-not-names_stand
unfolding name_slots_in
returns-then-not-names_stand c = not_held _ _ (λ h. clash _ _ c.names_stand.ensures c.if-not-names_stand.true-raw h.names_stand)

pub flags_hold-requires : goal.flags_hold-requires
flags_hold-requires c =
    (says _ _ _ _ _ _ (passed _ _ c.is_enough.ensures c.if-not-is_enough.false-raw)).for_definitions

pub returns-then-not-flags_hold : goal.returns-then-not-flags_hold
returns-then-not-flags_hold c = not_held _ _ (λ h. clash _ _ c.flags_hold.ensures c.if-not-flags_hold.true-raw h.flags)

pub ranges_stand-requires : goal.ranges_stand-requires
ranges_stand-requires c =
    (says _ _ _ _ _ _
    (passed _ _ c.is_enough.ensures c.if-not-is_enough.false-raw)).for_ranges

pub returns-then-not-ranges_stand : goal.returns-then-not-ranges_stand
unfolding slots_in
returns-then-not-ranges_stand c = not_held _ _ (λ h. clash _ _ c.ranges_stand.ensures c.if-not-ranges_stand.true-raw h.ranges_stand)

pub numbers_known-requires : goal.numbers_known-requires
numbers_known-requires c =
    (says _ _ _ _ _ _
    (passed _ _ c.is_enough.ensures c.if-not-is_enough.false-raw)
    ).for_references

pub returns-then-not-numbers_known : goal.returns-then-not-numbers_known
unfolding numbers_in
returns-then-not-numbers_known c = not_held _ _ (λ h. clash _ _ c.numbers_known.ensures c.if-not-numbers_known.true-raw h.known)

pub names_formed-requires : goal.names_formed-requires
names_formed-requires c =
    (says _ _ _ _ _ _
    (passed _ _ c.is_enough.ensures c.if-not-is_enough.false-raw)
    ).for_categories

pub returns-then-not-names_formed : goal.returns-then-not-names_formed
returns-then-not-names_formed c =
    not_held _ _
    (λ h. clash _ _ (c.names_formed.ensures ∙ ap (all formed) (names_are _ _ h.long h.names_stand)) c.if-not-names_formed.true-raw h.names_formed)

pub names_once-requires : goal.names_once-requires
names_once-requires c = let e = says _ _ _ _ _ _ (passed _ _ c.is_enough.ensures c.if-not-is_enough.false-raw) in (e.for_categories, e.limits.0)

pub returns-then-not-names_once : goal.returns-then-not-names_once
returns-then-not-names_once c =
    not_held _ _
    (λ h. clash _ _ (c.names_once.ensures ∙ ap once (names_are _ _ h.long h.names_stand)) c.if-not-names_once.true-raw h.names_once)

pub returns : goal.returns
unfolding name_slots_in slots_in numbers_in
returns c =
    let long = passed _ _ c.is_enough.ensures c.if-not-is_enough.false-raw in
    let stand = passed _ _ c.names_stand.ensures c.if-not-names_stand.false-raw in
    is_held _ _
    (record {
      long = long;
      names_stand = stand;
      flags = passed _ _ c.flags_hold.ensures c.if-not-flags_hold.false-raw;
      ranges_stand = passed _ _ c.ranges_stand.ensures c.if-not-ranges_stand.false-raw;
      known = passed _ _ c.numbers_known.ensures c.if-not-numbers_known.false-raw;
      names_formed = passed _ _ (c.names_formed.ensures ∙ ap (all formed) (names_are _ _ long stand)) c.if-not-names_formed.false-raw;
      names_once = passed _ _ (c.names_once.ensures ∙ ap once (names_are _ _ long stand)) c.if-not-names_once.false-raw;
    })
