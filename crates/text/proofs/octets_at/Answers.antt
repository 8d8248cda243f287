-- `text::octets_at` meets its contract: the octet's class says how the decoder goes on, and what the decoder finds is what is promised.
-- Assumes nothing.
use native.Mathlib.Omega.{arith}
use mathlib.Core.Path.{refl, sym, ◌∙◌}
use Rattle.paper.specs.Computed.Decode.{bad}
use Rattle.text.proofs.Octets.{begins_2, begins_3, begins_4, begins_E0, begins_ED, begins_F0, begins_F4, first_2, first_3, first_4, first_none}
use Rattle.text.proofs.Chars.{answers}
use Rattle.text.proofs.octets_at.Goals as goal

pub three_octets-requires-clause-second : goal.three_octets-requires-clause-second
three_octets-requires-clause-second c = (begins_E0 (c.type_inv.s c.args.at).fits (sym c.class.ensures ∙ c.in-53.is)).second

pub three_octets-requires-in-51-clause-second : goal.three_octets-requires-in-51-clause-second
three_octets-requires-in-51-clause-second c = (begins_3 (c.type_inv.s c.args.at).fits (sym c.class.ensures ∙ c.in-51.is)).second

pub three_octets-requires-in-54-clause-second : goal.three_octets-requires-in-54-clause-second
three_octets-requires-in-54-clause-second c = (begins_ED (c.type_inv.s c.args.at).fits (sym c.class.ensures ∙ c.in-54.is)).second

pub four_octets-requires-clause-second : goal.four_octets-requires-clause-second
four_octets-requires-clause-second c = (begins_F0 (c.type_inv.s c.args.at).fits (sym c.class.ensures ∙ c.in-55.is)).second

pub four_octets-requires-in-52-clause-second : goal.four_octets-requires-in-52-clause-second
four_octets-requires-in-52-clause-second c = (begins_4 (c.type_inv.s c.args.at).fits (sym c.class.ensures ∙ c.in-52.is)).second

pub four_octets-requires-in-56-clause-second : goal.four_octets-requires-in-56-clause-second
four_octets-requires-in-56-clause-second c = (begins_F4 (c.type_inv.s c.args.at).fits (sym c.class.ensures ∙ c.in-56.is)).second

pub returns-in-50 : goal.returns-in-50
returns-in-50 c = answers c.args.s.now c.args.at _ c.requires.at_in_bounds c.two_octets.ensures (first_2 _ (begins_2 (c.type_inv.s c.args.at).fits (sym c.class.ensures ∙ c.in-50.is)).within)

pub returns-in-53 : goal.returns-in-53
returns-in-53 c = answers c.args.s.now c.args.at _ c.requires.at_in_bounds c.three_octets.ensures (first_3 _ (begins_E0 (c.type_inv.s c.args.at).fits (sym c.class.ensures ∙ c.in-53.is)).within)

pub returns-in-51 : goal.returns-in-51
returns-in-51 c = answers c.args.s.now c.args.at _ c.requires.at_in_bounds c.three_octets-in-51.ensures (first_3 _ (begins_3 (c.type_inv.s c.args.at).fits (sym c.class.ensures ∙ c.in-51.is)).within)

pub returns-in-54 : goal.returns-in-54
returns-in-54 c = answers c.args.s.now c.args.at _ c.requires.at_in_bounds c.three_octets-in-54.ensures (first_3 _ (begins_ED (c.type_inv.s c.args.at).fits (sym c.class.ensures ∙ c.in-54.is)).within)

pub returns-in-55 : goal.returns-in-55
returns-in-55 c = answers c.args.s.now c.args.at _ c.requires.at_in_bounds c.four_octets.ensures (first_4 _ (begins_F0 (c.type_inv.s c.args.at).fits (sym c.class.ensures ∙ c.in-55.is)).within)

pub returns-in-52 : goal.returns-in-52
returns-in-52 c = answers c.args.s.now c.args.at _ c.requires.at_in_bounds c.four_octets-in-52.ensures (first_4 _ (begins_4 (c.type_inv.s c.args.at).fits (sym c.class.ensures ∙ c.in-52.is)).within)

pub returns-in-56 : goal.returns-in-56
returns-in-56 c = answers c.args.s.now c.args.at _ c.requires.at_in_bounds c.four_octets-in-56.ensures (first_4 _ (begins_F4 (c.type_inv.s c.args.at).fits (sym c.class.ensures ∙ c.in-56.is)).within)

pub returns-in_default : goal.returns-in_default
returns-in_default c =
    let e = c.class.ensures in
    answers c.args.s.now c.args.at bad c.requires.at_in_bounds refl
    (first_none (c.type_inv.s c.args.at).fits _ c.requires.bound (λ i. let j = rw (← e) at i in omega arith))
