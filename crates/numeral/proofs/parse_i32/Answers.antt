-- `parse_i32`: after `-` digits are read up to i32's lower limit, else a numeral up to its upper.
-- Assumes nothing.
use Rattle.std.proofs.Common.{refl, ap, ◌∙◌, rules, tests}
use Rattle.paper.specs.Sizes.{max_i32, low_i32}
use Rattle.paper.specs.Computed.Numeral.{as_neg, as_pos, signed_numeral}
use Rattle.numeral.specs.declared.Signed.TheVariants.{Plus, Minus}
use Rattle.numeral.proofs.Digits.{negative, positive, signed_by}
use Rattle.numeral.proofs.parse_i32.Goals as goal

pub returns-in-Some : goal.returns-in-Some
returns-in-Some c =
    signed_by Minus as_neg refl (λ n. refl) c.parse_digits.result c.map.result _ c.map.ensures.cases (λ n y k. search (rules, tests))
    ∙ ap as_neg c.parse_digits.ensures
    ∙ negative 10 max_i32 low_i32 c.part_of-number.result.now c.in-Some.digits.now c.in-Some.ensures.cases.0 c.in-Some.ensures.cases.1
    ∙ ap (signed_numeral 10 max_i32 low_i32) c.part_of-number.ensures

pub returns-in-None : goal.returns-in-None
returns-in-None c =
    signed_by Plus as_pos refl (λ n. refl) c.parse_number.result c.map-in-None.result _ c.map-in-None.ensures.cases (λ n y k. search (rules, tests))
    ∙ ap as_pos c.parse_number.ensures
    ∙ positive 10 max_i32 low_i32 c.part_of-number.result.now c.in-None.ensures.cases
    ∙ ap (signed_numeral 10 max_i32 low_i32) c.part_of-number.ensures
