-- `unk_line::parse_dictionary_entry` meets its contract: under four fields, or the entry that four fields and three numbers say. Assumes nothing.
use Rattle.std.proofs.Common.{arith}
use mathlib.Core.Path.{◌≡◌, sym, ap, ◌∙◌, subst}
use Rattle.std.proofs.lemmas.Result.{err_from_is_err_and}
use Rattle.paper.specs.Refusals.{unk_fields, unk_number}
use Rattle.numeral.proofs.Smaller.{least_min}
use Rattle.numeral.specs.Said.{said_number, said_signed}
use Rattle.unk_line.specs.Asked.{FieldsAre}
use Rattle.unk_line.proofs.Read.{says_short, says_no_left, says_no_right, says_no_cost, says_four}
use Rattle.unk_line.proofs.parse_dictionary_entry.Goals as goal

pub returns-in_err-fields : goal.returns-in_err-fields
returns-in_err-fields c =
    let a = c.args in
    let p = err_from_is_err_and c.from_residual.result c.from_residual.ensures.1 in
    let few = subst (FieldsAre a.text.now a.start c.min.result) c.in_err-fields.ensures.ok_part c.fields_of.ensures in
    let number : c.in_err-fields.field-0.0 ≡ unk_fields = grind (arith, c.in_err-fields.ensures.value, c.in_err-fields.ensures.ok_part) in
    rw (p.1, p.2, number) (says_short a.text.now a.start a.end (least_min _ _ c.min.ensures) few)

pub returns-in_err-left : goal.returns-in_err-left
returns-in_err-left c =
    let a = c.args in
    let p = err_from_is_err_and c.from_residual-in_err-left.result c.from_residual-in_err-left.ensures.1 in
    let four = subst (FieldsAre a.text.now a.start c.min.result) c.in_ok-fields.ensures.ok_part c.fields_of.ensures in
    let number : c.in_err-left.field-0.0 ≡ unk_number = grind (arith, c.in_err-left.ensures.value, c.in_err-left.ensures.ok_part) in
    rw (p.1, p.2, number)
    (says_no_left a.text.now a.start a.end _ (least_min _ _ c.min.ensures) _ four (sym c.parse_u32.ensures ∙ ap said_number c.in_err-left.ensures.ok_part))

pub returns-in_err-right : goal.returns-in_err-right
returns-in_err-right c =
    let a = c.args in
    let p = err_from_is_err_and c.from_residual-in_err-right.result c.from_residual-in_err-right.ensures.1 in
    let four = subst (FieldsAre a.text.now a.start c.min.result) c.in_ok-fields.ensures.ok_part c.fields_of.ensures in
    let number : c.in_err-right.field-0.0 ≡ unk_number = grind (arith, c.in_err-right.ensures.value, c.in_err-right.ensures.ok_part) in
    rw (p.1, p.2, number)
    (says_no_right a.text.now a.start a.end _ (least_min _ _ c.min.ensures) _ four (sym c.parse_u32.ensures ∙ ap said_number c.in_ok-left.ensures.ok_part)
    (sym c.parse_u32-2.ensures ∙ ap said_number c.in_err-right.ensures.ok_part))

pub returns-in_err-cost : goal.returns-in_err-cost
returns-in_err-cost c =
    let a = c.args in
    let p = err_from_is_err_and c.from_residual-in_err-cost.result c.from_residual-in_err-cost.ensures.1 in
    let four = subst (FieldsAre a.text.now a.start c.min.result) c.in_ok-fields.ensures.ok_part c.fields_of.ensures in
    let number : c.in_err-cost.field-0.0 ≡ unk_number = grind (arith, c.in_err-cost.ensures.value, c.in_err-cost.ensures.ok_part) in
    rw (p.1, p.2, number)
    (says_no_cost a.text.now a.start a.end _ (least_min _ _ c.min.ensures) _ four (sym c.parse_u32.ensures ∙ ap said_number c.in_ok-left.ensures.ok_part)
    (sym c.parse_u32-2.ensures ∙ ap said_number c.in_ok-right.ensures.ok_part) (sym c.parse_i32.ensures ∙ ap said_signed c.in_err-cost.ensures.ok_part))

pub returns : goal.returns
returns c =
    let a = c.args in
    let four = subst (FieldsAre a.text.now a.start c.min.result) c.in_ok-fields.ensures.ok_part c.fields_of.ensures in
    says_four a.text.now a.start a.end _ (least_min _ _ c.min.ensures) _ four (sym c.parse_u32.ensures ∙ ap said_number c.in_ok-left.ensures.ok_part)
    (sym c.parse_u32-2.ensures ∙ ap said_number c.in_ok-right.ensures.ok_part) _ (sym c.parse_i32.ensures ∙ ap said_signed c.in_ok-cost.ensures.ok_part) c.cost_of.ensures
