-- `category_line::parse_category` meets its contract: four words, or refusal 7; three numbers, or refusal 8.
-- Assumes nothing.
use Rattle.std.proofs.Common.{arith}
use mathlib.Core.Path.{◌≡◌, subst}
use Rattle.paper.specs.Refusals.{category_fields}
use Rattle.std.proofs.lemmas.Result.{err_from_is_err_and}
use Rattle.category_line.specs.Asked.{FieldsAre}
use Rattle.category_line.proofs.Lines.{says_not_four, says_no_invoke, says_no_group, says_no_length, says_four}
use Rattle.category_line.proofs.parse_category.Goals as goal

pub returns-in_err-fields : goal.returns-in_err-fields
returns-in_err-fields c =
    let a = c.args in
    let p = err_from_is_err_and c.from_residual.result c.from_residual.ensures.1 in
    let none = subst (FieldsAre a.text.now a.start a.end) c.in_err-fields.ensures.ok_part c.fields_of.ensures in
    let number : c.in_err-fields.field-0.0 ≡ category_fields = grind (arith, c.in_err-fields.ensures.value, c.in_err-fields.ensures.ok_part) in
    rw (p.1, p.2, number) (says_not_four _ none)

pub returns-in_err-invoke : goal.returns-in_err-invoke
returns-in_err-invoke c =
    let a = c.args in
    let p = err_from_is_err_and c.from_residual-in_err-invoke.result c.from_residual-in_err-invoke.ensures.1 in
    let four = subst (FieldsAre a.text.now a.start a.end) c.in_ok-fields.ensures.ok_part c.fields_of.ensures in
    rw (p.1, p.2, c.in_err-invoke.ensures.1) (says_no_invoke four c.in_err-invoke.ensures.0)

pub returns-in_err-group : goal.returns-in_err-group
returns-in_err-group c =
    let a = c.args in
    let p = err_from_is_err_and c.from_residual-in_err-group.result c.from_residual-in_err-group.ensures.1 in
    let four = subst (FieldsAre a.text.now a.start a.end) c.in_ok-fields.ensures.ok_part c.fields_of.ensures in
    rw (p.1, p.2, c.in_err-group.ensures.1) (says_no_group four c.in_ok-invoke.ensures c.in_err-group.ensures.0)

pub returns-in_err-length : goal.returns-in_err-length
returns-in_err-length c =
    let a = c.args in
    let p = err_from_is_err_and c.from_residual-in_err-length.result c.from_residual-in_err-length.ensures.1 in
    let four = subst (FieldsAre a.text.now a.start a.end) c.in_ok-fields.ensures.ok_part c.fields_of.ensures in
    rw (p.1, p.2, c.in_err-length.ensures.1) (says_no_length four c.in_ok-invoke.ensures c.in_ok-group.ensures c.in_err-length.ensures.0)

pub returns : goal.returns
returns c =
    let a = c.args in
    let four = subst (FieldsAre a.text.now a.start a.end) c.in_ok-fields.ensures.ok_part c.fields_of.ensures in
    says_four four c.in_ok-invoke.ensures c.in_ok-group.ensures c.in_ok-length.ensures
