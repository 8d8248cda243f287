use native.Mathlib.Omega.{arith}
use mathlib.Core.Path.{sym, ◌∙◌}
use lib.ListN.{length}
use borrow.Author.Tests.{eqb-true, eqb-false}
use Rattle.numeral.proofs.Digits.{began, digit, not_digit, too_great, digits_ended, no_digits, small}
use Rattle.numeral.proofs.parse_digits.Goals as goal

pub returns-then-is_empty : goal.returns-then-is_empty
returns-then-is_empty c = no_digits c.args.base c.args.limit c.args.digits.now (eqb-true _ _ (sym c.is_empty.ensures ∙ c.if-is_empty.true))

pub loop-b-init : goal.loop-b-init
loop-b-init c =
    let n = eqb-false (length c.args.digits.now) 0 (sym c.is_empty.ensures ∙ c.if-is_empty.false) in
    (omega arith, began c.args.base c.args.limit c.args.digits.now (omega arith) (omega arith))

pub returns-then-base-d : goal.returns-then-base-d
returns-then-base-d c =
    let a = c.args in
    let t = c.loop-b in
    sym (t.invariant.1 ∙ not_digit a.digits.now a.base a.limit t.b-index (omega arith) t.value c.digit_of-d.result c.digit_of-d.ensures (omega arith))

pub overflow_mul-value : goal.overflow_mul-value
overflow_mul-value c =
    let a = c.args in
    let t = c.loop-b in
    omega (arith, small t.value a.base a.limit (omega arith) (omega arith) (omega arith))

pub overflow_add-value : goal.overflow_add-value
overflow_add-value c =
    let a = c.args in
    let t = c.loop-b in
    omega (arith, small t.value a.base a.limit (omega arith) (omega arith) (omega arith))

pub returns-then-limit-value : goal.returns-then-limit-value
returns-then-limit-value c =
    let a = c.args in
    let t = c.loop-b in
    sym (t.invariant.1 ∙ too_great a.digits.now a.base a.limit t.b-index (omega arith) t.value c.digit_of-d.result c.digit_of-d.ensures (omega arith) (omega arith))

pub loop-b-preserved : goal.loop-b-preserved
loop-b-preserved c =
    let a = c.args in
    let t = c.loop-b in
    (omega arith, t.invariant.1 ∙ digit a.digits.now a.base a.limit t.b-index (omega arith) t.value c.digit_of-d.result c.digit_of-d.ensures (omega arith) (omega arith))

pub returns : goal.returns
returns c =
    let a = c.args in
    let t = c.loop-b in
    sym (t.invariant.1 ∙ digits_ended a.base a.limit t.value a.digits.now t.b-index (omega arith))
