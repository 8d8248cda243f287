-- `parse_hex_codepoint`: what stands behind every `0x` is read as a 16-bit hex numeral, and its code checked.
-- Assumes nothing.
use native.Mathlib.Omega.{arith}
use mathlib.Core.Path.{◌≡◌, sym, ap, ◌∙◌}
use mathlib.Core.Option.{none}
use Rattle.std.proofs.lemmas.Result.{err_from_is_err_and}
use Rattle.paper.specs.Refusals.{bound_unreadable}
use Rattle.numeral.specs.Said.{said_number}
use Rattle.numeral.proofs.Bounds.{no_code, code_small, bound_of_lem}
use Rattle.numeral.proofs.parse_hex_codepoint.Goals as goal

pub returns-in_err-code : goal.returns-in_err-code
returns-in_err-code c =
    let p = err_from_is_err_and c.from_residual.result c.from_residual.ensures.1 in
    let number : c.in_err-code.field-0.0 ≡ bound_unreadable = grind (arith, c.in_err-code.ensures.value, c.in_err-code.ensures.ok_part) in
    rw (p.1, p.2, number)
    (no_code
    ∙ bound_of_lem _ c.loop-rest.number.now none c.loop-rest.invariant c.in_default.ensures.cases
    (sym (ap said_number c.in_err-code.ensures.ok_part) ∙ c.parse_number.ensures))

pub overflow_cast-code : goal.overflow_cast-code
overflow_cast-code c = omega (arith, code_small _ _ (sym (ap said_number c.in_ok-code.ensures.ok_part) ∙ c.parse_number.ensures))

pub returns : goal.returns
returns c =
    c.ucs2_to_unicode.ensures
    ∙ bound_of_lem _ c.loop-rest.number.now _ c.loop-rest.invariant c.in_default.ensures.cases
    (sym (ap said_number c.in_ok-code.ensures.ok_part) ∙ c.parse_number.ensures)
