-- `text::white_width` meets its contract: an ASCII character by itself, any other by the character that `next_char` answers.
-- Assumes nothing.
use Prim.Native.Nat.{ℕ}
use native.Mathlib.Omega.{arith}
use mathlib.Core.Path.{◌≡◌, refl, sym, ap, ◌∙◌}
use mir.Val.{bool_byte}
use mathlib.Core.Bool.{Bool, true, false, cond}
use Rattle.paper.specs.Text.Scalar.{is_white}
use Rattle.paper.specs.Computed.Decode.{bad}
use Rattle.text.proofs.Chars.{no_char}
use Rattle.text.proofs.White.{width_by, width_end, width_octet, width_low, width_high, width_stands}
use Rattle.text.proofs.white_width.Goals.{then-a-lt194-via-then-a-lt194, then-a-lt194-via-else-a-lt194+then-a-gt227}
use Rattle.text.proofs.white_width.Goals as goal

by_test : (n : ℕ) {t w : Bool} {b : Bool} {m : ℕ} → t ≡ b → t ≡ w → m ≡ cond w n 0 → cond b n 0 ≡ m
by_test n {b = b} e f g = ap (λ x. cond x n 0) (sym e ∙ f) ∙ sym g

as_number : (b : Bool) → bool_byte b ≡ cond b 1 0
as_number true = refl
as_number false = refl

pub returns-then-s-at : goal.returns-then-s-at
returns-then-s-at c = sym (width_end c.args.s.now c.args.at c.if-s-at.true)

pub returns-then-a-lt128 : goal.returns-then-a-lt128
returns-then-a-lt128 c =
    let a = c.args in
    c.from-then-a-lt128.ensures ∙ as_number c.is_white_space.result ∙ ap (λ b. cond b 1 0) (c.is_white_space.ensures ∙ ap is_white c.from.ensures)
    ∙ sym (width_octet a.s.now a.at c.if-s-at.false (omega arith))

pub returns-then-a-lt194 : goal.returns-then-a-lt194
returns-then-a-lt194 c =
    let a = c.args in
    elim c.then-a-lt194.branch [
      | then-a-lt194-via-then-a-lt194 w ↦ sym (width_low a.s.now a.at c.if-s-at.false (omega arith))
      | then-a-lt194-via-else-a-lt194+then-a-gt227 w ↦ sym (width_high a.s.now a.at w.if-a-gt227.true)
    ]

pub returns-in_default : goal.returns-in_default
returns-in_default c =
    let a = c.args in
    sym (width_by _ bad (no_char a.s.now a.at c.next_char.result c.in_default.not-Char c.if-s-at.false c.next_char.ensures))

pub overflow_sub-result : goal.overflow_sub-result
overflow_sub-result c =
    let x = c.in-Char.ensures in
    omega arith

pub returns-then-is_white_space : goal.returns-then-is_white_space
returns-then-is_white_space c = by_test _ c.if-is_white_space.true c.is_white_space-2.ensures (width_stands c.args.s.now c.args.at _ c.in-Char.ensures)

pub returns-else-is_white_space : goal.returns-else-is_white_space
returns-else-is_white_space c = by_test _ c.if-is_white_space.false c.is_white_space-2.ensures (width_stands c.args.s.now c.args.at _ c.in-Char.ensures)
