-- `text::two_octets` meets its contract: at each return the tests decide what the decoder says.
-- Assumes nothing.
use Prim.Native.Nat.{◌+◌}
use mathlib.Core.Path.{sym, ap, ◌∙◌}
use mathlib.Core.Bool.{true, false}
use Rattle.text.specs.Answers.{next_by}
use Rattle.text.proofs.Octets.{is_tail_lem, no_tail, two_ends, two_by}
use Rattle.text.proofs.two_octets.Goals as goal

pub returns-then-s-at-lt2 : goal.returns-then-s-at-lt2
returns-then-s-at-lt2 c =
    let a = c.args in
    ap (next_by a.at) (sym (two_ends a.s.now a.at c.if-s-at-lt2.true))

pub returns-then-class-ne-TAIL : goal.returns-then-class-ne-TAIL
returns-then-class-ne-TAIL c =
    let a = c.args in
    let second = no_tail (c.type_inv.s (a.at + 1)).fits (λ e. c.if-class-ne-TAIL.true (c.class.ensures ∙ e)) in
    ap (next_by a.at) (sym (two_by a.s.now a.at c.if-s-at-lt2.false false second))

pub returns : goal.returns
returns c =
    let a = c.args in
    let second = is_tail_lem (c.type_inv.s (a.at + 1)).fits (sym c.class.ensures ∙ c.if-class-ne-TAIL.false) in
    rw (c.from.ensures, c.from-2.ensures) (ap (next_by a.at) (sym (two_by a.s.now a.at c.if-s-at-lt2.false true second)))
