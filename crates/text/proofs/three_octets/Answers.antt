-- `text::three_octets` meets its contract: at each return the tests decide what the decoder says.
-- Assumes nothing.
use Prim.Native.Nat.{◌+◌}
use mathlib.Core.Path.{refl, sym, ap, ◌∙◌}
use mathlib.Core.Bool.{true, false}
use Rattle.text.specs.Answers.{next_by}
use Rattle.text.proofs.Octets.{is_tail_lem, no_tail, too_low, too_high, just_so, three_ends, three_by}
use Rattle.text.proofs.three_octets.Goals.{then-b-low-via-then-b-low, then-b-low-via-else-b-low+then-high-b, then-b-low-via-else-b-low+else-high-b+then-class-ne-TAIL}
use Rattle.text.proofs.three_octets.Goals as goal

pub returns-then-s-at-lt3 : goal.returns-then-s-at-lt3
returns-then-s-at-lt3 c =
    let a = c.args in
    ap (next_by a.at) (sym (three_ends a.s.now a.at c.if-s-at-lt3.true))

pub returns-then-b-low : goal.returns-then-b-low
returns-then-b-low c =
    let a = c.args in
    let by = three_by a.s.now a.at c.if-s-at-lt3.false in
    elim c.then-b-low.branch [
      | then-b-low-via-then-b-low w ↦ ap (next_by a.at) (sym (by false _ (too_low c.requires.second w.if-b-low.true) refl))
      | then-b-low-via-else-b-low+then-high-b w ↦ ap (next_by a.at) (sym (by false _ (too_high c.requires.second w.if-high-b.true) refl))
      | then-b-low-via-else-b-low+else-high-b+then-class-ne-TAIL w ↦
          let second = just_so c.requires.second w.if-b-low.false w.if-high-b.false in
          let third = no_tail (c.type_inv.s (a.at + 2)).fits (λ e. w.if-class-ne-TAIL.true (w.class.ensures ∙ e)) in
          ap (next_by a.at) (sym (by true false second third))
    ]

pub returns : goal.returns
returns c =
    let a = c.args in
    let second = just_so c.requires.second c.if-b-low.false c.if-high-b.false in
    let third = is_tail_lem (c.type_inv.s (a.at + 2)).fits (sym c.class.ensures ∙ c.if-class-ne-TAIL.false) in
    rw (c.from.ensures, c.from-2.ensures, c.from-3.ensures) (ap (next_by a.at) (sym (three_by a.s.now a.at c.if-s-at-lt3.false true true second third)))
