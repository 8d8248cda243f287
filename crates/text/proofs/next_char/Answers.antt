-- `text::next_char` meets its contract: an ASCII character is its own octet, and any other is found with the table.
-- Assumes nothing.
use native.Mathlib.Omega.{arith}
use mathlib.Core.Path.{refl}
use Rattle.paper.proofs.Text.Code.{dec_1}
use Rattle.text.proofs.Chars.{answers}
use Rattle.text.proofs.next_char.Goals as goal

pub returns-then-a-lt128 : goal.returns-then-a-lt128
returns-then-a-lt128 c =
    let a = c.args in
    rw c.from.ensures (answers a.s.now a.at _ c.if-s-at.false refl (dec_1 _ _ (omega arith)))
