-- `unk_enter::joined_byte` meets its contract. Assumes nothing.
use mathlib.Core.Path.{sym, ap}
use mathlib.Core.Bool.{cond}
use borrow.Author.Tests.{eq-eqb, ne_eqb}
use Rattle.unk_enter.proofs.joined_byte.Goals as goal

pub returns-then-b-eq-COMMA : goal.returns-then-b-eq-COMMA
returns-then-b-eq-COMMA c = sym (ap (λ b. cond b 0 (c.args.b)) (eq-eqb _ _ (c.if-b-eq-COMMA.true)))

pub returns : goal.returns
returns c = sym (ap (λ b. cond b 0 (c.args.b)) (ne_eqb _ _ (c.if-b-eq-COMMA.false)))
