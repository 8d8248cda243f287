-- `table::get_u16` meets its contract: `read` at two bytes.
-- Assumes nothing.
use native.Mathlib.Omega.{arith}
use mathlib.Core.List.{[], ◌∷◌}
use Rattle.paper.proofs.Tables.Laws.{got_out}
use Rattle.table.proofs.Width.{read}
use Rattle.table.proofs.get_u16.Goals as goal

pub returns-then-t-lt-U16_BYTES : goal.returns-then-t-lt-U16_BYTES
returns-then-t-lt-U16_BYTES c = got_out 2 _ _ (omega arith)

pub returns-then-t-at : goal.returns-then-t-at
returns-then-t-at c = got_out 2 _ _ (omega arith)

pub returns : goal.returns
returns c =
    let a = c.from-low in
    let b = c.from-high in
    read _ _ (a.result ∷ b.result ∷ []) _ (omega arith) (a.ensures, (b.ensures, tt)) (omega arith)
