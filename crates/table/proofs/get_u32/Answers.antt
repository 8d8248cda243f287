-- `table::get_u32` meets its contract: `read` at four bytes.
-- Assumes nothing.
use native.Mathlib.Omega.{arith}
use mathlib.Core.List.{[], ◌∷◌}
use Rattle.paper.proofs.Tables.Laws.{got_out}
use Rattle.table.proofs.Width.{read}
use Rattle.table.proofs.get_u32.Goals as goal

pub returns-then-t-lt-U32_BYTES : goal.returns-then-t-lt-U32_BYTES
returns-then-t-lt-U32_BYTES c = got_out 4 _ _ (omega arith)

pub returns-then-t-at : goal.returns-then-t-at
returns-then-t-at c = got_out 4 _ _ (omega arith)

pub returns : goal.returns
returns c =
    let a = c.from-a in
    let b = c.from-b in
    let d = c.from-c in
    let e = c.from-d in
    read _ _ (a.result ∷ b.result ∷ d.result ∷ e.result ∷ []) _ (omega arith)
    (a.ensures, (b.ensures, (d.ensures, (e.ensures, tt)))) (omega arith)
