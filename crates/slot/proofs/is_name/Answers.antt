-- `slot::is_name` meets its contract: other bytes are another name, and where the bytes are there its length decides. Assumes nothing.
use native.Mathlib.Omega.{arith}
use mathlib.Core.Path.{sym}
use lib.ListN.{take, drop}
use Rattle.paper.proofs.Lists.Parts.{part_length}
use Rattle.slot.proofs.Laid.{tells_bytes, tells_length}
use Rattle.slot.proofs.is_name.Goals as goal

pub returns-then-holds_at : goal.returns-then-holds_at
returns-then-holds_at c =
    let a = c.args in
    let p = part_length a.text.now a.start a.end (omega arith) in
    tells_length _ _ (drop a.start (take a.end a.text.now)) _ _ c.slot_start.ensures _ (sym p) _ c.holds_at.ensures c.if-holds_at.true _ c.slot_len.ensures

pub returns-else-holds_at : goal.returns-else-holds_at
returns-else-holds_at c =
    let a = c.args in
    let p = part_length a.text.now a.start a.end (omega arith) in
    tells_bytes _ _ (drop a.start (take a.end a.text.now)) _ _ c.slot_start.ensures _ (sym p) _ c.holds_at.ensures c.if-holds_at.false
