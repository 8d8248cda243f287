-- `field::BitCursor::bytes` meets its contract. Assumes nothing.
use native.Mathlib.Omega.{arith}
use Rattle.field.proofs.Bridge.{no_run, run_cut, run_unput, run_there, bytes_left, bytes_lacking}
use Rattle.field.proofs.BitCursor.bytes.Goals as goal
use Rattle.field.proofs.BitCursor.bytes.Goals.{then-n-eq0-via-then-n-eq0, then-n-eq0-via-else-n-eq0+then-not-has_bits}
use Rattle.field.proofs.BitCursor.bytes.Goals.{else-n-room-via-then-n-room+else-to-room, else-n-room-via-else-n-room}

pub returns-then-n-eq0 : goal.returns-then-n-eq0
returns-then-n-eq0 c =
    elim c.then-n-eq0.branch [
      | then-n-eq0-via-then-n-eq0 w ↦ no_run _ _ _ _ w.if-n-eq0.true
      | then-n-eq0-via-else-n-eq0+then-not-has_bits w ↦ run_cut _ _ _ _ (omega arith) (bytes_lacking _ _ _ w.if-not-has_bits.ensures)
    ]

pub returns-else-n-room : goal.returns-else-n-room
returns-else-n-room c =
    elim c.else-n-room.branch [
      | else-n-room-via-then-n-room+else-to-room w ↦ run_unput _ _ _ (omega arith) (bytes_left _ _ _ c.if-not-has_bits.ensures) _ _ (omega arith)
      | else-n-room-via-else-n-room w ↦ run_unput _ _ _ (omega arith) (bytes_left _ _ _ c.if-not-has_bits.ensures) _ _ (omega arith)
    ]

pub returns-then-to-room : goal.returns-then-to-room
returns-then-to-room c = run_there _ _ _ (omega arith) (bytes_left _ _ _ c.if-not-has_bits.ensures) _ _ _ c.copy_bytes.ensures
