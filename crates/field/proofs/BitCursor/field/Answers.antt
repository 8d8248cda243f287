-- `field::BitCursor::field` meets its contract. Assumes nothing.
use native.Mathlib.Omega.{arith}
use Rattle.field.proofs.Bridge.{field_there, no_width, too_wide, field_cut, bits_left, bits_lacking}
use Rattle.field.proofs.BitCursor.field.Goals as goal
use Rattle.field.proofs.BitCursor.field.Goals.{then-width-eq0-via-then-width-eq0, then-width-eq0-via-else-width-eq0+then-width-gt-WIDEST, then-width-eq0-via-else-width-eq0+else-width-gt-WIDEST+then-not-has_bits}

pub returns-then-width-eq0 : goal.returns-then-width-eq0
returns-then-width-eq0 c =
    elim c.then-width-eq0.branch [
      | then-width-eq0-via-then-width-eq0 w ↦ no_width _ _ _ w.if-width-eq0.true
      | then-width-eq0-via-else-width-eq0+then-width-gt-WIDEST w ↦ too_wide _ _ _ w.if-width-gt-WIDEST.true
      | then-width-eq0-via-else-width-eq0+else-width-gt-WIDEST+then-not-has_bits w ↦ field_cut _ _ _ (omega arith) (omega arith) (bits_lacking _ _ _ w.if-not-has_bits.ensures)
    ]

pub returns : goal.returns
returns c = field_there _ _ _ _ (omega arith) (omega arith) (bits_left _ _ _ c.if-not-has_bits.ensures) c.bits_at.ensures
