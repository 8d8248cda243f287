-- `slot::find_name` meets its contract: by the hint, or by all slots. Assumes nothing.
use native.Mathlib.Omega.{arith}
use Rattle.slot.proofs.Laid.{hint_hit}
use Rattle.slot.proofs.find_name.Goals as goal

pub returns-then-is_name : goal.returns-then-is_name
returns-then-is_name c = hint_hit _ _ _ _ _ (omega arith) _ c.is_name.ensures c.if-is_name.true
