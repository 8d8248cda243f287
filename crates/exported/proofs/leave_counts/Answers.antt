-- `exported::leave_counts` meets its contract: zero where the number clears the room. Assumes nothing.
use Rattle.exported.proofs.Given.{taken_is, left_is}
use Rattle.exported.proofs.leave_counts.Goals as goal

pub returns-then-is_clearing : goal.returns-then-is_clearing
returns-then-is_clearing c = taken_is _ _ (c.is_clearing.ensures) (c.if-is_clearing.true) (c.zero.ensures)

pub returns-else-is_clearing : goal.returns-else-is_clearing
returns-else-is_clearing c = left_is _ _ (c.is_clearing.ensures) (c.if-is_clearing.false)
