-- `terminal_unk::get_counts` meets its contract: five numbers got, or those of no reading. Assumes nothing.
use native.Mathlib.Omega.{arith}
use mathlib.Core.Path.{◌∙◌}
use Rattle.terminal_unk.proofs.Whole.{counts_cut, counts_got}
use Rattle.terminal_unk.proofs.get_counts.Goals as goal

pub returns-then-counts-lt-COUNTS_SIZE : goal.returns-then-counts-lt-COUNTS_SIZE
returns-then-counts-lt-COUNTS_SIZE c = counts_cut _ (omega arith)

pub returns : goal.returns
returns c = counts_got _ _ _ _ _ _ (omega arith) (c.from.ensures ∙ c.get_u16.ensures) (c.from-2.ensures ∙ c.get_u16-2.ensures) (c.from-3.ensures ∙ c.get_u16-3.ensures) (c.from-4.ensures ∙ c.get_u16-4.ensures) (c.from-5.ensures ∙ c.get_u16-5.ensures)
