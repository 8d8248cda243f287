-- `terminal::twinebeetle_read_char_def` meets its contract: the reader's promise, with the counts. Assumes nothing.
use native.Mathlib.Omega.{arith}
use Rattle.terminal.proofs.Places.{outcome_fits, text_small}
use Rattle.terminal.proofs.Whole.{exports, short_counts}
use Rattle.terminal.proofs.twinebeetle_read_char_def.Goals as goal

pub returns-then-counts-lt-COUNTS_SIZE : goal.returns-then-counts-lt-COUNTS_SIZE
returns-then-counts-lt-COUNTS_SIZE c = rw c.from.ensures (short_counts _ _ _ (omega arith))

pub give-requires : goal.give-requires
give-requires c = record { counts_size_in_bounds = omega arith; exportable = outcome_fits _ (text_small _) _ _ _ (c.parse-outcome.ensures) }

pub returns : goal.returns
returns c = exports _ _ _ _ _ _ _ (omega arith) (c.parse-outcome.ensures) (c.give.ensures)
