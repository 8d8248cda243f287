-- `terminal_unk::twinebeetle_read_unk` meets its contract: the reader's promise, with both counts. Assumes nothing.
use native.Mathlib.Omega.{arith}
use Rattle.terminal_unk.proofs.Places.{outcome_fits}
use Rattle.terminal_unk.proofs.Whole.{exports, short_counts}
use Rattle.terminal_unk.proofs.twinebeetle_read_unk.Goals as goal

pub returns-then-unk_counts-lt-UNK_COUNTS_SIZE : goal.returns-then-unk_counts-lt-UNK_COUNTS_SIZE
returns-then-unk_counts-lt-UNK_COUNTS_SIZE c = rw c.from.ensures (short_counts _ _ _ _ _ (omega arith))

pub give-requires : goal.give-requires
give-requires c = record { unk_counts_size_in_bounds = omega arith; exportable = outcome_fits _ _ _ _ _ _ c.parse_unk-outcome.ensures }

pub returns : goal.returns
returns c = exports _ _ _ _ _ _ _ _ _ _ (omega arith) c.get_counts.ensures c.parse_unk-outcome.ensures c.give.ensures
