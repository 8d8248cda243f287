-- What the steps below the entry promise and ask: the counts as they are read, and outcomes that one u64 and six bytes have room for. Those of the reader
-- are, as the proofs show.
-- Assumes nothing.
use Rattle.std.specs.Prelude.{ℕ, ◌+◌, ◌<◌, ◌≡◌, cond, List, leb, length}
use Rattle.paper.specs.Sizes.{max_categories}
use Rattle.paper.specs.declared.Counts.{Counts}
use Rattle.unk_enter.specs.declared.UnkCounts.{UnkCounts}
use Rattle.exported.specs.Answer.{counts_size}
use Rattle.terminal_unk.specs.Answer.{code_of, counts_in, counts_after}
use Rattle.std.specs.Prelude.{Err, Ok, Result}
use Rattle.paper.specs.declared.Refusal.{Refusal}

-- more categories than any reading has
abbrev pub no_counts : Counts
no_counts = record { categories = max_categories + 1; definitions = 0; ranges = 0; references = 0; bytes = 0 }

-- what is made of the counts that are handed in
unfoldable pub counts_read : List ℕ → Counts
counts_read l = cond (leb counts_size (length l)) (counts_in l) no_counts

pub record Countable (n : UnkCounts) : Type 0 where
  pub entries : n.entries < 0x1_0000
  pub bytes : n.bytes < 0x1_0000_0000

abbrev pub Exportable : Result UnkCounts Refusal → Type 0
Exportable (Ok n) = Countable n
Exportable (Err x) = x.place < 0x1_0000_0000

pub record Gives (o : Result UnkCounts Refusal) (before after : List ℕ) (r : ℕ) : Type 0 where
  pub number : r ≡ code_of o
  pub counts : after ≡ counts_after o before
