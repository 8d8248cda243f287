-- Outcomes that one u64 and two bytes a count have room for: those of every reader are, as the proofs show.
-- Assumes nothing.
use Rattle.std.specs.Prelude.{ℕ, ◌<◌, ◌≡◌, List}
use Rattle.paper.specs.declared.Counts.{Counts}
use Rattle.exported.specs.Answer.{code_of, counts_after}
use Rattle.std.specs.Prelude.{Err, Ok, Result}
use Rattle.paper.specs.declared.Refusal.{Refusal}

pub record Sixteen (n : Counts) : Type 0 where
  pub categories : n.categories < 0x1_0000
  pub definitions : n.definitions < 0x1_0000
  pub ranges : n.ranges < 0x1_0000
  pub references : n.references < 0x1_0000
  pub bytes : n.bytes < 0x1_0000

abbrev pub Exportable : Result Counts Refusal → Type 0
Exportable (Ok n) = Sixteen n
Exportable (Err x) = x.place < 0x1_0000_0000

pub record Gives (o : Result Counts Refusal) (before after : List ℕ) (r : ℕ) : Type 0 where
  pub number : r ≡ code_of o
  pub counts : after ≡ counts_after o before
