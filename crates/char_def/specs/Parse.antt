-- What `parse` promises: the paper's answer to the text, through the room that was lent, and what the five tables hold afterwards.
-- Assumes nothing.
use Rattle.std.specs.Prelude.{ℕ, List}
use Rattle.paper.specs.Computed.ReadText.{read_text}
use Rattle.paper.specs.Tables.Layout.{Tables}
use Rattle.paper.specs.Tables.Reader.{Reads}
use Rattle.std.specs.Prelude.{Result}
use Rattle.paper.specs.declared.Counts.{Counts}
use Rattle.paper.specs.declared.Refusal.{Refusal}

abbrev pub Parsed : List ℕ → Tables → Tables → Result Counts Refusal → Type 0
Parsed text lent after r = Reads (read_text text) lent after r
