-- What the functions of the walk promise: where a line stops, and what the tables hold when the lines are walked.
-- Assumes nothing.
use Rattle.std.specs.Prelude.{ℕ, ◌≤◌, ◌<◌, ◌≡◌, List, length, take, drop}
use Rattle.paper.specs.Unk.Entry.{Entry}
use Rattle.paper.specs.Computed.ReadUnk.{drop_cr, Entries, entries_are, stops}
use Rattle.unk_enter.specs.declared.UnkCounts.{UnkCounts}
use Rattle.unk_enter.specs.Lines.{Memory, Held}
use Rattle.std.specs.Prelude.{Err, Ok, Result}
use Rattle.paper.specs.declared.Refusal.{Refusal}

-- where a line stops: one CR before LF is dropped
pub record LineStops (text : List ℕ) (start end stop : ℕ) : Type 0 where
  pub from : start ≤ stop
  pub upto : stop ≤ end
  pub last : length text ≤ end → stop ≡ end
  pub before_LF : end < length text → drop start (take stop text) ≡ drop_cr (drop start (take end text))

-- the text was walked to its end, and memory holds its entries
pub record WalkEnded (mark : List ℕ → ℕ) (a : Entries) (m : Memory) (c : UnkCounts) : Type 0 where
  pub entries : List Entry
  pub is : a ≡ entries_are entries
  pub held : Held mark entries m c

abbrev pub Walked : (List ℕ → ℕ) → Entries → Memory → Result UnkCounts Refusal → Type 0
Walked mark a m (Ok c) = WalkEnded mark a m c
Walked mark a m (Err x) = a ≡ stops x.number x.place
