-- DEMAND 3. "Given the room document 01 asks for and well-formed text of at most 65,536 bytes, char.def is accepted exactly when each line is blank,
-- or a category or range line that keeps every rule of 01's grammar, and the running counts keep its limits. Exactly one reading fits an accepted
-- text, and demand 2's lookups are over that reading. A refused text names its first bad line: the lines before it are accepted by themselves, and
-- nothing put after it and its LF makes the text acceptable."
-- Assumes nothing.
use Rattle.std.specs.Prelude.{ℕ, ◌≤◌, ◌≡◌, ◌↔◌, true, List, ◌∷◌, ◌++◌, Err, Ok, Result}
use Rattle.std.proofs.Math.Option.{some}
use Rattle.paper.specs.Refusals.{range_parts}
use Rattle.paper.specs.Text.Scalar.{lf}
use Rattle.paper.specs.CharDef.Reading.{Reading, Fits}
use Rattle.paper.specs.CharDef.Bad.{BadText, lines_before, through_line}
use Rattle.paper.specs.Tables.Layout.{Tables, counts_of}
use Rattle.paper.specs.Tables.Reader.{has_room}
use Rattle.paper.specs.Computed.HandedIn.{handed_in}
use Rattle.paper.specs.declared.Counts.{Counts}
use Rattle.paper.specs.declared.Refusal.{Refusal}
use Rattle.char_def.specs.Parse.{Parsed}

-- `parse` ran on a text, over room of the sizes: whatever lent memory held before, whatever it holds now, and whatever came back, as far as the
-- function's promise allows
pub record Run (text : List ℕ) : Type 0 where
  pub lent : Tables
  pub room : has_room lent ≡ true
  pub left : Tables
  pub outcome : Result Counts Refusal
  pub promised : Parsed text lent left outcome

pub record Demand3 (text : List ℕ) (run : Run text) : Type 0 where
  -- accepted exactly when a reading fits: `Fits` is the grammar and the limits, and names the text's size and its characters
  pub accepted_exactly : (n : Counts) → (run.outcome ≡ Ok n) ↔ ((q : Reading) × Fits text q × (n ≡ counts_of q))
  -- one reading fits, and it is the one that all who are handed these tables find there
  pub one_reading : (p q : Reading) → Fits text p → Fits text q → p ≡ q
  pub in_the_tables : (q : Reading) → Fits text q → handed_in run.left (counts_of q) ≡ some q
  -- refused exactly with the number and the place of what is wrong: 2, 3, or 4 to 13 with the first bad line
  pub refused_exactly : (x : Refusal) → (run.outcome ≡ Err x) ↔ BadText x.number x.place text
  -- the lines before the first bad one are accepted by themselves
  pub accepted_before : (x : Refusal) → run.outcome ≡ Err x → range_parts ≤ x.number
      → (other : Run (lines_before x.place text)) → (n : Counts) × (other.outcome ≡ Ok n)
  -- nothing put after it and its LF makes the text acceptable
  pub refused_after : (x : Refusal) → run.outcome ≡ Err x → range_parts ≤ x.number
      → (u : List ℕ) (other : Run (through_line x.place text ++ (lf ∷ u))) (n : Counts) → other.outcome ≡ Ok n → ⊥
