-- How an answer becomes the number that C gets, what is left in the lent counts, and what an exported reader of the five tables promises.
-- Assumes nothing.
use Rattle.std.specs.Prelude.{ℕ, ◌+◌, ◌*◌, ◌≡◌, cond, List, ◌++◌, leb, length}
use Rattle.paper.specs.Refusals.{room_short}
use Rattle.paper.specs.CharDef.Reading.{Answer, refused}
use Rattle.paper.specs.Numbers.Bytes.{le, u16_size}
use Rattle.paper.specs.Tables.Layout.{Tables}
use Rattle.paper.specs.Tables.Lent.{zeroed, patch}
use Rattle.paper.specs.Tables.Reader.{in_lent, given, clears, leaves}
use Rattle.paper.specs.declared.Counts.{Counts}
use Rattle.std.specs.Prelude.{Err, Ok, Result}
use Rattle.paper.specs.declared.Refusal.{Refusal}

-- ---- one number: 0, or number + 256 · place

abbrev pub place_unit : ℕ
place_unit = 256

abbrev pub code_of : Result Counts Refusal → ℕ
code_of (Ok n) = 0
code_of (Err x) = x.number + place_unit * x.place

-- ---- the counts: five numbers of two bytes

unfoldable pub count_bytes : Counts → List ℕ
count_bytes n =
    le u16_size n.categories ++ le u16_size n.definitions ++ le u16_size n.ranges ++ le u16_size n.references ++ le u16_size n.bytes

abbrev pub counts_size : ℕ
counts_size = 10

-- they are part of the room: written on acceptance, zero or kept with the rest of it otherwise
unfoldable pub counts_after : Result Counts Refusal → List ℕ → List ℕ
unfolding clears
counts_after (Ok n) l = patch 0 (count_bytes n) l
counts_after (Err x) l = cond (clears x.number) (zeroed counts_size l) l

-- ---- a reader's entry

-- the paper's answer through the room that was lent, counts and all
unfoldable pub over_lent : (counts : List ℕ) → Tables → Answer → Answer
over_lent counts lent a = cond (leb counts_size (length counts)) (in_lent lent a) (refused room_short 0)

-- what came back is r, where the paper's answer to what is read is a
pub record Exports (a : Answer) (lent left : Tables) (counts after : List ℕ) (r : ℕ) : Type 0 where
  pub number : r ≡ code_of (given (over_lent counts lent a))
  pub tables : left ≡ leaves (over_lent counts lent a) lent
  pub counts_left : after ≡ counts_after (given (over_lent counts lent a)) counts
