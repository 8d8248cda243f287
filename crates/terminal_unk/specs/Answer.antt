-- What the exported reader of unk.def promises: the number that C gets, what is left in the lent tables and in the lent counts, over the tables of a
-- reading that are handed in with their counts.
-- Assumes nothing.
use Rattle.std.specs.Prelude.{ℕ, ◌+◌, ◌*◌, ◌≡◌, cond, ◌&&◌, List, ◌++◌, leb, length}
use Rattle.std.proofs.Math.Option.{Option, none}
use Rattle.paper.specs.Refusals.{room_short}
use Rattle.paper.specs.CharDef.Reading.{Reading}
use Rattle.paper.specs.Numbers.Bytes.{le, u16_size, u32_size}
use Rattle.paper.specs.Computed.HandedIn.{handed_in}
use Rattle.paper.specs.Tables.Layout.{Tables}
use Rattle.paper.specs.Tables.Lent.{num, zeroed, patch}
use Rattle.paper.specs.Tables.Reader.{clears}
use Rattle.paper.specs.Unk.Bad.{UnkAnswer, refused}
use Rattle.paper.specs.declared.Counts.{Counts}
use Rattle.unk_enter.specs.declared.UnkCounts.{UnkCounts}
use Rattle.unk.specs.Layout.{UnkTables}
use Rattle.unk.specs.Parse.{has_room, over_reading, given, leaves}
use Rattle.exported.specs.Answer.{place_unit, counts_size}
use Rattle.std.specs.Prelude.{Err, Ok, Result}
use Rattle.paper.specs.declared.Refusal.{Refusal}

-- ---- one number: 0, or number + 256 · place

abbrev pub code_of : Result UnkCounts Refusal → ℕ
code_of (Ok n) = 0
code_of (Err x) = x.number + place_unit * x.place

-- ---- the counts of what was read: entries in two bytes, detail bytes in four

unfoldable pub unk_count_bytes : UnkCounts → List ℕ
unk_count_bytes n = le u16_size n.entries ++ le u32_size n.bytes

abbrev pub unk_counts_size : ℕ
unk_counts_size = 6

-- they are part of the room: written on acceptance, zero or kept with the rest of it otherwise
unfoldable pub counts_after : Result UnkCounts Refusal → List ℕ → List ℕ
unfolding clears
counts_after (Ok n) l = patch 0 (unk_count_bytes n) l
counts_after (Err x) l = cond (clears x.number) (zeroed unk_counts_size l) l

-- ---- what is handed in

-- a reading's counts: five numbers of two bytes, as the other readers leave them
unfoldable pub counts_in : List ℕ → Counts
counts_in l =
    record {
      categories = num u16_size 0 l;
      definitions = num u16_size 2 l;
      ranges = num u16_size 4 l;
      references = num u16_size 6 l;
      bytes = num u16_size 8 l;
    }

-- counts that are cut are those of no reading
unfoldable pub handed_over : Tables → (counts : List ℕ) → Option Reading
handed_over t counts = cond (leb counts_size (length counts)) (handed_in t (counts_in counts)) none

-- ---- the entry

-- "Order: 1; 26; 2; 3; then lines from the top": the counts that are lent belong to the room
unfoldable pub answer_over : Tables → (counts text : List ℕ) → UnkTables → (room : List ℕ) → UnkAnswer
answer_over t counts text lent room =
    cond (leb unk_counts_size (length room) && has_room lent) (over_reading (handed_over t counts) text) (refused room_short 0)

pub record ExportsUnk (t : Tables) (counts text : List ℕ) (lent left : UnkTables) (room after : List ℕ) (r : ℕ) : Type 0 where
  pub number : r ≡ code_of (given (answer_over t counts text lent room))
  pub tables : left ≡ leaves (answer_over t counts text lent room) lent
  pub counts_left : after ≡ counts_after (given (answer_over t counts text lent room)) room
