-- DEMAND 1. "Any bytes in char.def, in unk.def or in a pack, and any lent room, give a finished answer. Every public entry takes whatever it is handed
-- and refuses by a number from document 01 or a later request, with a place. What each refusal leaves in lent memory is fixed there."
-- That an answer comes is in the contracts: no entry has a `requires`, and a proof in Rattle is of an end. What is said here is which.
-- Assumes nothing.
use Rattle.std.specs.Prelude.{◌≡◌, true, false, cond, List, [], ◌∷◌, ℕ, eqb, Err, Result}
use Rattle.std.proofs.Math.Option.{none, some}
use Rattle.paper.specs.Lists.{any}
use Rattle.paper.specs.Refusals.{room_short, flat_row_long, table_room_short, pack_room_short, tables_apart}
use Rattle.paper.specs.CharDef.Reading.{Reading, Answer}
use Rattle.paper.specs.Computed.HandedIn.{handed_in}
use Rattle.paper.specs.Tables.Layout.{Tables}
use Rattle.paper.specs.Tables.Reader.{has_room, clears, past, cleared, Reads}
use Rattle.paper.specs.declared.Counts.{Counts}
use Rattle.paper.specs.declared.Refusal.{Refusal}
use Rattle.unk.specs.Layout.{UnkTables}
use Rattle.unk.specs.Parse as unk
use Rattle.unk_enter.specs.declared.UnkCounts.{UnkCounts}

-- ---- the readers of char.def and of packs

-- a reader of the five tables, to whose bytes the paper's answer is a: it was lent tables, left them so, and answered r
pub record Finished (a : Answer) (lent left : Tables) (r : Result Counts Refusal) : Type 0 where
  -- 1, exactly where a lent room is below its size; nothing is changed
  pub short_room : has_room lent ≡ false → (r ≡ Err (record { number = room_short; place = 0 })) × (left ≡ lent)
  -- a later refusal leaves zero up to the sizes where the paper says so of its number, and memory as it was otherwise
  pub after_refusal : has_room lent ≡ true → (x : Refusal) → r ≡ Err x → left ≡ cond (clears x.number) (cleared lent) lent
  -- "memory past the sizes is untouched", whatever the answer
  pub past_kept : past left ≡ past lent
  -- nothing is left open: another outcome and another memory that the promise allows are these
  pub nothing_open : (other : Tables) (s : Result Counts Refusal) → Reads a lent other s → (s ≡ r) × (other ≡ left)

-- ---- the reader of unk.def, over a reading's tables

pub record UnkFinished (t : Tables) (n : Counts) (text : List ℕ) (lent left : UnkTables) (r : Result UnkCounts Refusal) : Type 0 where
  -- 1, exactly where a lent room is below its size; then 26, where no reading stands in the tables; nothing is changed
  pub short_room : unk.has_room lent ≡ false → (r ≡ Err (record { number = room_short; place = 0 })) × (left ≡ lent)
  pub apart : unk.has_room lent ≡ true → handed_in t n ≡ none → (r ≡ Err (record { number = tables_apart; place = 0 })) × (left ≡ lent)
  -- the rest as above
  pub after_refusal : unk.has_room lent ≡ true → (q : Reading) → handed_in t n ≡ some q
      → (x : Refusal) → r ≡ Err x → left ≡ cond (clears x.number) (unk.cleared lent) lent
  pub past_kept : unk.past left ≡ unk.past lent
  pub nothing_open : (other : UnkTables) (s : Result UnkCounts Refusal) → unk.ParsesUnk t n text lent other s → (s ≡ r) × (other ≡ left)

-- ---- builders and the pack writer: "26, 16, 17 or 22"

abbrev pub row_numbers : List ℕ
row_numbers = tables_apart ∷ table_room_short ∷ []

abbrev pub flat_numbers : List ℕ
flat_numbers = tables_apart ∷ flat_row_long ∷ table_room_short ∷ []

abbrev pub writer_numbers : List ℕ
writer_numbers = tables_apart ∷ pack_room_short ∷ []

-- one that may refuse by these numbers, and promises `Allows` of what it leaves and answers: it was lent room, left it so, and answered r
pub record Built {Room Outcome : Type 0} (numbers : List ℕ) (refused : Refusal → Outcome) (Allows : Room → Outcome → Type 0) (lent left : Room) (r : Outcome) : Type 0 where
  -- a refusal has one of the numbers, the place 0, and leaves all as it was
  pub after_refusal : (x : Refusal) → r ≡ refused x → (any (eqb x.number) numbers ≡ true) × (x.place ≡ 0) × (left ≡ lent)
  pub nothing_open : (other : Room) (s : Outcome) → Allows other s → (s ≡ r) × (other ≡ left)
