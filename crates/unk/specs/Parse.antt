-- What `parse_unk` promises: its answer, and what the five lent tables hold afterwards, in refusals too. Both follow from the reading's tables, the
-- text and what was lent.
-- Assumes nothing.
use Rattle.std.specs.Prelude.{ℕ, ◌*◌, ◌≡◌, Bool, cond, ◌&&◌, List, ◌++◌, leb, length, drop}
use Rattle.std.proofs.Math.Option.{Option, none, some}
use Rattle.paper.specs.Sizes.{max_categories, max_unk_entries, max_detail_bytes}
use Rattle.paper.specs.Refusals.{room_short, tables_apart}
use Rattle.paper.specs.CharDef.Reading.{Reading}
use Rattle.paper.specs.Unk.Entry.{Unk}
use Rattle.paper.specs.Unk.Bad.{UnkAnswer, accepted, refused}
use Rattle.paper.specs.Computed.HandedIn.{handed_in}
use Rattle.paper.specs.Computed.ReadUnk.{read_unk}
use Rattle.paper.specs.Tables.Layout.{Tables, name_slot_size, reference_size}
use Rattle.paper.specs.Tables.Lent.{padded, zeroed}
use Rattle.paper.specs.Tables.Reader.{clears}
use Rattle.paper.specs.declared.Counts.{Counts}
use Rattle.unk_enter.specs.declared.UnkCounts.{UnkCounts}
use Rattle.unk.specs.Layout.{UnkTables, layout}
use Rattle.unk_enter.specs.Fields.{entry_size, offset_size}
use Rattle.std.specs.Prelude.{Err, Ok, Result}
use Rattle.paper.specs.declared.Refusal.{Refusal}

-- ---- sizes in bytes

abbrev pub entries_size : ℕ
entries_size = entry_size * max_unk_entries

abbrev pub offsets_size : ℕ
offsets_size = offset_size * max_unk_entries

abbrev pub places_size : ℕ
places_size = name_slot_size * max_categories

abbrev pub members_size : ℕ
members_size = reference_size * max_unk_entries

-- "Readers ask for room of these full sizes (details of unk.def: 65,536 bytes ..)": the lengths in bytes are no less
unfoldable pub room_for : (entries offsets details places members : ℕ) → Bool
room_for entries offsets details places members =
    leb entries_size entries && (leb offsets_size offsets && (leb max_detail_bytes details && (leb places_size places && leb members_size members)))

abbrev pub has_room : UnkTables → Bool
has_room t = room_for (length t.entries) (length t.offsets) (length t.details) (length t.places) (length t.members)

-- ---- the answer

-- "the unk reader work[s] from a reading": 26 where the tables hold none
abbrev pub over_reading : Option Reading → List ℕ → UnkAnswer
over_reading none text = refused tables_apart 0
over_reading (some r) text = read_unk r.names text

-- "Order: 1; 26; 2; 3; then lines from the top"
unfoldable pub answer_to : Tables → Counts → List ℕ → UnkTables → UnkAnswer
answer_to reading n text lent = cond (has_room lent) (over_reading (handed_in reading n) text) (refused room_short 0)

unfoldable pub counts_of : Unk → UnkCounts
counts_of u = record { entries = length u.word_entries; bytes = length u.store }

-- the case of the enum for each answer of the paper
abbrev pub given : UnkAnswer → Result UnkCounts Refusal
given (accepted u) = Ok (counts_of u)
given (refused number place) = Err (record { number = number; place = place })

-- ---- lent memory afterwards

-- with zero bytes up to the sizes
unfoldable pub in_room : UnkTables → UnkTables
in_room t =
    record {
      entries = padded entries_size t.entries;
      offsets = padded offsets_size t.offsets;
      details = padded max_detail_bytes t.details;
      places = padded places_size t.places;
      members = padded members_size t.members;
    }

-- what lies past the sizes
unfoldable pub past : UnkTables → UnkTables
past t =
    record {
      entries = drop entries_size t.entries;
      offsets = drop offsets_size t.offsets;
      details = drop max_detail_bytes t.details;
      places = drop places_size t.places;
      members = drop members_size t.members;
    }

unfoldable pub behind : UnkTables → UnkTables → UnkTables
behind t x =
    record {
      entries = t.entries ++ x.entries;
      offsets = t.offsets ++ x.offsets;
      details = t.details ++ x.details;
      places = t.places ++ x.places;
      members = t.members ++ x.members;
    }

-- zero up to the sizes
unfoldable pub cleared : UnkTables → UnkTables
cleared t =
    record {
      entries = zeroed entries_size t.entries;
      offsets = zeroed offsets_size t.offsets;
      details = zeroed max_detail_bytes t.details;
      places = zeroed places_size t.places;
      members = zeroed members_size t.members;
    }

-- acceptance leaves the tables of what the text says, "unused places .. zero", and "memory past the sizes is untouched"; 23 to 25 leave zero up to
-- the sizes, and the other refusals "lent memory unchanged"
unfoldable pub leaves : UnkAnswer → UnkTables → UnkTables
leaves (accepted u) t = behind (in_room (layout u)) (past t)
leaves (refused number place) t = cond (clears number) (cleared t) t

-- ---- both together

pub record ParsesUnk (reading : Tables) (n : Counts) (text : List ℕ) (lent after : UnkTables) (r : Result UnkCounts Refusal) : Type 0 where
  pub answer : r ≡ given (answer_to reading n text lent)
  pub memory : after ≡ leaves (answer_to reading n text lent) lent
