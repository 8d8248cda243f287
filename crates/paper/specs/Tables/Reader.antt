-- What a reader that fills the five tables promises, char.def's and the pack's alike: its answer, and what the lent tables hold afterwards, in
-- refusals too. Both follow from the paper's answer to what is read and from what was lent.
-- Assumes nothing.
use Rattle.std.specs.Prelude.{ℕ, ◌*◌, ◌≡◌, Bool, cond, ◌&&◌, ◌||◌, leb, length, drop}
use Rattle.paper.specs.Sizes.{max_categories, max_name_bytes, max_category_lines, max_ranges, max_references}
use Rattle.paper.specs.Refusals.{room_short, range_parts, name_bytes_full, pack_version, pack_left_over, unk_fields, unk_entries_full}
use Rattle.paper.specs.CharDef.Reading.{Answer, accepted, refused}
use Rattle.paper.specs.Tables.Lent.{zeroed}
use Rattle.paper.specs.Tables.Layout.{Tables, layout, in_room, behind, counts_of, name_slot_size, definition_size, range_slot_size, reference_size}
use Rattle.std.specs.Prelude.{Err, Ok, Result}
use Rattle.paper.specs.declared.Counts.{Counts}
use Rattle.paper.specs.declared.Refusal.{Refusal}

-- ---- the answer

-- "Readers ask for room of these full sizes": the lengths in bytes of the five tables are no less
unfoldable pub room_for : (names categories definitions ranges references : ℕ) → Bool
room_for names categories definitions ranges references =
    leb max_name_bytes names
    && (leb (name_slot_size * max_categories) categories
    && (leb (definition_size * max_category_lines) definitions && (leb (range_slot_size * max_ranges) ranges && leb (reference_size * max_references) references)))

abbrev pub has_room : Tables → Bool
has_room t = room_for (length t.names) (length t.categories) (length t.definitions) (length t.ranges) (length t.references)

-- "Order: 1" before all that a reader says of what it reads
unfoldable pub in_lent : Tables → Answer → Answer
in_lent lent a = cond (has_room lent) a (refused room_short 0)

-- the case of the enum for each answer of the paper: accepted with the counts of the reading's lists, refused with number and place
abbrev pub given : Answer → Result Counts Refusal
given (accepted r) = Ok (counts_of r)
given (refused number place) = Err (record { number = number; place = place })

-- ---- lent memory afterwards

-- a refusal "leaves lent memory unchanged, except that 4 to 13, 18 to 21 and 23 to 25 leave the output room zero up to the stated sizes"
unfoldable pub clears : ℕ → Bool
clears n =
    (leb range_parts n && leb n name_bytes_full) || ((leb pack_version n && leb n pack_left_over) || (leb unk_fields n && leb n unk_entries_full))

-- what lies past the sizes
unfoldable pub past : Tables → Tables
past t =
    record {
      names = drop max_name_bytes t.names;
      categories = drop (name_slot_size * max_categories) t.categories;
      definitions = drop (definition_size * max_category_lines) t.definitions;
      ranges = drop (range_slot_size * max_ranges) t.ranges;
      references = drop (reference_size * max_references) t.references;
    }

-- zero up to the sizes
unfoldable pub cleared : Tables → Tables
cleared t =
    record {
      names = zeroed max_name_bytes t.names;
      categories = zeroed (name_slot_size * max_categories) t.categories;
      definitions = zeroed (definition_size * max_category_lines) t.definitions;
      ranges = zeroed (range_slot_size * max_ranges) t.ranges;
      references = zeroed (reference_size * max_references) t.references;
    }

-- acceptance leaves the reading's tables, "unused places .. zero", and "memory past the sizes is untouched"
unfoldable pub leaves : Answer → Tables → Tables
unfolding clears
leaves (accepted r) t = behind (in_room (layout r)) (past t)
leaves (refused number place) t = cond (clears number) (cleared t) t

-- ---- both together, where the paper's answer is a

pub record Reads (a : Answer) (lent after : Tables) (r : Result Counts Refusal) : Type 0 where
  pub answer : r ≡ given (in_lent lent a)
  pub memory : after ≡ leaves (in_lent lent a) lent
