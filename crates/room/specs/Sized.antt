-- Tables of just the sizes, and what a reader that works over such tables promises: `reads` of the proofs makes the whole promise of it.
-- Assumes nothing.
use Rattle.std.specs.Prelude.{ℕ, ◌*◌, ◌≡◌, [], length}
use Rattle.paper.specs.Sizes.{max_categories, max_name_bytes, max_category_lines, max_ranges, max_references}
use Rattle.paper.specs.CharDef.Reading.{Reading, Answer, accepted, refused}
use Rattle.paper.specs.Tables.Layout.{Tables, layout, in_room, counts_of, name_slot_size, definition_size, range_slot_size, reference_size}
use Rattle.paper.specs.declared.Counts.{Counts}
use Rattle.std.specs.Prelude.{Err, Ok, Result}
use Rattle.paper.specs.declared.Refusal.{Refusal}

pub record Sized (t : Tables) : Type 0 where
  pub names : length t.names ≡ max_name_bytes
  pub categories : length t.categories ≡ name_slot_size * max_categories
  pub definitions : length t.definitions ≡ definition_size * max_category_lines
  pub ranges : length t.ranges ≡ range_slot_size * max_ranges
  pub references : length t.references ≡ reference_size * max_references

-- tables with nothing in them
unfoldable pub no_tables : Tables
no_tables = record { names = []; categories = []; definitions = []; ranges = []; references = [] }

pub record AcceptedInto (a : Answer) (after : Tables) (n : Counts) : Type 0 where
  pub reading : Reading
  pub is : a ≡ accepted reading
  pub counts : n ≡ counts_of reading
  pub tables : after ≡ in_room (layout reading)

pub record RefusedInto (a : Answer) (after : Tables) (number place : ℕ) : Type 0 where
  pub is : a ≡ refused number place
  pub tables : after ≡ in_room no_tables

-- the reading's tables; nothing is said of them where the answer is a refusal
abbrev pub FilledInto : Answer → Tables → Result Counts Refusal → Type 0
FilledInto a after (Ok n) = AcceptedInto a after n
FilledInto a after (Err x) = a ≡ refused x.number x.place

-- the reading's tables, or zero where the answer is a refusal
abbrev pub ReadInto : Answer → Tables → Result Counts Refusal → Type 0
ReadInto a after (Ok n) = AcceptedInto a after n
ReadInto a after (Err x) = RefusedInto a after x.number x.place
