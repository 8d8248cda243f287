-- What reading the body promises: the reading that the paper reads behind the head, and the tables that it leaves.
-- Assumes nothing.
use Rattle.std.specs.Prelude.{ℕ, ◌+◌, ◌*◌, ◌≤◌, ◌≡◌, List, map, eqb, length}
use Rattle.paper.specs.Sizes.{max_categories, max_name_bytes, max_category_lines, max_ranges, max_references}
use Rattle.paper.specs.Lists.{joined}
use Rattle.paper.specs.CharDef.Reading.{Definition, Range, Reading, references}
use Rattle.paper.specs.Pack.Fields.{byte_width, name_length_width, number_width, definition_width, range_width}
use Rattle.paper.specs.Computed.ReadPack.{gave, broke, Reader, ◌▹◌, give, demand, many, read_definition, read_ranges, read_body}
use Rattle.paper.specs.Tables.Layout.{Tables, layout, in_room, counts_of, definition_bytes, definition_size}
use Rattle.paper.specs.Tables.Lent.{padded}
use Rattle.field.specs.Cursor.{rest}
use Rattle.pack_head.specs.declared.Head.{Head}
use Rattle.pack_field.specs.Parts.{max_place}
use Rattle.pack_ranges.specs.Ranges.{Two, Ranged}
use Rattle.std.specs.Prelude.{Err, Ok, Result}
use Rattle.field.specs.declared.BitCursor.{BitCursor}
use Rattle.paper.specs.declared.Refusal.{Refusal}

-- ---- behind the names

pub record HeadFits (h : Head) : Type 0 where
  pub categories_fit : h.categories ≤ max_categories
  pub lines_fit : h.lines ≤ max_category_lines
  pub ranges_fit : h.ranges ≤ max_ranges
  pub references_fit : h.references ≤ max_references

-- the bits that are left to read at most, behind the names and behind the head
abbrev pub tail_width : Head → ℕ
tail_width h = definition_width * h.lines + range_width * h.ranges + number_width * h.references

abbrev pub body_width : Head → ℕ
body_width h = name_length_width * h.categories + byte_width * max_name_bytes + tail_width h

-- what the paper reads behind these names
unfoldable pub read_tail : Head → List (List ℕ) → Reader Reading
read_tail h names =
    many h.lines read_definition ▹ λ definitions.
    read_ranges h.ranges h.categories h.references 0 ▹ λ gs.
    demand (eqb (references gs) h.references) ▹ λ whole.
    give (record { names = names; definitions = definitions; ranges = gs })

pub record TailIn (p : List ℕ) (at : ℕ) (h : Head) (in_definitions : List ℕ) (t : Two) (next : ℕ) : Type 0 where
  pub definitions : List Definition
  pub ranges : List Range
  pub near : next ≤ max_place
  pub reads : (names : List (List ℕ)) → read_tail h names at (rest p at) ≡ gave (record { names = names; definitions = definitions; ranges = ranges }) next (rest p next)
  pub lines_are : length definitions ≡ h.lines
  pub ranges_are : length ranges ≡ h.ranges
  pub references_are : references ranges ≡ h.references
  pub defined : in_definitions ≡ padded (definition_size * max_category_lines) (joined (map definition_bytes definitions))
  pub ranged : Ranged ranges t

abbrev pub TailIs : List ℕ → ℕ → Head → List ℕ → Two → Result BitCursor Refusal → Type 0
TailIs p at h in_definitions t (Ok c) = TailIn p at h in_definitions t c.at
TailIs p at h in_definitions t (Err r) = (names : List (List ℕ)) → read_tail h names at (rest p at) ≡ broke r.number r.place

-- ---- behind the head

pub record BodyIn (p : List ℕ) (at : ℕ) (h : Head) (t : Tables) (bytes next : ℕ) : Type 0 where
  pub reading : Reading
  pub near : next ≤ max_place
  pub reads : read_body h.categories h.lines h.ranges h.references at (rest p at) ≡ gave reading next (rest p next)
  pub counts : record { categories = h.categories; definitions = h.lines; ranges = h.ranges; references = h.references; bytes = bytes } ≡ counts_of reading
  pub tables : t ≡ in_room (layout reading)

abbrev pub BodyIs : List ℕ → ℕ → Head → Tables → Result (ℕ × BitCursor) Refusal → Type 0
BodyIs p at h t (Ok (bytes, c)) = BodyIn p at h t bytes c.at
BodyIs p at h t (Err r) = read_body h.categories h.lines h.ranges h.references at (rest p at) ≡ broke r.number r.place
