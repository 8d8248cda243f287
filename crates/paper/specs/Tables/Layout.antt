-- A reading's tables as bytes, DESIGN.md section 6: entries one behind another, numbers with the least byte first; "names and references
-- stand in their stores one behind another from 0, in order".
-- Assumes nothing.
use Rattle.std.specs.Prelude.{ℕ, zero, suc, ◌+◌, ◌*◌, ◌≤◌, List, [], ◌∷◌, ◌++◌, map, eqb, length, take, drop, get_or}
use Rattle.paper.specs.Sizes.{max_categories, max_name_bytes, max_category_lines, max_ranges, max_references}
use Rattle.paper.specs.Lists.{joined}
use Rattle.paper.specs.Numbers.Bytes.{le, u16_size, u32_size}
use Rattle.paper.specs.CharDef.Reading.{Definition, Range, Reading, name_bytes, references}
use Rattle.paper.specs.Pack.Fields.{flag}
use Rattle.paper.specs.Tables.Lent.{num, padded}
use Rattle.paper.specs.declared.Counts.{Counts}

-- ---- entries

-- n entries of w bytes
unfoldable pub pieces : ℕ → ℕ → List ℕ → List (List ℕ)
pieces w zero l = []
pieces w (suc n) l = take w l ∷ pieces w n (drop w l)

pub record NameSlot : Type 0 where
  pub start : ℕ
  pub len : ℕ

pub record RangeSlot : Type 0 where
  pub lower : ℕ
  pub upper : ℕ
  pub first : ℕ
  pub count : ℕ

-- the bytes of an entry: a name's start and length; a definition's length and flags; a range's bounds, first reference and count
abbrev pub name_slot_size : ℕ
name_slot_size = 4

abbrev pub definition_size : ℕ
definition_size = 6

abbrev pub range_slot_size : ℕ
range_slot_size = 8

abbrev pub reference_size : ℕ
reference_size = 2

-- where its fields stand in it, behind the first
abbrev pub name_len_at : ℕ
name_len_at = 2

abbrev pub invoke_at : ℕ
invoke_at = 4

abbrev pub group_at : ℕ
group_at = 5

abbrev pub upper_at : ℕ
upper_at = 2

abbrev pub first_at : ℕ
first_at = 4

abbrev pub count_at : ℕ
count_at = 6

abbrev pub name_slot_bytes : NameSlot → List ℕ
name_slot_bytes p = le u16_size p.start ++ le u16_size p.len

abbrev pub definition_bytes : Definition → List ℕ
definition_bytes d = le u32_size d.len ++ (flag d.invoke ∷ flag d.group ∷ [])

abbrev pub slot_bytes : RangeSlot → List ℕ
slot_bytes r = le u16_size r.lower ++ (le u16_size r.upper ++ (le u16_size r.first ++ le u16_size r.count))

abbrev pub name_slot_of : List ℕ → NameSlot
name_slot_of p = record { start = num u16_size 0 p; len = num u16_size name_len_at p }

abbrev pub definition_of : List ℕ → Definition
definition_of p = record { invoke = eqb (get_or p invoke_at 0) 1; group = eqb (get_or p group_at 0) 1; len = num u32_size 0 p }

abbrev pub slot_of : List ℕ → RangeSlot
slot_of p = record { lower = num u16_size 0 p; upper = num u16_size upper_at p; first = num u16_size first_at p; count = num u16_size count_at p }

-- ---- one behind another

-- nameSlots of names with these lengths
unfoldable pub name_slots : ℕ → List ℕ → List NameSlot
name_slots at [] = []
name_slots at (n ∷ ns) = record { start = at; len = n } ∷ name_slots (at + n) ns

unfoldable pub range_slots : ℕ → List Range → List RangeSlot
range_slots at [] = []
range_slots at (g ∷ gs) =
    record { lower = g.lower; upper = g.upper; first = at; count = length g.categories } ∷ range_slots (at + length g.categories) gs

-- parts of these lengths
unfoldable pub split : List ℕ → List ℕ → List (List ℕ)
split [] l = []
split (n ∷ ns) l = take n l ∷ split ns (drop n l)

unfoldable pub ranging : List RangeSlot → List ℕ → List Range
ranging [] l = []
ranging (r ∷ rs) l =
    record { lower = r.lower; upper = r.upper; categories = take r.count l } ∷ ranging rs (drop r.count l)

-- ---- tables

pub record Tables : Type 0 where
  pub names : List ℕ
  pub categories : List ℕ
  pub definitions : List ℕ
  pub ranges : List ℕ
  pub references : List ℕ

unfoldable pub counts_of : Reading → Counts
counts_of r =
    record {
      categories = length r.names;
      definitions = length r.definitions;
      ranges = length r.ranges;
      references = references r.ranges;
      bytes = name_bytes r.names;
    }

abbrev pub range_table : List Range → List ℕ
range_table gs = joined (map slot_bytes (range_slots 0 gs))

abbrev pub numbers_of : List Range → List ℕ
numbers_of gs = joined (map (λ g. g.categories) gs)

abbrev pub reference_table : List Range → List ℕ
reference_table gs = joined (map (le reference_size) (numbers_of gs))

unfoldable pub layout : Reading → Tables
layout r =
    record {
      names = joined r.names;
      categories = joined (map name_slot_bytes (name_slots 0 (map length r.names)));
      definitions = joined (map definition_bytes r.definitions);
      ranges = range_table r.ranges;
      references = reference_table r.ranges;
    }

-- the parts of tables that counts name, and tables with more behind them
unfoldable pub used : Counts → Tables → Tables
used n t =
    record {
      names = take n.bytes t.names;
      categories = take (name_slot_size * n.categories) t.categories;
      definitions = take (definition_size * n.definitions) t.definitions;
      ranges = take (range_slot_size * n.ranges) t.ranges;
      references = take (reference_size * n.references) t.references;
    }

unfoldable pub behind : Tables → Tables → Tables
behind t x =
    record {
      names = t.names ++ x.names;
      categories = t.categories ++ x.categories;
      definitions = t.definitions ++ x.definitions;
      ranges = t.ranges ++ x.ranges;
      references = t.references ++ x.references;
    }

-- ---- room

-- with zero bytes up to the sizes
unfoldable pub in_room : Tables → Tables
in_room t =
    record {
      names = padded max_name_bytes t.names;
      categories = padded (name_slot_size * max_categories) t.categories;
      definitions = padded (definition_size * max_category_lines) t.definitions;
      ranges = padded (range_slot_size * max_ranges) t.ranges;
      references = padded (reference_size * max_references) t.references;
    }

-- tables that the room is enough for
pub record FitsRoom (t : Tables) : Type 0 where
  pub names : length t.names ≤ max_name_bytes
  pub categories : length t.categories ≤ name_slot_size * max_categories
  pub definitions : length t.definitions ≤ definition_size * max_category_lines
  pub ranges : length t.ranges ≤ range_slot_size * max_ranges
  pub references : length t.references ≤ reference_size * max_references
