-- Rows, flat entries, rooms and lookups, by computed statements: what a slip would change.
-- Assumes nothing.
use Prim.Native.Nat.{ℕ}
use mathlib.Core.Path.{◌≡◌, refl}
use mathlib.Core.Bool.{true, false}
use mathlib.Core.List.{List, [], ◌∷◌, map}
use mathlib.Core.Option.{none, some}
use lib.ListN.{replicate}
use Rattle.paper.specs.Sizes.{bmp_size}
use Rattle.paper.specs.Refusals.{not_scalar, number_unknown, table_room_short, pack_room_short, tables_apart}
use Rattle.paper.specs.Lists.{offsets_from}
use Rattle.paper.specs.CharDef.Reading.{Reading}
use Rattle.paper.specs.Rows.Covering.{boundaries, rows}
use Rattle.paper.specs.Rows.Flat.{entry_of, entry_offset, entry_length, row_number, flat_entry, entry_part, flat_pool}
use Rattle.paper.specs.Rows.Build.{built, refused_by, rows_built, flat_built, pack_written}
use Rattle.paper.specs.Rows.Lookup.{Looked, gives, refuses, LookupTables, of_rows, Part, uses_flat, lookup, packed_at}
use Rattle.paper.specs.Rows.Numbers.{find_name, lookup_definition, category_name}
use Rattle.paper.proofs.Examples.CharDef.{Example, Holds, All, ex, names_at, rows_are, boundaries_are}

-- ---- texts and their rows

unfoldable pub row_texts : List Example
row_texts =
    -- the upper bound is held, and nothing behind it
    ex "0x41..0x43 A" (names_at 0x43 ("A" ∷ []))
    ∷ ex "0x41..0x43 A" (names_at 0x44 [])
    ∷ ex "0x41..0x43 A" (names_at 0x40 [])
    -- DEFAULT only where the ranges that hold a number name none, though a range is there
    ∷ ex "DEFAULT 0 1 0\n0x41..0x43 A\n0x43..0x44" (rows_are (("DEFAULT" ∷ []) ∷ ("A" ∷ []) ∷ ("A" ∷ []) ∷ ("DEFAULT" ∷ []) ∷ ("DEFAULT" ∷ []) ∷ []))
    -- and where it is named it stands once, in its place
    ∷ ex "0x41 A DEFAULT\n0x42 A" (rows_are (("DEFAULT" ∷ []) ∷ ("A" ∷ "DEFAULT" ∷ []) ∷ ("A" ∷ []) ∷ ("DEFAULT" ∷ []) ∷ []))
    -- without DEFAULT such rows are empty
    ∷ ex "0x41..0x42\nA 1 0 0" (rows_are ([] ∷ [] ∷ [] ∷ []))
    -- by line and then left to right, not by number and not by last sight
    ∷ ex "C 0 0 0\n0x41..0x42 B A\n0x42 C B" (rows_are ([] ∷ ("B" ∷ "A" ∷ []) ∷ ("B" ∷ "A" ∷ "C" ∷ []) ∷ [] ∷ []))
    ∷ ex "0x41 A B A" (rows_are ([] ∷ ("A" ∷ "B" ∷ []) ∷ [] ∷ []))
    -- an inverted range adds its boundaries and holds nothing
    ∷ ex "0x50..0x40 A\n0x30..0x60 B" (boundaries_are (0 ∷ 0x30 ∷ 0x41 ∷ 0x50 ∷ 0x61 ∷ []))
    ∷ ex "0x50..0x40 A\n0x30..0x60 B" (rows_are ([] ∷ ("B" ∷ []) ∷ ("B" ∷ []) ∷ ("B" ∷ []) ∷ [] ∷ []))
    -- repeats once; 0 too
    ∷ ex "0x0..0x41 A\n0x42 B\n0x0 C" (boundaries_are (0 ∷ 1 ∷ 0x42 ∷ 0x43 ∷ []))
    -- FFFF is held, and 10000 is the boundary behind it
    ∷ ex "0xFFFF A" (boundaries_are (0 ∷ 0xFFFF ∷ 0x10000 ∷ []))
    ∷ ex "0xFFFF A" (names_at 0xFFFF ("A" ∷ []))
    ∷ ex "0xFFFF A" (names_at 0x10000 [])
    ∷ []

pub row_texts_hold : All row_texts
unfolding Holds row_texts
row_texts_hold = (refl, (refl, (refl, (refl, (refl, (refl, (refl, (refl, (refl, (refl, (refl, (refl, (refl, (refl, tt))))))))))))))

-- ---- flat entries and rooms

-- `0x41 B A` then `0x41..0x42 A C`
unfoldable pub two_lines : Reading
two_lines =
    record {
      names = (0x42 ∷ []) ∷ (0x41 ∷ []) ∷ (0x43 ∷ []) ∷ [];
      definitions = [];
      ranges = record { lower = 0x41; upper = 0x41; categories = 0 ∷ 1 ∷ [] } ∷ record { lower = 0x41; upper = 0x42; categories = 1 ∷ 2 ∷ [] } ∷ [];
    }

pub two_lines_rows : rows two_lines ≡ [] ∷ (0 ∷ 1 ∷ 2 ∷ []) ∷ (1 ∷ 2 ∷ []) ∷ [] ∷ []
unfolding rows two_lines
two_lines_rows = refl

pub numbers_of : map (row_number (boundaries two_lines)) (0 ∷ 0x40 ∷ 0x41 ∷ 0x42 ∷ 0x43 ∷ 0x10FFFF ∷ []) ≡ 0 ∷ 0 ∷ 1 ∷ 2 ∷ 3 ∷ 3 ∷ []
unfolding row_number boundaries two_lines
numbers_of = refl

-- offset times 256 plus length
pub entries : map (flat_entry two_lines) (0x40 ∷ 0x41 ∷ 0x42 ∷ 0x43 ∷ []) ≡ 0 ∷ 3 ∷ 0x302 ∷ 0x500 ∷ []
unfolding flat_entry two_lines
entries = refl

pub entry_split : (entry_of 3 2 ≡ 0x302) × (entry_offset 0x302 ≡ 3) × (entry_length 0x302 ≡ 2)
entry_split = (refl, refl, refl)

pub parts : map (λ c. entry_part (flat_entry two_lines c) (flat_pool two_lines)) (0x41 ∷ 0x42 ∷ 0x43 ∷ []) ≡ (0 ∷ 1 ∷ 2 ∷ []) ∷ (1 ∷ 2 ∷ []) ∷ [] ∷ []
unfolding flat_entry entry_part flat_pool two_lines
parts = refl

pub starts : offsets_from 0 (rows two_lines) ≡ 0 ∷ 0 ∷ 3 ∷ 5 ∷ []
unfolding rows two_lines
starts = refl

-- the exact need and one less, in each table; 26 before 17 (`examples` has 16)
pub rows_rooms :
    rows_built (some two_lines) 4 4 4 5 ∷ rows_built (some two_lines) 3 4 4 5 ∷ rows_built (some two_lines) 4 3 4 5 ∷ rows_built (some two_lines) 4 4 3 5
    ∷ rows_built (some two_lines) 4 4 4 4 ∷ rows_built none 0 0 0 0 ∷ []
    ≡ built ∷ refused_by table_room_short ∷ refused_by table_room_short ∷ refused_by table_room_short ∷ refused_by table_room_short ∷ refused_by tables_apart ∷ []
unfolding rows_built two_lines
rows_rooms = refl

pub flat_rooms :
    flat_built (some two_lines) bmp_size 5 ∷ flat_built (some two_lines) 65535 5 ∷ flat_built (some two_lines) bmp_size 4 ∷ flat_built none 0 0 ∷ []
    ≡ built ∷ refused_by table_room_short ∷ refused_by table_room_short ∷ refused_by tables_apart ∷ []
unfolding flat_built two_lines
flat_rooms = refl

-- the empty reading's pack has 7 bytes
pub pack_rooms : pack_written (some (record { names = []; definitions = []; ranges = [] })) 7 ∷ pack_written (some (record { names = []; definitions = []; ranges = [] })) 6 ∷ pack_written none 0 ∷ []
    ≡ built ∷ refused_by pack_room_short ∷ refused_by tables_apart ∷ []
unfolding pack_written
pack_rooms = refl

-- ---- lookups over small tables

-- tables of rows, and no flat table
abbrev row_tables : (boundaries starts lengths pool : List ℕ) → LookupTables
row_tables b s l p = record { index = []; flat = []; boundaries = b; starts = s; lengths = l; pool = p }

-- a flat table whose entries all are e, and one row
abbrev pub flat_tables : (n e : ℕ) → LookupTables
flat_tables n e = record { index = replicate n e; flat = 7 ∷ 8 ∷ 9 ∷ []; boundaries = 0 ∷ []; starts = 0 ∷ []; lengths = 1 ∷ []; pool = 5 ∷ [] }

abbrev pub part : ℕ → ℕ → Looked Part
part start len = gives (record { from = of_rows; start = start; len = len })

pub row_lookups :
    -- found; 14 for a surrogate and past 10FFFF, before 26
    lookup (row_tables (0 ∷ 0x41 ∷ []) (0 ∷ 1 ∷ []) (1 ∷ 2 ∷ []) (7 ∷ 8 ∷ 9 ∷ [])) 0x41 1
    ∷ lookup (row_tables [] [] [] []) 0xD800 0
    ∷ lookup (row_tables [] [] [] []) 0x110000 0
    -- no boundary, and a first one above 0
    ∷ lookup (row_tables [] (0 ∷ []) (0 ∷ []) []) 0x41 0
    ∷ lookup (row_tables (1 ∷ []) (0 ∷ []) (0 ∷ []) []) 0x41 0
    -- a start or a length missing, and a part past the pool
    ∷ lookup (row_tables (0 ∷ 0x41 ∷ []) (0 ∷ []) (1 ∷ 2 ∷ []) (7 ∷ 8 ∷ 9 ∷ [])) 0x41 1
    ∷ lookup (row_tables (0 ∷ 0x41 ∷ []) (0 ∷ 1 ∷ []) (1 ∷ []) (7 ∷ 8 ∷ 9 ∷ [])) 0x41 1
    ∷ lookup (row_tables (0 ∷ 0x41 ∷ []) (0 ∷ 1 ∷ []) (1 ∷ 3 ∷ []) (7 ∷ 8 ∷ 9 ∷ [])) 0x41 1
    -- an index of one entry
    ∷ lookup (flat_tables 1 0) 0x41 0
    ∷ []
    ≡ part 1 2 ∷ refuses not_scalar ∷ refuses not_scalar ∷ refuses tables_apart ∷ refuses tables_apart ∷ refuses tables_apart ∷ refuses tables_apart ∷ refuses tables_apart ∷ refuses tables_apart ∷ []
unfolding lookup
row_lookups = refl

-- the flat pool for the BMP, the row pool past it (`examples` looks there)
pub flat_used : map (uses_flat (flat_tables 1 0)) (0xFFFF ∷ 0x10000 ∷ []) ≡ true ∷ false ∷ []
unfolding uses_flat
flat_used = refl

pub packed_lookups :
    packed_at (0 ∷ 0x302 ∷ []) 1 ∷ packed_at (0 ∷ 0x302 ∷ []) 0x10000 ∷ packed_at [] 1 ∷ packed_at (0 ∷ 0x302 ∷ []) 2 ∷ packed_at [] 0xDFFF ∷ []
    ≡ gives (some 0x302) ∷ gives none ∷ gives none ∷ refuses tables_apart ∷ refuses not_scalar ∷ []
unfolding packed_at
packed_lookups = refl

-- ---- names and numbers: a store `AB`, and slots of its A, its B and its A again

abbrev store : List ℕ
store = 0x41 ∷ 0x42 ∷ []

abbrev slots : List ℕ
slots = 0 ∷ 0 ∷ 1 ∷ 0 ∷ 1 ∷ 0 ∷ 1 ∷ 0 ∷ 0 ∷ 0 ∷ 1 ∷ 0 ∷ []

pub finding :
    -- the lowest number, absent where no name is it
    find_name store slots 3 (0x41 ∷ []) ∷ find_name store slots 3 (0x42 ∷ []) ∷ find_name store slots 1 (0x42 ∷ []) ∷ find_name [] [] 0 []
    -- the table is shorter than its count; a name runs past the store, though not the one looked for
    ∷ find_name store slots 4 (0x41 ∷ []) ∷ find_name (0x41 ∷ []) slots 3 (0x41 ∷ []) ∷ []
    ≡ gives (some 0) ∷ gives (some 1) ∷ gives none ∷ gives none ∷ refuses tables_apart ∷ refuses tables_apart ∷ []
unfolding find_name
finding = refl

pub naming :
    category_name store slots 3 1 ∷ category_name store slots 1 1 ∷ category_name store slots 4 3 ∷ category_name (0x41 ∷ []) slots 3 1 ∷ category_name (0x41 ∷ []) slots 3 0 ∷ []
    ≡ gives (record { start = 1; len = 1 }) ∷ refuses number_unknown ∷ refuses tables_apart ∷ refuses tables_apart ∷ gives (record { start = 0; len = 1 }) ∷ []
unfolding category_name
naming = refl

pub defining :
    lookup_definition (2 ∷ 1 ∷ 0 ∷ 0 ∷ 1 ∷ 0 ∷ []) 1 0 ∷ lookup_definition (2 ∷ 1 ∷ 0 ∷ 0 ∷ 1 ∷ 0 ∷ []) 1 1 ∷ lookup_definition (2 ∷ 1 ∷ 0 ∷ 0 ∷ 1 ∷ []) 1 0 ∷ []
    ≡ gives (record { invoke = true; group = false; len = 258 }) ∷ refuses number_unknown ∷ refuses tables_apart ∷ []
unfolding lookup_definition
defining = refl
