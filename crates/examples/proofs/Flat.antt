-- Rows of 255 categories, which a flat entry can hold, and of 256; lookups over a whole flat table.
-- Assumes nothing.
use Prim.Native.Nat.{ℕ}
use mathlib.Core.Path.{◌≡◌, refl}
use mathlib.Core.Bool.{true, false}
use mathlib.Core.List.{[], ◌∷◌}
use mathlib.Core.Option.{some}
use Rattle.paper.specs.Sizes.{bmp_size}
use Rattle.paper.specs.Refusals.{flat_row_long, table_room_short, tables_apart}
use Rattle.paper.specs.CharDef.Reading.{Reading}
use Rattle.paper.specs.Rows.Covering.{rows}
use Rattle.paper.specs.Rows.Flat.{short_rows, counting}
use Rattle.paper.specs.Rows.Build.{refused_by, flat_built}
use Rattle.paper.specs.Rows.Lookup.{gives, refuses, of_flat, lookup}
use Rattle.paper.proofs.Examples.Rows.{flat_tables, part}

-- a range that names n categories
unfoldable pub wide : ℕ → Reading
wide n = record { names = []; definitions = []; ranges = record { lower = 0x41; upper = 0x41; categories = counting 0 n } ∷ [] }

-- 255 categories in a row, and 256
pub short_255 : short_rows (rows (wide 255)) ≡ true
unfolding short_rows rows wide
short_255 = refl

pub long_256 : short_rows (rows (wide 256)) ≡ false
unfolding short_rows rows wide
long_256 = refl

-- 16 before 17
pub flat_rooms : flat_built (some (wide 256)) 0 0 ∷ flat_built (some (wide 255)) 0 0 ∷ [] ≡ refused_by flat_row_long ∷ refused_by table_room_short ∷ []
unfolding flat_built wide
flat_rooms = refl

-- the flat pool for the BMP, the row pool past it
pub flat_lookups :
    lookup (flat_tables bmp_size 0x102) 0xFFFF 0 ∷ lookup (flat_tables bmp_size 0x102) 0x10000 0 ∷ lookup (flat_tables bmp_size 0x103) 0x41 0 ∷ []
    ≡ gives (record { from = of_flat; start = 1; len = 2 }) ∷ part 0 1 ∷ refuses tables_apart ∷ []
unfolding lookup
flat_lookups = refl
