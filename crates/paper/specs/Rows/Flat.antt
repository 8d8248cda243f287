-- "A flat entry is offset times 256 plus length, offset being the sum of the earlier rows' lengths": the row of a code point, its flat
-- entry, the part of the pool that an entry names, and the flat table of a reading.
-- Assumes nothing.
use Rattle.std.specs.Prelude.{ℕ, zero, suc, ◌+◌, ◌-◌, ◌*◌, ◌/◌, ◌%◌, ◌<◌, ◌≤◌, Bool, List, [], ◌∷◌, map, leb, length, get_or, take, drop}
use Rattle.paper.specs.Sizes.{max_flat_row, bmp_size}
use Rattle.paper.specs.Lists.{all, select, joined, sum}
use Rattle.paper.specs.CharDef.Reading.{Reading}
use Rattle.paper.specs.Rows.Covering.{boundaries, rows}

-- ---- the row of a code point

-- boundary i is at or below c, and the next one, if there is one, above: among ascending boundaries from 0 just one is
pub record RowFound (bs : List ℕ) (c i : ℕ) : Type 0 where
  pub inside : i < length bs
  pub up_to : get_or bs i 0 ≤ c
  pub next_above : suc i < length bs → c < get_or bs (suc i) 0

-- its number: as many boundaries as are at or below c, but for it
unfoldable pub row_number : List ℕ → ℕ → ℕ
row_number bs c = length (select (λ b. leb b c) bs) - 1

unfoldable pub eval_row : List ℕ → List (List ℕ) → ℕ → List ℕ
unfolding row_number
eval_row bs ws c = get_or ws (row_number bs c) []

-- ---- flat entries

abbrev pub offset_unit : ℕ
offset_unit = 256

abbrev pub entry_of : ℕ → ℕ → ℕ
entry_of offset len = offset * offset_unit + len

abbrev pub entry_offset : ℕ → ℕ
entry_offset e = e / offset_unit

abbrev pub entry_length : ℕ → ℕ
entry_length e = e % offset_unit

-- "the 24-bit offset": the greatest
abbrev pub max_offset : ℕ
max_offset = 0xFF_FFFF

-- the sum of the lengths of the rows before row i
unfoldable pub offset_of : List (List ℕ) → ℕ → ℕ
offset_of ws i = sum (map length (take i ws))

unfoldable pub flat_entry : Reading → ℕ → ℕ
unfolding offset_of rows row_number boundaries
flat_entry r c =
    let i = row_number (boundaries r) c in
    entry_of (offset_of (rows r) i) (length (get_or (rows r) i []))

-- the part of the pool that an entry names
unfoldable pub entry_part : ℕ → List ℕ → List ℕ
entry_part e pool = take (entry_length e) (drop (entry_offset e) pool)

-- every row has maxFlatRow categories at most
unfoldable pub short_rows : List (List ℕ) → Bool
short_rows ws = all (λ w. leb (length w) max_flat_row) ws

-- ---- the flat table

-- n numbers from i on
abbrev pub counting : ℕ → ℕ → List ℕ
counting i zero = []
counting i (suc n) = i ∷ counting (suc i) n

-- an entry for each code point of the BMP; the rows stand one behind another in the pool
unfoldable pub flat_index : Reading → List ℕ
unfolding flat_entry
flat_index r = map (flat_entry r) (counting 0 bmp_size)

unfoldable pub flat_pool : Reading → List ℕ
unfolding rows
flat_pool r = joined (rows r)
