-- Builders and the pack writer: "26, 16, 17 or 22", by what a reading needs and how much room is lent. A refusal's place is 0.
-- Assumes nothing.
use Rattle.std.specs.Prelude.{ℕ, Bool, cond, ◌||◌, map, ◌≡◌, ltb, length}
use Rattle.std.proofs.Math.Option.{Option, none, some}
use Rattle.paper.specs.Sizes.{max_flat_row, bmp_size}
use Rattle.paper.specs.Refusals.{flat_row_long, table_room_short, pack_room_short, tables_apart}
use Rattle.paper.specs.Lists.{any, sum, offsets_from}
use Rattle.paper.specs.CharDef.Reading.{Reading}
use Rattle.paper.specs.Rows.Covering.{boundaries, rows}
use Rattle.paper.specs.Rows.Flat.{flat_index, flat_pool}
use Rattle.paper.specs.Pack.Fields.{pack_bytes}

-- ---- the exact needs

-- boundaries, and as many row starts and row lengths
unfoldable pub rows_needed : Reading → ℕ
unfolding boundaries
rows_needed r = length (boundaries r)

-- pool places, of the row pool and of the flat pool
unfoldable pub places_needed : Reading → ℕ
unfolding rows
places_needed r = sum (map length (rows r))

-- 16: "a row has over 255 categories"
unfoldable pub row_overlong : Reading → Bool
unfolding rows
row_overlong r = any (λ w. ltb max_flat_row (length w)) (rows r)

-- 17: "room for rows or flat table below the exact need"
unfoldable pub row_room_short : Reading → (boundaries starts lengths pool : ℕ) → Bool
unfolding rows_needed places_needed
row_room_short r b s l p = ltb b (rows_needed r) || ltb s (rows_needed r) || ltb l (rows_needed r) || ltb p (places_needed r)

unfoldable pub flat_room_short : Reading → (index pool : ℕ) → Bool
unfolding places_needed
flat_room_short r i p = ltb i bmp_size || ltb p (places_needed r)

-- 22: "room for a written pack below its length"
unfoldable pub write_room_short : Reading → ℕ → Bool
unfolding pack_bytes
write_room_short r n = ltb n (length (pack_bytes r))

-- ---- the answers, over the reading that was handed in, if the tables hold together

pub data Built : Type 0 where
  built : Built
  refused_by : ℕ → Built

unfoldable pub rows_built : Option Reading → (boundaries starts lengths pool : ℕ) → Built
unfolding row_room_short
rows_built none b s l p = refused_by tables_apart
rows_built (some r) b s l p = cond (row_room_short r b s l p) (refused_by table_room_short) built

unfoldable pub flat_built : Option Reading → (index pool : ℕ) → Built
unfolding row_overlong flat_room_short
flat_built none i p = refused_by tables_apart
flat_built (some r) i p = cond (row_overlong r) (refused_by flat_row_long) (cond (flat_room_short r i p) (refused_by table_room_short) built)

unfoldable pub pack_written : Option Reading → ℕ → Built
unfolding write_room_short
pack_written none n = refused_by tables_apart
pack_written (some r) n = cond (write_room_short r n) (refused_by pack_room_short) built

-- ---- what is filled, besides boundaries, pools and index

-- the exact needs are the lengths of what is filled
pub record ExactNeeds (r : Reading) : Type 0 where
  pub of_boundaries : rows_needed r ≡ length (boundaries r)
  pub of_starts : rows_needed r ≡ length (offsets_from 0 (rows r))
  pub of_lengths : rows_needed r ≡ length (map length (rows r))
  pub of_pool : places_needed r ≡ length (flat_pool r)
  pub of_index : bmp_size ≡ length (flat_index r)
