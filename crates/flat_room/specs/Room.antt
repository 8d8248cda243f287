-- Whether a flat table can be built: by the longest row, by the entries that the index holds, and by the places that the rows need and the pool has.
-- Assumes nothing.
use Rattle.std.specs.Prelude.{ℕ, cond, ◌||◌, ltb, Option, Some, None}
use Rattle.paper.specs.Sizes.{bmp_size, max_flat_row}
use Rattle.paper.specs.Refusals.{flat_row_long, table_room_short}

-- the number of the refusal, if there is one
unfoldable pub refusal : ℕ → ℕ → ℕ → ℕ → Option ℕ
refusal longest places index pool = cond (ltb max_flat_row longest) (Some flat_row_long) (cond (ltb index bmp_size || ltb pool places) (Some table_room_short) None)
