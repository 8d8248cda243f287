-- The search among boundaries, in whatever order they stand: it finds a row of c, or answers 0 where there is no boundary or the first
-- is above c. Where they begin at 0 it finds one (`sought_found` of the proofs), where they rise its answer is one (`sought_one`).
-- Assumes nothing.
use Rattle.std.specs.Prelude.{ℕ, ◌<◌, List, ◌≡◌, length, get_or}
use Rattle.paper.specs.Rows.Flat.{RowFound}

pub data RowSought (bs : List ℕ) (c i : ℕ) : Type 0 where
  found : RowFound bs c i → RowSought bs c i
  none_below : i ≡ 0 → (0 < length bs → c < get_or bs 0 0) → RowSought bs c i
