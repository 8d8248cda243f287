-- The walk's rows made, or 17 by the room: what stands between the walk and the promise of `build_lookup_table`.
-- Assumes nothing.
use Rattle.std.specs.Prelude.{ℕ, ◌≡◌, List, length}
use Rattle.paper.specs.Refusals.{table_room_short}
use Rattle.paper.specs.Lists.{joined}
use Rattle.row_room.specs.Room.{Room}
use Rattle.fill_rows.specs.Walked.{RowRoom, Filled}
use Rattle.std.specs.Prelude.{Err, Ok, Result}
use Rattle.paper.specs.declared.Refusal.{Refusal}
use Rattle.row.specs.declared.RowCounts.{RowCounts}

abbrev pub RoomFor : List ℕ → List (List ℕ) → RowRoom → Type 0
RoomFor bs ws lent =
    Room (length bs) (length (joined ws)) (length lent.boundaries) (length lent.starts) (length lent.lengths) (length lent.pool)

pub record Made (bs : List ℕ) (ws : List (List ℕ)) (lent after : RowRoom) (rows places : ℕ) : Type 0 where
  pub roomy : RoomFor bs ws lent
  pub filled : Filled bs ws lent after
  pub count_rows : rows ≡ length bs
  pub count_places : places ≡ length (joined ws)

pub record Kept (bs : List ℕ) (ws : List (List ℕ)) (lent after : RowRoom) (number place : ℕ) : Type 0 where
  pub short : RoomFor bs ws lent → ⊥
  pub is_17 : number ≡ table_room_short
  pub at_0 : place ≡ 0
  pub same : after ≡ lent

abbrev pub MadeOr17 : List ℕ → List (List ℕ) → RowRoom → RowRoom → Result RowCounts Refusal → Type 0
MadeOr17 bs ws lent after (Ok n) = Made bs ws lent after n.rows n.places
MadeOr17 bs ws lent after (Err e) = Kept bs ws lent after e.number e.place
