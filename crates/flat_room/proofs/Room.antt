-- The refusal by each test, and what there is room for where there is none.
-- Assumes nothing.
use Prim.Native.Nat.{ℕ, ◌≤◌}
use mathlib.Core.Path.{◌≡◌, refl}
use mathlib.Core.Bool.{Bool, true, false, cond, ◌||◌}
use lib.Dec.{ltb}
use borrow.Author.Tests.{ltb-false}
use Rattle.paper.specs.Sizes.{bmp_size, max_flat_row}
use Rattle.paper.specs.Refusals.{flat_row_long, table_room_short}
use Rattle.std.specs.Prelude.{Some, None}
use Rattle.flat_room.specs.Room.{refusal}

-- where there is none
pub record Fits (longest places index pool : ℕ) : Type 0 where
  pub short : longest ≤ max_flat_row
  pub whole : bmp_size ≤ index
  pub enough : places ≤ pool

pub fits : (longest places index pool : ℕ) → refusal longest places index pool ≡ None → Fits longest places index pool
unfolding refusal
fits longest places index pool e = go (ltb max_flat_row longest) refl (ltb index bmp_size) refl (ltb pool places) refl e
  where
    go : (a : Bool) → ltb max_flat_row longest ≡ a → (b : Bool) → ltb index bmp_size ≡ b → (c : Bool) → ltb pool places ≡ c
        → cond a (Some flat_row_long) (cond (b || c) (Some table_room_short) None) ≡ None → Fits longest places index pool
    go true ea b eb c ec f = cc
    go false ea true eb c ec f = cc
    go false ea false eb true ec f = cc
    go false ea false eb false ec f =
        record { short = ltb-false max_flat_row longest ea; whole = ltb-false index bmp_size eb; enough = ltb-false pool places ec }
