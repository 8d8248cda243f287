-- `fill_flat::fill_flat` meets its contract: each turn of the walk fills one row and the entries up to the next boundary. The walk stays in a window.
-- Assumes nothing.
use Prim.Native.Nat.{◌≤◌, ◌-◌}
use Rattle.paper.specs.Sizes.{max_row_places}
use Rattle.window.specs.Near.{no_boundary, InWindow}
use Rattle.cover.specs.Slots.{slots_got}
use Rattle.cover.specs.Fallback.{fallback_row}
use Rattle.fill_rows.specs.Walked.{boundaries_of, row_of}
use Rattle.fill_flat.proofs.Fills.{Filling}
use Rattle.fill_flat.proofs.fill_flat.Given as goal

abbrev pub invariant-loop-w : goal.invariant-loop-w
invariant-loop-w l =
    (Filling (row_of (fallback_row l.fallback) (slots_got 0 l.count l.ranges) l.references) (boundaries_of (slots_got 0 l.count l.ranges))
    (record { index = l.initial.index; pool = l.initial.pool }) l.seen (record { index = l.index; pool = l.pool }) l.w.at l.rows l.at
    × (l.at ≤ max_row_places))
    × InWindow l.ranges l.near l.count l.w

abbrev pub decreases-loop-w : goal.decreases-loop-w
decreases-loop-w l = no_boundary - l.w.at
