-- `row::build_rows` meets its contract: the need, the test of the room, and what the second walk fills.
-- Assumes nothing.
use Rattle.fill_rows.specs.Walked.{RowRoom}
use Rattle.row.proofs.Promise.{rows_made, rows_kept}
use Rattle.row.proofs.build_rows.Goals as goal

pub returns-then-has_room : goal.returns-then-has_room
returns-then-has_room c =
    let a = c.args in
    let lent : RowRoom = record { boundaries = a.boundaries.now; starts = a.starts.now; lengths = a.lengths.now; pool = a.pool.now } in
    rows_made _ _ lent _ _ c.rows_need-need.ensures c.has_room.ensures _ c.if-has_room.true c.fill_rows.ensures.filled

pub returns : goal.returns
returns c =
    let a = c.args in
    let lent : RowRoom = record { boundaries = a.boundaries.now; starts = a.starts.now; lengths = a.lengths.now; pool = a.pool.now } in
    rows_kept _ _ lent _ _ c.rows_need-need.ensures c.has_room.ensures c.if-has_room.false
