-- `row::build_lookup_table` meets its contract: 26 by the test of `hold`; over tables that hold together the walk over two of them makes the
-- reading's rows.
-- Assumes nothing.
use Rattle.hold.specs.HandedIn.{tables}
use Rattle.paper.specs.Computed.HandedIn.{holds}
use Rattle.table_rules.proofs.Tests.{untrue, passed, clash}
use Rattle.fill_rows.specs.Walked.{RowRoom}
use Rattle.row.proofs.Meets.{few_names, readable}
use Rattle.row.proofs.Promise.{builds_apart, builds_rows}
use Rattle.row.proofs.build_lookup_table.Goals as goal

pub returns-then-not-holds : goal.returns-then-not-holds
returns-then-not-holds c =
    let a = c.args in
    let t = tables a.reading.now in
    let lent : RowRoom = record { boundaries = a.boundaries.now; starts = a.starts.now; lengths = a.lengths.now; pool = a.pool.now } in
    builds_apart t a.reading.now.counts lent
    (untrue (holds t a.reading.now.counts) (clash _ (holds t a.reading.now.counts) c.holds.ensures c.if-not-holds.true-raw))

pub fallback_of-fallback-requires : goal.fallback_of-fallback-requires
fallback_of-fallback-requires c =
    let r = c.args.reading.now in
    few_names (tables r) r.counts (passed _ (holds (tables r) r.counts) c.holds.ensures c.if-not-holds.false-raw)

pub build_rows-requires : goal.build_rows-requires
build_rows-requires c =
    let r = c.args.reading.now in
    readable (tables r) r.counts (passed _ (holds (tables r) r.counts) c.holds.ensures c.if-not-holds.false-raw)

pub returns : goal.returns
returns c =
    let a = c.args in
    let t = tables a.reading.now in
    let lent : RowRoom = record { boundaries = a.boundaries.now; starts = a.starts.now; lengths = a.lengths.now; pool = a.pool.now } in
    builds_rows t a.reading.now.counts lent (passed _ (holds t a.reading.now.counts) c.holds.ensures c.if-not-holds.false-raw)
    _ _ _ c.fallback_of-fallback.ensures c.build_rows.ensures
