-- `flat::build_flat_table` meets its contract: 26 by the test of `hold`; over tables that hold together the walk over two of them makes the reading's
-- flat table. Assumes nothing.
use Prim.Native.Nat.{ℕ}
use native.Mathlib.Omega.{arith}
use mathlib.Core.Bool.{false, not}
use mathlib.Core.List.{List}
use mathlib.Core.Path.{◌≡◌}
use borrow.Author.Rules.{rules}
use Rattle.paper.specs.Computed.HandedIn.{holds}
use Rattle.hold.specs.HandedIn.{tables}
use Rattle.table_rules.proofs.Tests.{untrue, passed, clash}
use Rattle.fill_rows.proofs.Fills.{one_fallback}
use Rattle.row.proofs.Meets.{few_names}
use Rattle.fill_flat.specs.Walked.{FlatRoom}
use Rattle.flat.proofs.Promise.{builds_apart, buildable, builds_flat}
use Rattle.flat.proofs.build_flat_table.Goals as goal

pub returns-then-not-holds : goal.returns-then-not-holds
returns-then-not-holds c =
    let a = c.args in
    let t = tables a.reading.now in
    let lent : FlatRoom = record { index = a.flat_index.now; pool = a.flat_pool.now } in
    builds_apart t a.reading.now.counts lent (untrue (holds t a.reading.now.counts) (clash c.holds.result (holds t a.reading.now.counts) c.holds.ensures (search rules)))

pub fallback_of-fallback-requires : goal.fallback_of-fallback-requires
fallback_of-fallback-requires c =
    let a = c.args in
    let t = tables a.reading.now in
    few_names t a.reading.now.counts (passed c.holds.result (holds t a.reading.now.counts) c.holds.ensures (search rules))

pub build_flat-requires : goal.build_flat-requires
build_flat-requires c =
    let a = c.args in
    let t = tables a.reading.now in
    let d = c.fallback_of-fallback in
    buildable t a.reading.now.counts (passed c.holds.result (holds t a.reading.now.counts) c.holds.ensures (search rules)) _ d.ensures
    (one_fallback d.result)

pub returns : goal.returns
returns c =
    let a = c.args in
    let t = tables a.reading.now in
    let lent : FlatRoom = record { index = a.flat_index.now; pool = a.flat_pool.now } in
    let h = c.holds.ensures in
    let u : not c.holds.result ≡ false = search rules in
    let d = c.fallback_of-fallback.ensures in
    builds_flat t a.reading.now.counts (passed _ (holds t a.reading.now.counts) h u) _ d lent _ _ c.build_flat.ensures
