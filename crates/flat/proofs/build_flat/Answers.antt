-- `flat::build_flat` meets its contract: 16 or 17 by the need and the room, and what the second walk fills. Assumes nothing.
use native.Mathlib.Omega.{arith}
use Prim.Native.Nat.{ℕ}
use mathlib.Core.Path.{◌≡◌, refl, sym}
use Rattle.std.specs.Prelude.{Option, Some, None}
use lib.Seq.{length-take-le}
use Rattle.paper.specs.Sizes.{bmp_size}
use Rattle.paper.proofs.Tables.Laws.{short}
use Rattle.fill_flat.specs.Walked.{FlatRoom}
use Rattle.flat.proofs.Promise.{flat_refused, whole_index, flat_made}
use Rattle.flat.proofs.build_flat.Goals as goal

none_left : (o : Option ℕ) → ((n : ℕ) → o ≡ Some n → ⊥) → o ≡ None
none_left None h = refl
none_left (Some n) h = absurd (h n refl)

pub returns-in-Some : goal.returns-in-Some
returns-in-Some c =
    let a = c.args in
    let lent : FlatRoom = record { index = a.index.now; pool = a.pool.now } in
    flat_refused _ _ lent _ c.rows_need-need.ensures _ c.refusal_of.ensures c.in-Some.number c.in-Some.is

pub slice_bounds-fill_fresh-end : goal.slice_bounds-fill_fresh-end
slice_bounds-fill_fresh-end c =
    let a = c.args in
    let lent : FlatRoom = record { index = a.index.now; pool = a.pool.now } in
    let whole = whole_index _ _ lent _ c.rows_need-need.ensures _ c.refusal_of.ensures (none_left _ c.in_default.not-Some) in
    omega (arith, whole)

pub slice_bounds-fill_fresh-end-2 : goal.slice_bounds-fill_fresh-end-2
slice_bounds-fill_fresh-end-2 c =
    let a = c.args in
    let lent : FlatRoom = record { index = a.index.now; pool = a.pool.now } in
    let whole = whole_index _ _ lent _ c.rows_need-need.ensures _ c.refusal_of.ensures (none_left _ c.in_default.not-Some) in
    sym (length-take-le _ a.index.now (omega (arith, whole)))

pub fill_fresh-requires : goal.fill_fresh-requires
fill_fresh-requires c = (c.requires, short bmp_size (c.args.index.now))

pub returns : goal.returns
returns c =
    let a = c.args in
    let lent : FlatRoom = record { index = a.index.now; pool = a.pool.now } in
    flat_made _ _ lent _ c.rows_need-need.ensures _ c.refusal_of.ensures (none_left _ c.in_default.not-Some) _ refl _ _ c.fill_fresh.ensures
