-- `pack_ranges::read_references` meets its contract. Assumes nothing.
use native.Mathlib.Omega.{arith}
use mathlib.Core.Path.{sym}
use lib.Dec.{ltb}
use Rattle.std.proofs.lemmas.Result.{err_from_is_err_and}
use Rattle.paper.specs.Numbers.Bytes.{le}
use Rattle.paper.specs.Pack.Fields.{number_width}
use Rattle.paper.specs.Computed.ReadPack.{number}
use Rattle.paper.specs.Tables.Layout.{reference_size}
use Rattle.paper.proofs.Tables.Trip.{wide_number}
use Rattle.pack_field.proofs.Fill.{none_yet, one_more, broken_off, all_read}
use Rattle.pack_ranges.proofs.Ranging.{known_read}
use Rattle.pack_ranges.proofs.read_references.Goals as goal

pub loop-i-init : goal.loop-i-init
loop-i-init c =
    let a = c.args in
    none_yet (le reference_size) reference_size wide_number (number number_width (λ x. ltb x a.known)) number_width _ _ _ _ _ (omega arith) (omega arith)

pub returns-in_err-v : goal.returns-in_err-v
returns-in_err-v c =
    let a = c.args in
    let p = err_from_is_err_and c.from_residual.result c.from_residual.ensures.1 in
    rw (p.1, p.2)
    (broken_off (le reference_size) reference_size wide_number (number number_width (λ x. ltb x a.known)) number_width _ _ _ _ _ (omega arith) _ _ _
    c.loop-i.invariant c.loop-i-test.true _ _ (sym c.in_err-v.ensures))

pub overflow_cast-v : goal.overflow_cast-v
overflow_cast-v c =
    let a = c.args in
    let v = known_read a.pack.now a.known _ c.in_ok-v.ensures in
    omega arith

pub loop-i-preserved : goal.loop-i-preserved
loop-i-preserved c =
    let a = c.args in
    let v = known_read a.pack.now a.known _ c.in_ok-v.ensures in
    one_more (le reference_size) reference_size wide_number (number number_width (λ x. ltb x a.known)) number_width _ _ _ _ _ (omega arith) _ _ _
    c.loop-i.invariant c.loop-i-test.true _ _ _ _ (sym c.in_ok-v.ensures) v.on (omega arith) (omega arith) c.put_u16.ensures

pub returns : goal.returns
returns c =
    let a = c.args in
    all_read (le reference_size) reference_size wide_number (number number_width (λ x. ltb x a.known)) number_width _ _ _ _ _ (omega arith) _ _ _
    c.loop-i.invariant c.loop-i-test.false
