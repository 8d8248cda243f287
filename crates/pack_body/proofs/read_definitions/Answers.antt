use native.Mathlib.Omega.{arith}
use Rattle.std.proofs.lemmas.Result.{err_from_is_err_and}
use Rattle.paper.specs.Pack.Fields.{definition_width}
use Rattle.paper.specs.Computed.ReadPack.{read_definition}
use Rattle.paper.specs.Tables.Layout.{definition_bytes, definition_size}
use Rattle.paper.proofs.Tables.Trip.{wide_definition}
use Rattle.pack_field.proofs.Fill.{none_yet, one_more, broken_off, all_read}
use Rattle.pack_body.proofs.read_definitions.Goals as goal

pub loop-i-init : goal.loop-i-init
loop-i-init c = none_yet definition_bytes definition_size wide_definition read_definition definition_width _ _ _ _ _ (omega arith) (omega arith)

pub returns-in_err-definition : goal.returns-in_err-definition
returns-in_err-definition c =
    let p = err_from_is_err_and c.from_residual.result c.from_residual.ensures.1 in
    rw (p.1, p.2) (
    broken_off definition_bytes definition_size wide_definition read_definition definition_width _ _ _ _ _ (omega arith) _ _ _
    c.loop-i.invariant c.loop-i-test.true _ _ c.in_err-definition.ensures
    )

pub loop-i-preserved : goal.loop-i-preserved
loop-i-preserved c =
    let d = c.in_ok-definition.ensures in
    one_more definition_bytes definition_size wide_definition read_definition definition_width _ _ _ _ _ (omega arith) _ _ _
    c.loop-i.invariant
    c.loop-i-test.true _ _ _ _ d.reads d.on (omega arith) (omega arith)
    c.put_definition.ensures

pub returns : goal.returns
returns c =
    all_read definition_bytes definition_size wide_definition read_definition definition_width _ _ _ _ _ (omega arith) _ _ _ c.loop-i.invariant c.loop-i-test.false
