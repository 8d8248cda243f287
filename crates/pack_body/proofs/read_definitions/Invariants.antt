-- `pack_body::read_definitions` meets its contract. Assumes nothing.
use Rattle.paper.specs.Pack.Fields.{definition_width}
use Rattle.paper.specs.Computed.ReadPack.{read_definition}
use Rattle.paper.specs.Tables.Layout.{definition_bytes, definition_size}
use Rattle.pack_field.proofs.Fill.{Going}
use Rattle.pack_body.proofs.read_definitions.Given as goal

abbrev pub invariant-loop-i : goal.invariant-loop-i
invariant-loop-i l =
    Going definition_bytes definition_size read_definition definition_width l.initial.cursor.at l.n 0 l.pack l.initial.definitions l.cursor.at l.definitions l.i
