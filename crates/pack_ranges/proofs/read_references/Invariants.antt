-- `pack_ranges::read_references` meets its contract. Assumes nothing.
use Prim.Native.Nat.{◌*◌}
use lib.Dec.{ltb}
use Rattle.paper.specs.Numbers.Bytes.{le}
use Rattle.paper.specs.Pack.Fields.{number_width}
use Rattle.paper.specs.Computed.ReadPack.{number}
use Rattle.paper.specs.Tables.Layout.{reference_size}
use Rattle.pack_field.proofs.Fill.{Going}
use Rattle.pack_ranges.proofs.read_references.Given as goal

abbrev pub invariant-loop-i : goal.invariant-loop-i
invariant-loop-i l =
    Going (le reference_size) reference_size (number number_width (λ c. ltb c l.known)) number_width l.fn.from.at l.n (reference_size * l.used) l.pack l.initial.references l.at.at l.references l.i
