-- `put_field::put_bytes` meets its contract: before each turn the bytes so far are put. Assumes nothing.
use Prim.Native.Nat.{◌*◌}
use mathlib.Core.List.{map}
use lib.ListN.{take}
use Rattle.paper.specs.Pack.Fields.{byte_width, field}
use Rattle.put_field.specs.Writer.{Puts}
use Rattle.put_field.proofs.put_bytes.Given as goal

abbrev pub invariant-loop-b : goal.invariant-loop-b
invariant-loop-b l = Puts l.initial.out l.initial.w (map (field byte_width) (take l.b-index l.b-items)) (byte_width * l.b-index) l.out l.w
