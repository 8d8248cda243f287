-- `put_field::put_bytes` meets its contract: each turn puts one byte more. Assumes nothing.
use native.Mathlib.Omega.{arith}
use Rattle.paper.specs.Pack.Fields.{byte_width}
use Rattle.put_field.proofs.Writing.{puts_both, puts_are}
use Rattle.put_field.proofs.Bytes.{byte_more}
use Rattle.put_field.proofs.put_bytes.Goals as goal

pub loop-b-preserved : goal.loop-b-preserved
loop-b-preserved c =
    puts_are (puts_both c.loop-b.invariant c.put-w.ensures)
    (byte_more byte_width _ _ _ _ (omega arith) c.loop-b-test.true c.from.ensures)
    (omega arith)
