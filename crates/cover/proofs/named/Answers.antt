use Rattle.cover.proofs.Notes.{naming_in, naming_out, naming_done}
use Rattle.cover.proofs.named.Goals as goal
use Rattle.cover.proofs.named.Goals.{then-holds, else-holds}

pub loop-i-preserved : goal.loop-i-preserved
loop-i-preserved c =
    elim c.if-holds.branch [
      | then-holds w ↦ rw (w.seen-is, w.out-is, w.to-is)
          (naming_in _ _ _ _ _ _ _ _ _ _ _ _ _ c.loop-i.invariant c.loop-i-test.true _ c.holds.ensures _ _ _ _ _ w.if-holds.true
          w.get_u16-first.ensures w.get_u16-n.ensures w.note-to.ensures)
      | else-holds w ↦ rw (w.seen-is, w.out-is, w.to-is)
          (naming_out _ _ _ _ _ _ _ _ _ _ _ _ _ c.loop-i.invariant c.loop-i-test.true _ c.holds.ensures w.if-holds.false)
    ]

pub returns : goal.returns
returns c = naming_done _ _ _ _ _ _ _ _ _ _ _ _ _ c.loop-i.invariant c.loop-i-test.false
