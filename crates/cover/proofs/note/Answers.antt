use Rattle.cover.proofs.Notes.{noting_seen, noting_new, noting_done}
use Rattle.cover.proofs.note.Goals as goal
use Rattle.cover.proofs.note.Goals.{then-not-is_seen, else-not-is_seen}

pub loop-i-preserved : goal.loop-i-preserved
loop-i-preserved c =
    elim c.if-not-is_seen.branch [
      | then-not-is_seen w ↦ rw (w.seen-is, w.out-is, w.to-is)
          (noting_new _ _ _ _ _ _ _ _ _ _ _ _ c.loop-i.invariant c.loop-i-test.true c.get_u16-x.ensures _ _ _ c.is_seen.ensures
          w.if-not-is_seen.true w.place.ensures w.place-then-not-is_seen.ensures)
      | else-not-is_seen w ↦ rw (w.seen-is, w.out-is, w.to-is)
          (noting_seen _ _ _ _ _ _ _ _ _ _ _ _ c.loop-i.invariant c.loop-i-test.true c.get_u16-x.ensures _ c.is_seen.ensures
          w.if-not-is_seen.false)
    ]

pub returns : goal.returns
returns c = noting_done _ _ _ _ _ _ _ _ _ _ _ c.loop-i.invariant c.loop-i-test.false
