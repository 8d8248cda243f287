-- `unk_enter::enter_line` meets its contract: the line's answer is the paper's, and its entry stands behind the others. Assumes nothing.
use native.Mathlib.Omega.{arith}
use Prim.Native.Nat.{suc}
use lib.ListN.{length}
use Rattle.unk_enter.proofs.Entered.{room_left, line_enters, stops_full}
use Rattle.unk_enter.proofs.enter_line.Goals as goal

pub append_entry-requires-clause-room_left : goal.append_entry-requires-clause-room_left
append_entry-requires-clause-room_left c =
    room_left (c.requires.inside) c.in_ok-e.ensures (c.requires.working.held) (c.requires.asked) (omega (arith, c.if-counts-ge-MAX_UNK_ENTRIES.false))

pub returns-then-counts-ge-MAX_UNK_ENTRIES : goal.returns-then-counts-ge-MAX_UNK_ENTRIES
returns-then-counts-ge-MAX_UNK_ENTRIES c = λ es z go. stops_full _ _ (suc (length es)) c.in_ok-e.ensures.is (let h = z.entries_are in let g = c.if-counts-ge-MAX_UNK_ENTRIES.true in omega arith) go

pub returns : goal.returns
returns c =
    let g = c.if-counts-ge-MAX_UNK_ENTRIES.false in
    λ es z. line_enters (c.requires.inside) c.in_ok-e.ensures z (c.requires.asked) (omega arith) _ _ (c.append_entry.ensures)
