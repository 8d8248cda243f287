use native.Mathlib.Omega.{arith}
use Rattle.unk.proofs.Walking.{walk_start, working, line_inside, stop_inside, walk_asked, walk_stops, walk_on, walk_ends}
use Rattle.unk_enter.proofs.Entered.{entries_long, offsets_long, details_long}
use Rattle.unk.proofs.walk_lines.Goals as goal

pub loop-at-init : goal.loop-at-init
loop-at-init c = walk_start _ _ _ (c.requires.text_len_bound.0) (c.requires.held)

pub line_stop-stop-requires : goal.line_stop-stop-requires
line_stop-stop-requires c = line_inside _ _ _ (c.loop-at-test.true) (c.find_byte-end.ensures)

pub enter_line-requires : goal.enter_line-requires
enter_line-requires c = record { inside = stop_inside (c.loop-at.invariant) (c.loop-at-test.true) (c.find_byte-end.result) (c.find_byte-end.ensures) (c.line_stop-stop.result) (c.line_stop-stop.ensures); asked = walk_asked (c.loop-at.invariant) (c.loop-at-test.true) (c.find_byte-end.result) (c.find_byte-end.ensures) (c.line_stop-stop.result) (c.line_stop-stop.ensures) _ (c.requires.text_len_bound.1); working = working (c.loop-at.invariant) }

pub shape_of-entries-in-Err : goal.shape_of-entries-in-Err
shape_of-entries-in-Err c = let a = entries_long (c.loop-at.invariant.held) in let b = entries_long (c.requires.held) in omega arith

pub shape_of-offsets-in-Err : goal.shape_of-offsets-in-Err
shape_of-offsets-in-Err c = let a = offsets_long (c.loop-at.invariant.held) in let b = offsets_long (c.requires.held) in omega arith

pub shape_of-details-in-Err : goal.shape_of-details-in-Err
shape_of-details-in-Err c = let a = details_long (c.loop-at.invariant.held) in let b = details_long (c.requires.held) in omega arith

pub returns-in-Err : goal.returns-in-Err
returns-in-Err c = walk_stops (c.loop-at.invariant) (c.loop-at-test.true) (c.find_byte-end.result) (c.find_byte-end.ensures) (c.line_stop-stop.result) (c.line_stop-stop.ensures) (c.in-Err.number) (rw (c.in-Err.is) at (c.enter_line.ensures))

pub overflow_add-at : goal.overflow_add-at
overflow_add-at c = let i = (line_inside c.args.text.now (c.loop-at.at) (c.find_byte-end.result) (c.loop-at-test.true) (c.find_byte-end.ensures)).within in let s = c.loop-at.invariant.small in omega arith

pub loop-at-preserved : goal.loop-at-preserved
loop-at-preserved c = walk_on (c.loop-at.invariant) (c.loop-at-test.true) (c.find_byte-end.result) (c.find_byte-end.ensures) (c.line_stop-stop.result) (c.line_stop-stop.ensures) _ (c.in-Ok.more) (rw (c.in-Ok.is) at (c.enter_line.ensures))

pub shape_of-entries : goal.shape_of-entries
shape_of-entries c = let a = entries_long (c.loop-at.invariant.held) in let b = entries_long (c.requires.held) in omega arith

pub shape_of-offsets : goal.shape_of-offsets
shape_of-offsets c = let a = offsets_long (c.loop-at.invariant.held) in let b = offsets_long (c.requires.held) in omega arith

pub shape_of-details : goal.shape_of-details
shape_of-details c = let a = details_long (c.loop-at.invariant.held) in let b = details_long (c.requires.held) in omega arith

pub returns : goal.returns
returns c = walk_ends (c.loop-at.invariant) (c.loop-at-test.false)
