use native.Mathlib.Omega.{arith}
use mathlib.Core.Path.{◌∙◌}
use Rattle.std.proofs.lemmas.Result.{err_from_is_err_and}
use Rattle.entry.proofs.Words.{enter_start, enter_none, enter_done, enter_room, enter_fits, enter_stops, enter_number, enter_on}
use Rattle.entry.proofs.enter_names.Goals as goal

pub loop-at-init : goal.loop-at-init
loop-at-init c = enter_start (c.requires)

pub shape_of-names-then-w : goal.shape_of-names-then-w
shape_of-names-then-w c = c.loop-at.invariant.store_kept

pub shape_of-slots-then-w : goal.shape_of-slots-then-w
shape_of-slots-then-w c = c.loop-at.invariant.slots_kept

pub shape_of-references-then-w : goal.shape_of-references-then-w
shape_of-references-then-w c = c.loop-at.invariant.refs_kept

pub returns-then-w : goal.returns-then-w
returns-then-w c = enter_none (c.loop-at.invariant) (c.next_word-w.result) (c.next_word-w.ensures) (omega arith)

pub category_id-requires : goal.category_id-requires
category_id-requires c = enter_room (c.loop-at.invariant) (c.next_word-w.result) (c.next_word-w.ensures) (omega arith)

pub shape_of-names-in_err-e : goal.shape_of-names-in_err-e
shape_of-names-in_err-e c = c.category_id.auto.names ∙ c.loop-at.invariant.store_kept

pub shape_of-slots-in_err-e : goal.shape_of-slots-in_err-e
shape_of-slots-in_err-e c = c.category_id.auto.slots ∙ c.loop-at.invariant.slots_kept

pub shape_of-references-in_err-e : goal.shape_of-references-in_err-e
shape_of-references-in_err-e c = c.loop-at.invariant.refs_kept

pub returns-in_err-e : goal.returns-in_err-e
returns-in_err-e c =
    let p = err_from_is_err_and c.from_residual.result c.from_residual.ensures.1 in
    rw (p.1, p.2)
    (enter_stops (c.loop-at.invariant) (c.next_word-w.result) (c.next_word-w.ensures) (omega arith) _ (c.category_id.new.names) (c.category_id.new.slots) (c.in_err-e.ensures))

pub overflow_mul-counts : goal.overflow_mul-counts
overflow_mul-counts c = let f = enter_fits (c.loop-at.invariant) (c.next_word-w.result) (c.next_word-w.ensures) (omega arith) in let r = c.loop-at.invariant.ready.room in omega arith

pub overflow_cast-e : goal.overflow_cast-e
overflow_cast-e c = let f = enter_number (c.loop-at.invariant) (c.next_word-w.result) (c.next_word-w.ensures) (omega arith) (c.in_ok-e.e) (c.category_id.new.names) (c.category_id.new.slots) (c.in_ok-e.ensures) in omega arith

pub overflow_add-counts : goal.overflow_add-counts
overflow_add-counts c = let f = enter_fits (c.loop-at.invariant) (c.next_word-w.result) (c.next_word-w.ensures) (omega arith) in let r = c.loop-at.invariant.ready.few in omega arith

pub loop-at-smaller : goal.loop-at-smaller
loop-at-smaller c = let g = c.next_word-w.ensures.from in let k = c.next_word-w.ensures.within (c.loop-at.invariant.upto) in omega arith

pub loop-at-preserved : goal.loop-at-preserved
loop-at-preserved c = enter_on (c.loop-at.invariant) (c.next_word-w.result) (c.next_word-w.ensures) (omega arith) (c.in_ok-e.e) (c.category_id.new.names) (c.category_id.new.slots) (c.in_ok-e.ensures) _ (c.put_u16.ensures) (c.category_id.auto.names) (c.category_id.auto.slots)

pub shape_of-names : goal.shape_of-names
shape_of-names c = c.loop-at.invariant.store_kept

pub shape_of-slots : goal.shape_of-slots
shape_of-slots c = c.loop-at.invariant.slots_kept

pub shape_of-references : goal.shape_of-references
shape_of-references c = c.loop-at.invariant.refs_kept

pub returns : goal.returns
returns c = enter_done (c.loop-at.invariant) c.loop-at-test.false
