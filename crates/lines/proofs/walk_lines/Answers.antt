use mathlib.Core.Path.{sym, ap, ◌∙◌}
use Rattle.std.proofs.Common.{arith, rules}
use Rattle.std.proofs.lemmas.Result.{err_from_is_err_and}
use Rattle.paper.specs.declared.Refusal.{Refusal}
use Rattle.paper.specs.CharDef.Reading.{refused}
use Rattle.lines.proofs.Walking.{walk_start, walk_inside, walk_stops, walk_on, walk_ends, working, went_on, went_wrong, store_long, slots_long, definitions_long, ranges_long, references_long}
use Rattle.lines.proofs.Scan.{end_inside, line_ends}
use Rattle.lines.proofs.walk_lines.Goals as goal

pub loop-at-init : goal.loop-at-init
loop-at-init c = walk_start _ _ (c.requires.text_len_bound) (c.requires.held)

pub enter_line-requires : goal.enter_line-requires
enter_line-requires c = record { working = working (c.loop-at.invariant.held); inside = walk_inside (c.loop-at.invariant) _ (line_ends _ _ c.line_len.ensures) (omega arith) }

pub shape_of-names-in_err-counts : goal.shape_of-names-in_err-counts
shape_of-names-in_err-counts c = let a = store_long (c.loop-at.invariant.held) in let b = store_long (c.requires.held) in omega arith

pub shape_of-slots-in_err-counts : goal.shape_of-slots-in_err-counts
shape_of-slots-in_err-counts c = let a = slots_long (c.loop-at.invariant.held) in let b = slots_long (c.requires.held) in omega arith

pub shape_of-definitions-in_err-counts : goal.shape_of-definitions-in_err-counts
shape_of-definitions-in_err-counts c = let a = definitions_long (c.loop-at.invariant.held) in let b = definitions_long (c.requires.held) in omega arith

pub shape_of-ranges-in_err-counts : goal.shape_of-ranges-in_err-counts
shape_of-ranges-in_err-counts c = let a = ranges_long (c.loop-at.invariant.held) in let b = ranges_long (c.requires.held) in omega arith

pub shape_of-references-in_err-counts : goal.shape_of-references-in_err-counts
shape_of-references-in_err-counts c = let a = references_long (c.loop-at.invariant.held) in let b = references_long (c.requires.held) in omega arith

pub returns-in_err-counts : goal.returns-in_err-counts
returns-in_err-counts c =
    let p = err_from_is_err_and c.from_residual.result c.from_residual.ensures.1 in
    let n = went_wrong _ c.enter_line.result c.loop-at.line c.map_err.ensures.cases c.in_err-counts.was (λ k y q. search rules) in
    rw (p.1, p.2)
    (walk_stops (c.loop-at.invariant) _ (line_ends _ _ c.line_len.ensures) (omega arith) n.0 (rw n.1 at c.enter_line.ensures)
    ∙ ap (λ (x : Refusal). refused x.number x.place) (sym n.2))

pub overflow_add-end : goal.overflow_add-end
overflow_add-end c = let a = c.loop-at.invariant.small in let b = end_inside _ _ _ (c.loop-at-test.true) (line_ends _ _ c.line_len.ensures) in omega arith

pub overflow_add-line : goal.overflow_add-line
overflow_add-line c = let a = c.loop-at.invariant.small in let b = c.loop-at.invariant.counted in let d = c.loop-at.invariant.upto in omega arith

pub overflow_add-at : goal.overflow_add-at
overflow_add-at c = let a = c.loop-at.invariant.small in let b = end_inside _ _ _ (c.loop-at-test.true) (line_ends _ _ c.line_len.ensures) in omega arith

pub loop-at-smaller : goal.loop-at-smaller
loop-at-smaller c = let e = line_ends c.args.text.now c.loop-at.at c.line_len.ensures in let h = c.loop-at-test.true in omega arith

pub loop-at-preserved : goal.loop-at-preserved
loop-at-preserved c =
    walk_on (c.loop-at.invariant) _ (line_ends _ _ c.line_len.ensures) (omega arith) _ (_) (rw (went_on _ c.enter_line.result c.map_err.ensures.cases c.in_ok-counts.was) at c.enter_line.ensures)

pub shape_of-names : goal.shape_of-names
shape_of-names c = let a = store_long (c.loop-at.invariant.held) in let b = store_long (c.requires.held) in omega arith

pub shape_of-slots : goal.shape_of-slots
shape_of-slots c = let a = slots_long (c.loop-at.invariant.held) in let b = slots_long (c.requires.held) in omega arith

pub shape_of-definitions : goal.shape_of-definitions
shape_of-definitions c = let a = definitions_long (c.loop-at.invariant.held) in let b = definitions_long (c.requires.held) in omega arith

pub shape_of-ranges : goal.shape_of-ranges
shape_of-ranges c = let a = ranges_long (c.loop-at.invariant.held) in let b = ranges_long (c.requires.held) in omega arith

pub shape_of-references : goal.shape_of-references
shape_of-references c = let a = references_long (c.loop-at.invariant.held) in let b = references_long (c.requires.held) in omega arith

pub returns : goal.returns
returns c = walk_ends (c.loop-at.invariant) (omega arith)
