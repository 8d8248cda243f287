-- `put_parts::put_fields` meets its contract: head, names, definitions and ranges, one behind another. Assumes nothing.
use native.Mathlib.Omega.{arith}
use Rattle.put_parts.proofs.Handed.{asked, fields_put}
use Rattle.put_parts.proofs.put_fields.Goals as goal

pub put_names-named-requires : goal.put_names-named-requires
put_names-named-requires c =
    let a = asked _ _ c.requires.t in
    let l = a.long in
    let s = a.lengths_sum in
    record { n_in_bounds = omega arith; categories_in_bounds = omega arith; room = record { few = omega arith; room = omega arith } }

pub put_definitions-defined-requires : goal.put_definitions-defined-requires
put_definitions-defined-requires c =
    let a = asked _ _ c.requires.t in
    let l = a.long in
    let s = a.lengths_sum in
    record { n_in_bounds = omega arith; room = record { few = omega arith; room = omega arith } }

pub put_ranges-requires : goal.put_ranges-requires
put_ranges-requires c =
    let pre = c.requires in
    let a = asked _ _ pre.t in
    let l = a.long in
    let s = a.lengths_sum in
    let m = a.counts_sum in
    let room = pre.room in
    let p = c.put_head-head.ensures in
    let q = c.put_names-named.ensures in
    let d = c.put_definitions-defined.ensures in
    record { n_in_bounds = omega arith; ranges_in_bounds = omega arith; room = record { few = omega arith; room = omega arith } }

pub returns : goal.returns
returns c =
    fields_put _ _ c.requires.t
    c.put_head-head.ensures
    c.put_names-named.ensures
    c.put_definitions-defined.ensures
    c.put_ranges.ensures
