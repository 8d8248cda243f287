-- `pack_names::take_name` meets its contract. Assumes nothing.
use native.Mathlib.Omega.{arith}
use Rattle.std.proofs.lemmas.Result.{err_from_is_err_and}
use Rattle.paper.specs.Computed.ReadPack.{name_rule}
use Rattle.pack_field.proofs.Steps.{bytes_cut}
use Rattle.pack_names.proofs.Names.{names_long, categories_long}
use Rattle.pack_names.proofs.Naming.{now_naming, name_broken, name_in}
use Rattle.pack_names.proofs.take_name.Goals as goal

pub returns-in_err-next : goal.returns-in_err-next
returns-in_err-next c =
    let a = c.args in
    let p = err_from_is_err_and c.from_residual.result c.from_residual.ensures.1 in
    rw (p.1, p.2) (λ ns z. bytes_cut a.pack.now a.from.at a.len (omega arith) (omega arith) (name_rule ns) c.in_err-next.ensures.is)

pub place_name-requires : goal.place_name-requires
place_name-requires c =
    let z = c.requires.naming.held in
    let l = names_long z.holds in
    let m = categories_long z.holds in
    let n = z.marks_long in
    let k = c.bytes.auto in
    record { name_slot_size_in_bounds = (omega arith, omega arith); len_in_bounds = (omega arith, omega arith) }

pub name_kept-requires : goal.name_kept-requires
name_kept-requires c =
    let q = c.requires in
    now_naming _ _ _ q.len_bound q.i_lt_max_categories.1.0 _ _ _ _ _ q.i_lt_max_categories.0 q.i_lt_max_categories.1.1
    c.in_ok-next.ensures c.place_name.ensures.0 c.place_name.ensures.1 q.naming

pub returns-then-not-name_kept : goal.returns-then-not-name_kept
returns-then-not-name_kept c =
    let q = c.requires in
    λ ns z. name_broken _ _ _ q.len_bound q.i_lt_max_categories.1.0 _ _ _ _ _ q.i_lt_max_categories.0 q.i_lt_max_categories.1.1
    c.in_ok-next.ensures c.place_name.ensures.0 c.place_name.ensures.1 _ c.name_kept.ensures ns z c.if-not-name_kept.true

pub returns : goal.returns
returns c =
    let q = c.requires in
    λ ns z. name_in _ _ _ q.len_bound q.i_lt_max_categories.1.0 _ _ _ _ _ q.i_lt_max_categories.0 q.i_lt_max_categories.1.1
    c.in_ok-next.ensures c.place_name.ensures.0 c.place_name.ensures.1 _ c.name_kept.ensures ns z c.if-not-name_kept.false
