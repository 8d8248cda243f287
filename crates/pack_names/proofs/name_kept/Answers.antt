-- `pack_names::name_kept` meets its contract. Assumes nothing.
use native.Mathlib.Omega.{arith}
use Prim.Native.Nat.{◌+◌, ◌-◌}
use mathlib.Core.Path.{◌≡◌}
use Rattle.pack_names.proofs.Names.{names_long, categories_long, marks_are, ill, new_or_not}
use Rattle.pack_names.proofs.name_kept.Goals as goal

pub slice_bounds-is_formed-end : goal.slice_bounds-is_formed-end
slice_bounds-is_formed-end c =
    let h = c.requires.held.holds in
    let l = names_long h in
    omega (arith, h.short)

pub is_new-requires : goal.is_new-requires
is_new-requires c =
    let z = c.requires.held in
    let l = categories_long z.holds in
    let f = z.holds.few in
    let m = z.marks_long in
    record { i_in_bounds = (omega arith, omega arith); marked = marks_are z }

pub returns-then-is_formed : goal.returns-then-is_formed
returns-then-is_formed c =
    let a = c.args in
    let k : a.start + a.len - a.start ≡ a.len = omega arith in
    λ ns name z size. new_or_not ns name (record { names = a.names.now; categories = a.categories.now; marks = a.marks.now }) a.i a.start a.len z
    size _ k _ c.is_formed.ensures c.if-is_formed.true _ c.is_new.ensures

pub returns-else-is_formed : goal.returns-else-is_formed
returns-else-is_formed c =
    let a = c.args in
    let k : a.start + a.len - a.start ≡ a.len = omega arith in
    λ ns name z size. ill ns name (record { names = a.names.now; categories = a.categories.now; marks = a.marks.now }) a.i a.start a.len z
    size _ k _ c.is_formed.ensures c.if-is_formed.false
