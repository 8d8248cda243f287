-- `pack_names::read_names` meets its contract. Assumes nothing.
use Rattle.std.proofs.lemmas.Result.{err_from_is_err_and}
use Rattle.pack_names.proofs.Naming.{name_off, name_more, all_names_lem}
use Rattle.pack_names.proofs.read_names.Goals as goal

pub returns-in_err-len : goal.returns-in_err-len
returns-in_err-len c =
    let p = err_from_is_err_and c.from_residual.result c.from_residual.ensures.1 in
    let z = c.loop-i.invariant in
    rw (p.1, p.2) (name_off _ _ _ _ _ _ _ z c.loop-i-test.true (c.in_err-len.ensures z.all z.held))

pub loop-i-preserved : goal.loop-i-preserved
loop-i-preserved c =
    let z = c.loop-i.invariant in
    name_more _ _ _ _ _ _ _ z c.loop-i-test.true _ _ _ (c.in_ok-len.ensures z.all z.held)

pub returns : goal.returns
returns c = all_names_lem _ _ _ _ _ _ _ c.loop-i.invariant c.loop-i-test.false
