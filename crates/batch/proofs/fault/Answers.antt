-- `batch::fault`: `position` stops at the first room whose `is_kept` is false, so every room before it is kept. Assumes nothing.
use Rattle.std.proofs.Common.{rules, tests}
use Rattle.std.proofs.lemmas.Iterator.{IsFirst-from_position, YieldsList-from_slice}
use Rattle.batch.specs.Kept.{IsKept}
use Rattle.batch.specs.declared.Used.{Used}
use Rattle.batch.proofs.fault.Goals as goal

pub returns : goal.returns
returns c =
    let Kept = IsKept c.args.rest in
    let Fault = λ (u : Used). Kept u → ⊥ in
    let first = IsFirst-from_position _ _ _ Fault Kept c.position.ensures.ran (YieldsList-from_slice c.args.rooms.now cc)
    (λ x q k. search (rules, tests)) (λ x q k. search (rules, tests)) in
    search rules
