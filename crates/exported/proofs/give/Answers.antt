-- `exported::give` meets its contract: by the case of the outcome. Assumes nothing.
use Rattle.exported.proofs.Given.{gives_counts, gives_refusal}
use Rattle.exported.proofs.give.Goals as goal

pub put_counts-requires : goal.put_counts-requires
put_counts-requires c = record { counts_size_in_bounds = c.requires.counts_size_in_bounds; sixteen = rw (c.in-Ok.is) at (c.requires.exportable) }

pub refuse-requires : goal.refuse-requires
refuse-requires c = rw (c.in-Err.is) at (c.requires.exportable)

pub returns-in-Ok : goal.returns-in-Ok
returns-in-Ok c = gives_counts _ _ _ _ (c.in-Ok.is) (c.put_counts.ensures)

pub returns-in-Err : goal.returns-in-Err
returns-in-Err c = gives_refusal _ _ _ _ _ (c.in-Err.is) (c.refuse.ensures.left) (c.refuse.ensures.number)
