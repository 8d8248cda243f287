-- `terminal_unk::give` meets its contract: by the case of the outcome. Assumes nothing.
use Rattle.terminal_unk.proofs.Whole.{gives_counts, gives_refusal}
use Rattle.terminal_unk.proofs.give.Goals as goal

pub put_counts-requires : goal.put_counts-requires
put_counts-requires c = record { unk_counts_size_in_bounds = c.requires.unk_counts_size_in_bounds; countable = rw c.in-Ok.is at c.requires.exportable }

pub refuse-requires : goal.refuse-requires
refuse-requires c = rw c.in-Err.is at c.requires.exportable

pub returns-in-Ok : goal.returns-in-Ok
returns-in-Ok c = gives_counts _ _ _ _ c.in-Ok.is c.put_counts.ensures

pub returns-in-Err : goal.returns-in-Err
returns-in-Err c = gives_refusal _ _ _ _ _ c.in-Err.is c.refuse.ensures.left c.refuse.ensures.number
