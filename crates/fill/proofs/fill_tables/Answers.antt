-- `fill::fill_tables` meets its contract: zero tables hold nothing, and the tables at the end are the reading's. Assumes nothing.
use mathlib.Core.Path.{refl}
use Rattle.fill.proofs.Filled.{fill_start, categories_long, filled}
use Rattle.fill.proofs.fill_tables.Goals as goal

pub walk_lines-requires-clause-held : goal.walk_lines-requires-clause-held
walk_lines-requires-clause-held c = fill_start (c.requires.references_value) _ refl

pub returns : goal.returns
returns c = filled c.in_ok-counts.ensures _ _ (categories_long (c.requires.references_value)) (c.write_slots.ensures)
