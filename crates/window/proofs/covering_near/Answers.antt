-- `window::covering_near` meets its contract: in the window the near slots name what all slots name.
-- Assumes nothing.
use Rattle.window.proofs.Gathering.{held_few, held_row}
use Rattle.window.proofs.covering_near.Goals as goal

pub covering-requires : goal.covering-requires
covering-requires c = (held_few _ _ _ _ c.requires.in_window _ c.in-Some.is c.requires.count_le_max_ranges.0, c.requires.count_le_max_ranges.1)

pub returns-in-Some : goal.returns-in-Some
returns-in-Some c = held_row _ _ _ _ c.requires.in_window _ c.in-Some.is _ _ _ _ _ _ _ _ _ c.covering.ensures
