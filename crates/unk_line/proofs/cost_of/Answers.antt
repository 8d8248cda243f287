-- `unk_line::cost_of` meets its contract, case by case. Assumes nothing.
use Rattle.paper.specs.Numbers.Numeral.{wrap16}
use Rattle.unk_line.proofs.cost_of.Goals as goal

pub returns-in-Plus : goal.returns-in-Plus
unfolding wrap16
returns-in-Plus c = rw c.in-Plus.is

pub returns-in-Minus : goal.returns-in-Minus
unfolding wrap16
returns-in-Minus c = rw c.in-Minus.is
