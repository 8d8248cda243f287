-- `numbered::category_name` meets its contract: the part at the place that was located, which lies in the store. Assumes nothing.
use native.Mathlib.Omega.{arith}
use mathlib.Core.Path.{sym, ◌∙◌}
use Rattle.numbered.proofs.Numbers.{name_inside}
use Rattle.numbered.proofs.category_name.Goals as goal

pub overflow_add-result : goal.overflow_add-result
overflow_add-result c = let h = name_inside _ _ _ _ _ (sym c.in-Ok.is ∙ c.locate_name.ensures) in omega arith

pub slice_bounds-result-end : goal.slice_bounds-result-end
slice_bounds-result-end c = let h = name_inside _ _ _ _ _ (sym c.in-Ok.is ∙ c.locate_name.ensures) in omega arith
