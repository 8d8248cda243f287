-- `fallback::fallback_of` meets its contract: a number that is found is below the limit, so it has 16 bits.
-- Assumes nothing.
use native.Mathlib.Omega.{arith}
use mathlib.Core.Path.{ap, ◌∙◌}
use Rattle.std.specs.Prelude.{Ok}
use Rattle.fallback.proofs.Default.{found_below}
use Rattle.fallback.proofs.fallback_of.Goals as goal

pub overflow_cast-result : goal.overflow_cast-result
overflow_cast-result c =
    let h = found_below _ _ _ _ _ c.find_category.ensures c.in-Ok-Some.number (c.in-Ok-Some.is ∙ ap Ok c.in-Ok-Some.field-0-is) in
    omega arith
