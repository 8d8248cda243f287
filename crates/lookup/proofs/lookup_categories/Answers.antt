-- `lookup::lookup_categories` meets its contract: the part at the place that was located, which lies in its pool. Assumes nothing.
use native.Mathlib.Omega.{arith}
use mathlib.Core.Path.{ap, ◌∙◌}
use Rattle.std.specs.Prelude.{Ok}
use Rattle.lookup.proofs.Categories.{flat_inside, flat_part_lem, rows_inside, rows_part}
use Rattle.lookup.proofs.lookup_categories.Goals as goal

pub overflow_add-result : goal.overflow_add-result
overflow_add-result c = omega (arith, flat_inside _ _ _ c.locate_categories.ensures _ (c.in-Ok-InFlat.is ∙ ap Ok c.in-Ok-InFlat.field-0-is))

pub offset_bounds-flat_pool-start : goal.offset_bounds-flat_pool-start
offset_bounds-flat_pool-start c = omega (arith, flat_inside _ _ _ c.locate_categories.ensures _ (c.in-Ok-InFlat.is ∙ ap Ok c.in-Ok-InFlat.field-0-is))

pub slice_bounds-result-end : goal.slice_bounds-result-end
slice_bounds-result-end c = omega (arith, flat_inside _ _ _ c.locate_categories.ensures _ (c.in-Ok-InFlat.is ∙ ap Ok c.in-Ok-InFlat.field-0-is))

pub overflow_add-result-in-Ok-InRows : goal.overflow_add-result-in-Ok-InRows
overflow_add-result-in-Ok-InRows c = omega (arith, rows_inside _ _ _ c.locate_categories.ensures _ (c.in-Ok-InRows.is ∙ ap Ok c.in-Ok-InRows.field-0-is))

pub offset_bounds-row_pool-start : goal.offset_bounds-row_pool-start
offset_bounds-row_pool-start c = omega (arith, rows_inside _ _ _ c.locate_categories.ensures _ (c.in-Ok-InRows.is ∙ ap Ok c.in-Ok-InRows.field-0-is))

pub slice_bounds-result-end-in-Ok-InRows : goal.slice_bounds-result-end-in-Ok-InRows
slice_bounds-result-end-in-Ok-InRows c = omega (arith, rows_inside _ _ _ c.locate_categories.ensures _ (c.in-Ok-InRows.is ∙ ap Ok c.in-Ok-InRows.field-0-is))

pub returns-in-Ok-InFlat : goal.returns-in-Ok-InFlat
returns-in-Ok-InFlat c = flat_part_lem _ _ _ c.locate_categories.ensures _ (c.in-Ok-InFlat.is ∙ ap Ok c.in-Ok-InFlat.field-0-is)

pub returns-in-Ok-InRows : goal.returns-in-Ok-InRows
returns-in-Ok-InRows c = rows_part _ _ _ c.locate_categories.ensures _ (c.in-Ok-InRows.is ∙ ap Ok c.in-Ok-InRows.field-0-is)
