-- `lookup::locate_categories` meets its contract: by the ways of a lookup. Assumes nothing.
use native.Mathlib.Omega.{arith}
use mathlib.Core.Path.{sym}
use borrow.Author.Rules.{rules}
use Rattle.lookup.proofs.Categories.{way_none, way_odd, way_empty, way_beyond, way_flat}
use Rattle.lookup.proofs.locate_categories.Goals as goal

pub returns-then-not-is_scalar : goal.returns-then-not-is_scalar
returns-then-not-is_scalar c = way_none _ _ (sym c.if-not-is_scalar.ensures)

pub returns-then-is_empty : goal.returns-then-is_empty
returns-then-is_empty c = way_empty _ _ (sym c.if-not-is_scalar.ensures) (search rules) _ c.in_rows.ensures

pub returns-then-flat_index-ne-BMP_SIZE : goal.returns-then-flat_index-ne-BMP_SIZE
returns-then-flat_index-ne-BMP_SIZE c = way_odd _ _ (sym c.if-not-is_scalar.ensures) (search rules) (search rules)

pub returns-then-at-lt-BMP_SIZE : goal.returns-then-at-lt-BMP_SIZE
returns-then-at-lt-BMP_SIZE c = way_flat _ _ (sym c.if-not-is_scalar.ensures) (omega arith) (omega arith) _ c.in_flat.ensures

pub returns : goal.returns
returns c = way_beyond _ _ (sym c.if-not-is_scalar.ensures) (omega arith) (omega arith) _ c.in_rows-2.ensures
