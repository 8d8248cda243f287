-- `lookup::in_rows` meets its contract: 26 where the boundaries do not begin at 0, then the row that the search found. Assumes nothing.
use borrow.Author.Rules.{rules}
use Rattle.lookup.proofs.Categories.{rows_none, rows_some}
use Rattle.lookup.proofs.in_rows.Goals as goal

pub returns-then-not-begins_at_zero : goal.returns-then-not-begins_at_zero
returns-then-not-begins_at_zero c = rows_none _ _ _ _ _ _ c.begins_at_zero.ensures (search rules)

pub returns : goal.returns
returns c = rows_some _ _ _ _ _ _ c.begins_at_zero.ensures (search rules) _ c.eval.ensures _ c.of_row.ensures
