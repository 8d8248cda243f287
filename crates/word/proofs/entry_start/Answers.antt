-- `word::entry_start` meets its contract: 15, then 26, then where the entry begins. Assumes nothing.
use native.Mathlib.Omega.{arith}
use mathlib.Core.Path.{sym, ap}
use Rattle.word.specs.Words.{found}
use Rattle.word.proofs.Words.{number_unknown_lem, entry_past, entry_there, no_more, one_more}
use Rattle.word.proofs.entry_start.Goals as goal

pub returns-then-count-id : goal.returns-then-count-id
returns-then-count-id c = sym (ap found (number_unknown_lem _ _ _ _ _ (omega arith)))

pub returns-then-table-bytes : goal.returns-then-table-bytes
returns-then-table-bytes c = sym (ap found (entry_past _ _ _ _ _ (omega arith) (no_more _ _ c.args.table.now c.requires (omega arith))))

pub returns : goal.returns
returns c = sym (ap found (entry_there _ _ _ _ _ (omega arith) (one_more _ _ c.args.table.now c.requires (omega arith))))
