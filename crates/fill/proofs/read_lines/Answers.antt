-- `fill::read_lines` meets its contract: tables of the sizes are zero before the walk, and again where it stops. Assumes nothing.
use native.Mathlib.Omega.{arith}
use mathlib.Core.Path.{sym, ◌∙◌}
use Rattle.room.proofs.Sizes.{cleared_sized, zeroed_into}
use Rattle.fill.proofs.read_lines.Goals as goal

pub fill_tables-read-requires-clause-references_value : goal.fill_tables-read-requires-clause-references_value
fill_tables-read-requires-clause-references_value c = c.zero_all.ensures ∙ cleared_sized _ (c.requires.sized)

pub returns-then-is_err : goal.returns-then-is_err
returns-then-is_err c =
    let s = c.requires.sized in
    let a = c.zero_all.auto in
    let b = c.fill_tables-read.auto in
    zeroed_into _ _ c.fill_tables-read.result (sym c.is_err.ensures.value ∙ c.if-is_err.true) c.fill_tables-read.ensures
    (c.zero_all-then-is_err.ensures
    ∙ cleared_sized _ (record { names = omega arith; categories = omega arith; definitions = omega arith; ranges = omega arith; references = omega arith }))
