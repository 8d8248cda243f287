-- `pack::read_into` meets its contract. Assumes nothing.
use mathlib.Core.Path.{sym, ◌∙◌}
use Rattle.room.proofs.Sizes.{cleared_sized, zeroed_into}
use Rattle.pack.proofs.read_into.Goals as goal

pub fill_tables-read-requires : goal.fill_tables-read-requires
fill_tables-read-requires c = c.zero_all.ensures ∙ cleared_sized _ c.requires

pub returns-then-is_err : goal.returns-then-is_err
returns-then-is_err c =
    let s = c.requires in
    let a = c.zero_all.auto in
    let b = c.fill_tables-read.auto in
    zeroed_into _ _ c.fill_tables-read.result (sym c.is_err.ensures.value ∙ c.if-is_err.true) c.fill_tables-read.ensures (
    c.zero_all-then-is_err.ensures ∙ cleared_sized _ (record {
      names = b.names ∙ a.names ∙ s.names;
      categories = b.categories ∙ a.categories ∙ s.categories;
      definitions = b.definitions ∙ a.definitions ∙ s.definitions;
      ranges = b.ranges ∙ a.ranges ∙ s.ranges;
      references = b.references ∙ a.references ∙ s.references;
    }))
