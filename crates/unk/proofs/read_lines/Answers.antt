-- `unk::read_lines` meets its contract: tables of the sizes are zero before the walk, and again where it stops. Assumes nothing.
use mathlib.Core.Path.{sym, ◌∙◌}
use Rattle.unk.proofs.Room.{cleared_sized}
use Rattle.unk.proofs.Fill.{refused_into}
use Rattle.unk.proofs.read_lines.Goals as goal

pub fill_tables-read-requires-clause-members_value : goal.fill_tables-read-requires-clause-members_value
fill_tables-read-requires-clause-members_value c = c.zero_all.ensures ∙ cleared_sized _ (c.requires.sized)

pub returns-then-is_err : goal.returns-then-is_err
returns-then-is_err c =
    let s = c.requires.sized in
    let a = c.zero_all.auto in
    let b = c.fill_tables-read.auto in
    refused_into _ _ _ _ c.fill_tables-read.result (sym c.is_err.ensures.value ∙ c.if-is_err.true) c.fill_tables-read.ensures (
    c.zero_all-then-is_err.ensures ∙ cleared_sized _ (record {
      entries = b.entries ∙ a.entries ∙ s.entries;
      offsets = b.offsets ∙ a.offsets ∙ s.offsets;
      details = b.details ∙ a.details ∙ s.details;
      places = b.places ∙ a.places ∙ s.places;
      members = b.members ∙ a.members ∙ s.members;
    }))
