-- `unk::fill_tables` meets its contract: zero tables hold no entries, and the tables at the end are the entries'. Assumes nothing.
use Rattle.unk.proofs.Fill.{zero_places, zero_members, holds_none, mark_most, marked, filled}
use Rattle.unk.proofs.fill_tables.Goals as goal

pub walk_lines-requires-clause-held : goal.walk_lines-requires-clause-held
walk_lines-requires-clause-held c = holds_none (c.requires.members_value) _

pub list_members-requires-clause-marked : goal.list_members-requires-clause-marked
list_members-requires-clause-marked c =
    let r = c.args.reading.now in
    marked _ _ (mark_most r.names.now r.categories.now r.counts.categories) (c.requires.text_len_bound.1) c.in_ok-counts.ensures.held

pub list_members-requires-clause-places_value : goal.list_members-requires-clause-places_value
list_members-requires-clause-places_value c = (zero_places (c.requires.members_value), zero_members (c.requires.members_value))

pub returns : goal.returns
returns c =
    let r = c.args.reading.now in
    filled _ _ (mark_most r.names.now r.categories.now r.counts.categories) (c.requires.text_len_bound.1) c.in_ok-counts.ensures _ _ (c.list_members.ensures)
