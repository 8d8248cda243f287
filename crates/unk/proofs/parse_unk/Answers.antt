-- `unk::parse_unk` meets its contract: each way through is an answer of `Whole`; the parts that are lent have the sizes. Assumes nothing.
use mathlib.Core.Path.{sym, ◌∙◌}
use Rattle.paper.specs.Sizes.{max_detail_bytes}
use Rattle.hold.specs.HandedIn.{tables}
use Rattle.unk.specs.Layout.{UnkTables}
use Rattle.unk.specs.Parse.{entries_size, offsets_size, places_size, members_size}
use Rattle.room.proofs.Five.{part_long}
use Rattle.unk.proofs.Room.{roomy, parts_sized}
use Rattle.unk.proofs.Whole.{few_categories, judged_as, short_room, unsound, lines_parsed}
use Rattle.unk.proofs.parse_unk.Goals as goal
use Rattle.std.specs.Prelude.{Ok}
use Rattle.std.proofs.lemmas.Result.{err_from_is_err_and}

pub returns-then-not-has_room : goal.returns-then-not-has_room
returns-then-not-has_room c = let a = c.args in
    let t = tables a.reading.now in
    let l : UnkTables = record { entries = a.entries.now; offsets = a.offsets.now; details = a.details.now; places = a.places.now; members = a.members.now } in
    short_room t a.reading.now.counts a.text.now l (sym c.if-not-has_room.true ∙ c.has_room.ensures)

pub slice_bounds-read_lines-end : goal.slice_bounds-read_lines-end
slice_bounds-read_lines-end c = let a = c.args in (roomy a.entries.now a.offsets.now a.details.now a.places.now a.members.now c.has_room.ensures c.if-not-has_room.false).first

pub slice_bounds-read_lines-end-2 : goal.slice_bounds-read_lines-end-2
slice_bounds-read_lines-end-2 c = let a = c.args in part_long entries_size a.entries.now (roomy a.entries.now a.offsets.now a.details.now a.places.now a.members.now c.has_room.ensures c.if-not-has_room.false).first

pub slice_bounds-read_lines-end-3 : goal.slice_bounds-read_lines-end-3
slice_bounds-read_lines-end-3 c = let a = c.args in (roomy a.entries.now a.offsets.now a.details.now a.places.now a.members.now c.has_room.ensures c.if-not-has_room.false).second

pub slice_bounds-read_lines-end-4 : goal.slice_bounds-read_lines-end-4
slice_bounds-read_lines-end-4 c = let a = c.args in part_long offsets_size a.offsets.now (roomy a.entries.now a.offsets.now a.details.now a.places.now a.members.now c.has_room.ensures c.if-not-has_room.false).second

pub slice_bounds-read_lines-end-5 : goal.slice_bounds-read_lines-end-5
slice_bounds-read_lines-end-5 c = let a = c.args in (roomy a.entries.now a.offsets.now a.details.now a.places.now a.members.now c.has_room.ensures c.if-not-has_room.false).third

pub slice_bounds-read_lines-end-6 : goal.slice_bounds-read_lines-end-6
slice_bounds-read_lines-end-6 c = let a = c.args in part_long max_detail_bytes a.details.now (roomy a.entries.now a.offsets.now a.details.now a.places.now a.members.now c.has_room.ensures c.if-not-has_room.false).third

pub slice_bounds-read_lines-end-7 : goal.slice_bounds-read_lines-end-7
slice_bounds-read_lines-end-7 c = let a = c.args in (roomy a.entries.now a.offsets.now a.details.now a.places.now a.members.now c.has_room.ensures c.if-not-has_room.false).fourth

pub slice_bounds-read_lines-end-8 : goal.slice_bounds-read_lines-end-8
slice_bounds-read_lines-end-8 c = let a = c.args in part_long places_size a.places.now (roomy a.entries.now a.offsets.now a.details.now a.places.now a.members.now c.has_room.ensures c.if-not-has_room.false).fourth

pub slice_bounds-read_lines-end-9 : goal.slice_bounds-read_lines-end-9
slice_bounds-read_lines-end-9 c = let a = c.args in (roomy a.entries.now a.offsets.now a.details.now a.places.now a.members.now c.has_room.ensures c.if-not-has_room.false).fifth

pub slice_bounds-read_lines-end-10 : goal.slice_bounds-read_lines-end-10
slice_bounds-read_lines-end-10 c = let a = c.args in part_long members_size a.members.now (roomy a.entries.now a.offsets.now a.details.now a.places.now a.members.now c.has_room.ensures c.if-not-has_room.false).fifth

pub read_lines-requires : goal.read_lines-requires
read_lines-requires c = let a = c.args in
    let t = tables a.reading.now in
    let s = judged_as t a.reading.now.counts a.text.now (Ok tt) (c.in_ok-judge.was) (c.judge.ensures) in
    record { text_len_bound = (s.short, few_categories t a.reading.now.counts s.holding); sized = parts_sized (record { entries = a.entries.now; offsets = a.offsets.now; details = a.details.now; places = a.places.now; members = a.members.now }) (roomy a.entries.now a.offsets.now a.details.now a.places.now a.members.now c.has_room.ensures c.if-not-has_room.false) }

pub returns-in_err-judge : goal.returns-in_err-judge
returns-in_err-judge c =
    let a = c.args in
    let l : UnkTables = record { entries = a.entries.now; offsets = a.offsets.now; details = a.details.now; places = a.places.now; members = a.members.now } in
    let p = err_from_is_err_and c.from_residual.result c.from_residual.ensures.1 in
    rw (p.1, p.2) (unsound (tables a.reading.now) a.reading.now.counts a.text.now l (sym c.if-not-has_room.false ∙ c.has_room.ensures) _ _ c.in_err-judge.ensures)

pub returns : goal.returns
returns c = let a = c.args in
    let t = tables a.reading.now in
    let l : UnkTables = record { entries = a.entries.now; offsets = a.offsets.now; details = a.details.now; places = a.places.now; members = a.members.now } in
    let s = judged_as t a.reading.now.counts a.text.now (Ok tt) (c.in_ok-judge.was) (c.judge.ensures) in
    let p = c.read_lines.new in
    lines_parsed t a.reading.now.counts a.text.now l (sym c.if-not-has_room.false ∙ c.has_room.ensures) s (record { entries = p.entries; offsets = p.offsets; details = p.details; places = p.places; members = p.members })
    _ (c.read_lines.ensures)
