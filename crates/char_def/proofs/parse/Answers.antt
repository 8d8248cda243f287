-- `char_def::parse` meets its contract: each way through is an answer of `Whole`; the parts that are lent have the sizes.
-- Assumes nothing.
use mathlib.Core.Path.{sym, ◌∙◌}
use native.Mathlib.Omega.{arith}
use Rattle.paper.specs.Tables.Layout.{Tables}
use Rattle.paper.specs.Computed.ReadText.{read_text}
use Rattle.room.proofs.Five.{part_long}
use Rattle.room.proofs.Sizes.{fits, parts_sized}
use Rattle.room.proofs.Whole.{short_room}
use Rattle.char_def.proofs.Whole.{whole_formed, long_text, ill_text, lines_parsed}
use Rattle.char_def.proofs.parse.Goals as goal

pub returns-then-not-has_room : goal.returns-then-not-has_room
returns-then-not-has_room c =
    let a = c.args in
    let t : Tables = record { names = a.names.now; categories = a.categories.now; definitions = a.definitions.now; ranges = a.ranges.now; references = a.references.now } in
    short_room (read_text a.text.now) t (sym c.if-not-has_room.true ∙ c.has_room.ensures)

pub returns-then-text-gt-MAX_TEXT_BYTES : goal.returns-then-text-gt-MAX_TEXT_BYTES
returns-then-text-gt-MAX_TEXT_BYTES c =
    let a = c.args in
    let t : Tables = record { names = a.names.now; categories = a.categories.now; definitions = a.definitions.now; ranges = a.ranges.now; references = a.references.now } in
    long_text a.text.now t (sym c.if-not-has_room.false ∙ c.has_room.ensures) (omega arith)

pub returns-then-prefix-text : goal.returns-then-prefix-text
returns-then-prefix-text c =
    let a = c.args in
    let t : Tables = record { names = a.names.now; categories = a.categories.now; definitions = a.definitions.now; ranges = a.ranges.now; references = a.references.now } in
    ill_text a.text.now t (sym c.if-not-has_room.false ∙ c.has_room.ensures) (omega arith) (c.valid_prefix-prefix.result) (c.valid_prefix-prefix.ensures) (omega arith)

pub slice_bounds-read_lines-end : goal.slice_bounds-read_lines-end
slice_bounds-read_lines-end c = (fits c.has_room.ensures c.if-not-has_room.false).first

pub slice_bounds-read_lines-end-2 : goal.slice_bounds-read_lines-end-2
slice_bounds-read_lines-end-2 c = part_long _ _ (fits c.has_room.ensures c.if-not-has_room.false).first

pub slice_bounds-read_lines-end-3 : goal.slice_bounds-read_lines-end-3
slice_bounds-read_lines-end-3 c = (fits c.has_room.ensures c.if-not-has_room.false).second

pub slice_bounds-read_lines-end-4 : goal.slice_bounds-read_lines-end-4
slice_bounds-read_lines-end-4 c = part_long _ _ (fits c.has_room.ensures c.if-not-has_room.false).second

pub slice_bounds-read_lines-end-5 : goal.slice_bounds-read_lines-end-5
slice_bounds-read_lines-end-5 c = (fits c.has_room.ensures c.if-not-has_room.false).third

pub slice_bounds-read_lines-end-6 : goal.slice_bounds-read_lines-end-6
slice_bounds-read_lines-end-6 c = part_long _ _ (fits c.has_room.ensures c.if-not-has_room.false).third

pub slice_bounds-read_lines-end-7 : goal.slice_bounds-read_lines-end-7
slice_bounds-read_lines-end-7 c = (fits c.has_room.ensures c.if-not-has_room.false).fourth

pub slice_bounds-read_lines-end-8 : goal.slice_bounds-read_lines-end-8
slice_bounds-read_lines-end-8 c = part_long _ _ (fits c.has_room.ensures c.if-not-has_room.false).fourth

pub slice_bounds-read_lines-end-9 : goal.slice_bounds-read_lines-end-9
slice_bounds-read_lines-end-9 c = (fits c.has_room.ensures c.if-not-has_room.false).fifth

pub slice_bounds-read_lines-end-10 : goal.slice_bounds-read_lines-end-10
slice_bounds-read_lines-end-10 c = part_long _ _ (fits c.has_room.ensures c.if-not-has_room.false).fifth

pub read_lines-requires : goal.read_lines-requires
read_lines-requires c =
    let a = c.args in
    let t : Tables = record { names = a.names.now; categories = a.categories.now; definitions = a.definitions.now; ranges = a.ranges.now; references = a.references.now } in
    record { text_len_bound = c.if-text-gt-MAX_TEXT_BYTES.false; sized = parts_sized t (fits c.has_room.ensures c.if-not-has_room.false) }

pub returns : goal.returns
returns c =
    let a = c.args in
    let t : Tables = record { names = a.names.now; categories = a.categories.now; definitions = a.definitions.now; ranges = a.ranges.now; references = a.references.now } in
    let l = c.read_lines.new in
    lines_parsed a.text.now t (sym c.if-not-has_room.false ∙ c.has_room.ensures) (omega arith)
    (whole_formed a.text.now (c.valid_prefix-prefix.result) (c.valid_prefix-prefix.ensures) (omega arith))
    (record { names = l.names; categories = l.categories; definitions = l.definitions; ranges = l.ranges; references = l.references })
    _ (c.read_lines.ensures)
