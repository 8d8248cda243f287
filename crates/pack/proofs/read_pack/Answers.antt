-- `pack::read_pack` meets its contract. Assumes nothing.
use Prim.Native.Nat.{◌*◌}
use Rattle.paper.specs.Sizes.{max_name_bytes, max_categories, max_category_lines, max_ranges, max_references}
use Rattle.paper.specs.Computed.ReadPack.{read_pack}
use Rattle.paper.specs.Tables.Layout.{name_slot_size, definition_size, range_slot_size, reference_size}
use Rattle.room.proofs.Five.{lacking, having, part_long}
use Rattle.room.proofs.Sizes.{roomy, parts_sized}
use Rattle.room.proofs.Whole.{short_room, reads}
use Rattle.pack.proofs.Answer.{refusals_clear}
use Rattle.pack.proofs.Kept.{part_kept}
use Rattle.pack.proofs.read_pack.Goals as goal

pub returns-then-not-has_room : goal.returns-then-not-has_room
returns-then-not-has_room c =
    short_room (read_pack c.args.pack.now) _ (lacking _ c.has_room.ensures c.if-not-has_room.true-raw)

pub slice_bounds-read_into-end : goal.slice_bounds-read_into-end
slice_bounds-read_into-end c = (roomy _ c.has_room.ensures c.if-not-has_room.false-raw).first

pub slice_bounds-read_into-end-2 : goal.slice_bounds-read_into-end-2
slice_bounds-read_into-end-2 c = part_long max_name_bytes c.args.names.now (roomy _ c.has_room.ensures c.if-not-has_room.false-raw).first

pub slice_bounds-read_into-end-3 : goal.slice_bounds-read_into-end-3
slice_bounds-read_into-end-3 c = (roomy _ c.has_room.ensures c.if-not-has_room.false-raw).second

pub slice_bounds-read_into-end-4 : goal.slice_bounds-read_into-end-4
slice_bounds-read_into-end-4 c = part_long (name_slot_size * max_categories) c.args.categories.now (roomy _ c.has_room.ensures c.if-not-has_room.false-raw).second

pub slice_bounds-read_into-end-5 : goal.slice_bounds-read_into-end-5
slice_bounds-read_into-end-5 c = (roomy _ c.has_room.ensures c.if-not-has_room.false-raw).third

pub slice_bounds-read_into-end-6 : goal.slice_bounds-read_into-end-6
slice_bounds-read_into-end-6 c = part_long (definition_size * max_category_lines) c.args.definitions.now (roomy _ c.has_room.ensures c.if-not-has_room.false-raw).third

pub slice_bounds-read_into-end-7 : goal.slice_bounds-read_into-end-7
slice_bounds-read_into-end-7 c = (roomy _ c.has_room.ensures c.if-not-has_room.false-raw).fourth

pub slice_bounds-read_into-end-8 : goal.slice_bounds-read_into-end-8
slice_bounds-read_into-end-8 c = part_long (range_slot_size * max_ranges) c.args.ranges.now (roomy _ c.has_room.ensures c.if-not-has_room.false-raw).fourth

pub slice_bounds-read_into-end-9 : goal.slice_bounds-read_into-end-9
slice_bounds-read_into-end-9 c = (roomy _ c.has_room.ensures c.if-not-has_room.false-raw).fifth

pub slice_bounds-read_into-end-10 : goal.slice_bounds-read_into-end-10
slice_bounds-read_into-end-10 c = part_long (reference_size * max_references) c.args.references.now (roomy _ c.has_room.ensures c.if-not-has_room.false-raw).fifth

pub read_into-requires : goal.read_into-requires
read_into-requires c =
    parts_sized _ (roomy _ c.has_room.ensures c.if-not-has_room.false-raw)

pub shape_of-names : goal.shape_of-names
shape_of-names c = part_kept max_name_bytes c.args.names.now c.read_into.new.names c.read_into.auto.names

pub shape_of-categories : goal.shape_of-categories
shape_of-categories c = part_kept (name_slot_size * max_categories) c.args.categories.now c.read_into.new.categories c.read_into.auto.categories

pub shape_of-definitions : goal.shape_of-definitions
shape_of-definitions c = part_kept (definition_size * max_category_lines) c.args.definitions.now c.read_into.new.definitions c.read_into.auto.definitions

pub shape_of-ranges : goal.shape_of-ranges
shape_of-ranges c = part_kept (range_slot_size * max_ranges) c.args.ranges.now c.read_into.new.ranges c.read_into.auto.ranges

pub shape_of-references : goal.shape_of-references
shape_of-references c = part_kept (reference_size * max_references) c.args.references.now c.read_into.new.references c.read_into.auto.references

pub returns : goal.returns
returns c =
    let l = c.read_into.new in
    reads (read_pack c.args.pack.now) _ (having _ c.has_room.ensures c.if-not-has_room.false-raw)
    (refusals_clear c.args.pack.now)
    (record { names = l.names; categories = l.categories; definitions = l.definitions; ranges = l.ranges; references = l.references })
    c.read_into.result c.read_into.ensures
