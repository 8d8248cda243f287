use native.Mathlib.Omega.{arith}
use Prim.Native.Nat.{◌%◌, ◌/◌}
use mathlib.Core.Path.{◌≡◌, refl, ap, ◌∙◌}
use lib.ListN.{length, take, get_or}
use lib.Seq.{get_or-take, length-take-le}
use Rattle.paper.specs.Sizes.{max_categories}
use Rattle.slot.specs.Slots.{slot_unit, hint_unit}
use Rattle.slot.proofs.Written.{few_slots, no_room, write_start, write_on, write_done}
use Rattle.slot.proofs.write_slots.Goals.{then-slots-lt-MAX_CATEGORIES-via-then-slots-lt-MAX_CATEGORIES, then-slots-lt-MAX_CATEGORIES-via-else-slots-lt-MAX_CATEGORIES+then-categories}
use Rattle.slot.proofs.write_slots.Goals as goal

pub returns-then-slots-lt-MAX_CATEGORIES : goal.returns-then-slots-lt-MAX_CATEGORIES
returns-then-slots-lt-MAX_CATEGORIES c = elim c.then-slots-lt-MAX_CATEGORIES.branch [
  | then-slots-lt-MAX_CATEGORIES-via-then-slots-lt-MAX_CATEGORIES w ↦
      few_slots c.args.slots.now c.args.categories.now w.if-slots-lt-MAX_CATEGORIES.true
  | then-slots-lt-MAX_CATEGORIES-via-else-slots-lt-MAX_CATEGORIES+then-categories w ↦
      no_room c.args.slots.now c.args.categories.now w.if-slots-lt-MAX_CATEGORIES.false w.if-categories.true
]

pub loop-i-init : goal.loop-i-init
loop-i-init c = write_start max_categories _ _ c.if-slots-lt-MAX_CATEGORIES.false c.if-categories.false

pub loop-i-preserved : goal.loop-i-preserved
loop-i-preserved c =
    let i = c.loop-i.i in
    let s = c.args.slots.now in
    let k : length (take max_categories s) ≡ max_categories = length-take-le max_categories s c.if-slots-lt-MAX_CATEGORIES.false in
    let e : get_or (take max_categories s) i 0 ≡ get_or s i 0 = get_or-take max_categories s i 0 (omega arith) in
    write_on c.loop-i.invariant (omega arith) _ _ _ _ _ refl (c.slot_start.ensures ∙ ap (λ k. k % hint_unit / slot_unit) e)
    (c.slot_len.ensures ∙ ap (λ k. k % slot_unit) e) c.put_u16.ensures c.put_u16-in-loop-i.ensures

pub returns : goal.returns
returns c =
    let s = c.args.slots.now in
    let k : length (take max_categories s) ≡ max_categories = length-take-le max_categories s c.if-slots-lt-MAX_CATEGORIES.false in
    write_done c.loop-i.invariant (omega arith)
