-- The five lengths that a reader asks for, tables of just these sizes, and zero in all their places.
-- Assumes nothing.
use Prim.Native.Nat.{ℕ, ◌*◌}
use mathlib.Core.Path.{◌≡◌, refl, sym, ◌∙◌}
use mathlib.Core.Bool.{Bool, true, false, not}
use mathlib.Core.List.{List}
use lib.ListN.{length, take}
use lib.Seq.{length-take-le}
use Rattle.paper.specs.Sizes.{max_categories, max_name_bytes, max_category_lines, max_ranges, max_references}
use Rattle.std.specs.Prelude.{Result, Ok, Err}
use Rattle.std.specs.Result.{is_err}
use Rattle.paper.specs.CharDef.Reading.{Answer}
use Rattle.paper.specs.declared.Counts.{Counts}
use Rattle.paper.specs.declared.Refusal.{Refusal}
use Rattle.paper.proofs.Apart.{true_false}
use Rattle.paper.specs.Tables.Layout.{Tables, in_room, name_slot_size, definition_size, range_slot_size, reference_size}
use Rattle.paper.specs.Tables.Lent.{zeroed}
use Rattle.paper.proofs.Tables.Trip.{tables_is}
use Rattle.paper.specs.Tables.Reader.{room_for, has_room, cleared}
use Rattle.room.specs.Sized.{Sized, no_tables, FilledInto, ReadInto}
use Rattle.room.proofs.Five.{Room, long_enough, room_is, having, zero_padded}

-- ---- refusal 1

pub room_asked : (a b c d e : ℕ) → room_for a b c d e
    ≡ long_enough max_name_bytes (name_slot_size * max_categories) (definition_size * max_category_lines) (range_slot_size * max_ranges) (reference_size * max_references) a b c d e
unfolding room_for long_enough
room_asked a b c d e = refl

abbrev pub RoomIn : Tables → Type 0
RoomIn t =
    Room max_name_bytes (name_slot_size * max_categories) (definition_size * max_category_lines) (range_slot_size * max_ranges) (reference_size * max_references)
    (length t.names) (length t.categories) (length t.definitions) (length t.ranges) (length t.references)

pub room_in : (t : Tables) → true ≡ has_room t → RoomIn t
room_in t h = room_is (room_asked _ _ _ _ _) h

pub roomy : (t : Tables) {x : Bool} → x ≡ has_room t → not x ≡ false → RoomIn t
roomy t h n = room_in t (having (has_room t) h n)

-- the same of the lengths alone
pub fits : {a b c d e : ℕ} {x : Bool} → x ≡ room_for a b c d e → x ≡ true
    → Room max_name_bytes (name_slot_size * max_categories) (definition_size * max_category_lines) (range_slot_size * max_ranges) (reference_size * max_references) a b c d e
fits h t = room_is (room_asked _ _ _ _ _) (sym t ∙ h)

-- ---- parts of the sizes

pub parts_sized : (t : Tables) → RoomIn t
    → Sized (record {
      names = take max_name_bytes t.names;
      categories = take (name_slot_size * max_categories) t.categories;
      definitions = take (definition_size * max_category_lines) t.definitions;
      ranges = take (range_slot_size * max_ranges) t.ranges;
      references = take (reference_size * max_references) t.references;
    })
parts_sized t h =
    record {
      names = length-take-le max_name_bytes t.names h.first;
      categories = length-take-le (name_slot_size * max_categories) t.categories h.second;
      definitions = length-take-le (definition_size * max_category_lines) t.definitions h.third;
      ranges = length-take-le (range_slot_size * max_ranges) t.ranges h.fourth;
      references = length-take-le (reference_size * max_references) t.references h.fifth;
    }

-- ---- zero in every place

pub cleared_sized : (t : Tables) → Sized t → cleared t ≡ in_room no_tables
unfolding cleared in_room no_tables
cleared_sized t z =
    tables_is (in_room no_tables) _ _ _ _ _ (zero_padded max_name_bytes t.names z.names) (zero_padded (name_slot_size * max_categories) t.categories z.categories)
    (zero_padded (definition_size * max_category_lines) t.definitions z.definitions) (zero_padded (range_slot_size * max_ranges) t.ranges z.ranges)
    (zero_padded (reference_size * max_references) t.references z.references)

pub clear_each : (t : Tables) (a b c d e : List ℕ)
    → a ≡ zeroed max_name_bytes t.names → b ≡ zeroed (name_slot_size * max_categories) t.categories → c ≡ zeroed (definition_size * max_category_lines) t.definitions
    → d ≡ zeroed (range_slot_size * max_ranges) t.ranges → e ≡ zeroed (reference_size * max_references) t.references
    → record { names = a; categories = b; definitions = c; ranges = d; references = e } ≡ cleared t
unfolding cleared
clear_each t a b c d e p q r s u = tables_is (cleared t) a b c d e p q r s u

-- ---- a reader that fills tables of the sizes, and zeroes them again where it refuses

pub zeroed_into : (a : Answer) (t : Tables) {after : Tables} (r : Result Counts Refusal) → is_err r ≡ true → FilledInto a t r → after ≡ in_room no_tables → ReadInto a after r
zeroed_into a t (Ok n) e f z = true_false (sym e)
zeroed_into a t (Err x) e f z = record { is = f; tables = z }
