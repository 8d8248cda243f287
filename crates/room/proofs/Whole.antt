-- From tables of the sizes to lent tables of any length: what a reader promises over the parts that it works in, and what lies past them.
-- Assumes nothing.
use Prim.Native.Nat.{ℕ, ◌*◌}
use mathlib.Core.Path.{◌≡◌, refl, sym, ap, ◌∙◌}
use mathlib.Core.Bool.{true, false, cond}
use mathlib.Core.List.{◌++◌}
use lib.ListN.{drop}
use Rattle.paper.specs.Sizes.{max_categories, max_name_bytes, max_category_lines, max_ranges, max_references}
use Rattle.paper.specs.Refusals.{room_short}
use Rattle.paper.specs.CharDef.Reading.{Answer, accepted, refused}
use Rattle.paper.specs.Tables.Layout.{Tables, in_room, behind, name_slot_size, definition_size, range_slot_size, reference_size}
use Rattle.paper.specs.Tables.Reader.{has_room, in_lent, given, clears, past, cleared, leaves, Reads}
use Rattle.paper.proofs.Tables.Trip.{tables_is}
use Rattle.room.specs.Sized.{no_tables, ReadInto}
use Rattle.room.proofs.Five.{zero_past}
use Rattle.room.proofs.Sizes.{RoomIn, room_in}
use Rattle.std.specs.Prelude.{Err, Ok, Result}
use Rattle.paper.specs.declared.Counts.{Counts}
use Rattle.paper.specs.declared.Refusal.{Refusal}

cleared_is : (t : Tables) → RoomIn t → behind (in_room no_tables) (past t) ≡ cleared t
unfolding behind in_room no_tables past cleared
cleared_is t h =
    tables_is (cleared t) _ _ _ _ _ (zero_past max_name_bytes t.names h.first) (zero_past (name_slot_size * max_categories) t.categories h.second)
    (zero_past (definition_size * max_category_lines) t.definitions h.third) (zero_past (range_slot_size * max_ranges) t.ranges h.fourth)
    (zero_past (reference_size * max_references) t.references h.fifth)

module _ (a : Answer) (t : Tables) where
  pub short_answer : has_room t ≡ false → in_lent t a ≡ refused room_short 0
  unfolding in_lent
  short_answer e = ap (λ b. cond b a (refused room_short 0)) e

  pub has_answer : has_room t ≡ true → in_lent t a ≡ a
  unfolding in_lent
  has_answer e = ap (λ b. cond b a (refused room_short 0)) e

  -- a refusal that leaves memory as it was
  unchanged : (n place : ℕ) → in_lent t a ≡ refused n place → clears n ≡ false → Reads a t t (Err (record { number = n; place = place }))
  unfolding leaves
  unchanged n place e h =
      record {
        answer = ap given (sym e);
        memory = sym (ap (λ x. leaves x t) e ∙ ap (λ b. cond b (cleared t) t) h);
      }

  pub short_room : false ≡ has_room t → Reads a t t (Err (record { number = room_short; place = 0 }))
  unfolding clears
  short_room e = unchanged room_short 0 (short_answer (sym e)) refl

  module _ (room : true ≡ has_room t) where
    pub nothing_written : (n place : ℕ) → a ≡ refused n place → clears n ≡ false → Reads a t t (Err (record { number = n; place = place }))
    nothing_written n place e h = unchanged n place (has_answer (sym room) ∙ e) h

    into : ((n place : ℕ) → a ≡ refused n place → clears n ≡ true) → (part after : Tables) → after ≡ behind part (past t)
        → (r : Result Counts Refusal) → ReadInto a part r → Reads a t after r
    unfolding leaves
    into k part after e (Ok n) z =
        let i : in_lent t a ≡ accepted z.reading = has_answer (sym room) ∙ z.is in
        record {
          answer = ap Ok z.counts ∙ ap given (sym i);
          memory = e ∙ ap (λ x. behind x (past t)) z.tables ∙ ap (λ x. leaves x t) (sym i);
        }
    into k part after e (Err x) z =
        let i : in_lent t a ≡ refused x.number x.place = has_answer (sym room) ∙ z.is in
        record {
          answer = ap given (sym i);
          memory = e ∙ ap (λ y. behind y (past t)) z.tables ∙ cleared_is t (room_in t room)
              ∙ sym (ap (λ y. leaves y t) i ∙ ap (λ b. cond b (cleared t) t) (k x.number x.place z.is));
        }

    -- a reader of the parts, where each of its refusals clears the room: what lies past the sizes stays behind the parts that were lent
    pub reads : ((n place : ℕ) → a ≡ refused n place → clears n ≡ true) → (part : Tables) (r : Result Counts Refusal) → ReadInto a part r
        → Reads a t
        (record {
          names = part.names ++ drop max_name_bytes t.names;
          categories = part.categories ++ drop (name_slot_size * max_categories) t.categories;
          definitions = part.definitions ++ drop (definition_size * max_category_lines) t.definitions;
          ranges = part.ranges ++ drop (range_slot_size * max_ranges) t.ranges;
          references = part.references ++ drop (reference_size * max_references) t.references;
        }) r
    unfolding behind past
    reads k part r z = into k part (behind part (past t)) refl r z
