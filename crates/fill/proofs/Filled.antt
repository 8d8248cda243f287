-- Memory that holds a reading, with its slots written out, is the reading's layout in room of the sizes.
-- Assumes nothing.
use Prim.Native.Nat.{ℕ, ◌*◌, ◌≤◌}
use native.Mathlib.Omega.{arith}
use mathlib.Core.Path.{◌≡◌, refl, sym, ap, ◌∙◌}
use mathlib.Core.List.{List, [], ◌++◌, append-nil}
use lib.ListN.{length, drop, replicate, drop_of_length-le}
use Rattle.paper.specs.Sizes.{max_categories, max_name_bytes, max_category_lines, max_ranges, max_references}
use Rattle.paper.specs.CharDef.Reading.{Reading, Answer, name_bytes, references}
use Rattle.paper.specs.Computed.ReadText.{nothing_read}
use Rattle.paper.specs.Tables.Layout.{Tables, layout, in_room, counts_of, name_slots, range_slots, name_slot_size, definition_size, range_slot_size, reference_size}
use Rattle.paper.specs.Tables.Lent.{padded}
use Rattle.paper.specs.declared.Counts.{Counts}
use Rattle.paper.proofs.Tables.Append.{padded_length}
use Rattle.paper.proofs.Tables.Trip.{tables_is, counts_is}
use Rattle.slot.specs.Slots.{written}
use Rattle.slot.proofs.More.{none_laid}
use Rattle.slot.proofs.Written.{written_room}
use Rattle.entry.specs.Steps.{Memory, Held}
use Rattle.room.specs.Sized.{no_tables, AcceptedInto}
use Rattle.lines.specs.Lines.{WalkEnded}

-- ---- before

-- zero memory of the sizes holds nothing
held_nothing : (a b c d e : List ℕ) → a ≡ padded max_name_bytes [] → b ≡ replicate max_categories 0 → c ≡ padded (definition_size * max_category_lines) []
    → d ≡ padded (range_slot_size * max_ranges) [] → e ≡ padded (reference_size * max_references) []
    → Held nothing_read (record { store = a; slots = b; definitions = c; ranges = d; references = e })
    (record { categories = 0; definitions = 0; ranges = 0; references = 0; bytes = 0 })
unfolding nothing_read name_bytes references name_slots range_slots
held_nothing a b c d e p q r s t =
    record {
      names = none_laid a b p q;
      definitions_few = omega arith;
      definitions_are = refl;
      in_definitions = r;
      ranges_few = omega arith;
      ranges_are = refl;
      in_ranges = s;
      references_few = omega arith;
      references_are = refl;
      in_references = t;
    }

module _ {t : Tables} (e : t ≡ in_room no_tables) where
  names_zero : t.names ≡ padded max_name_bytes []
  unfolding in_room no_tables
  names_zero = ap (λ u. u.names) e

  pub categories_zero : t.categories ≡ padded (name_slot_size * max_categories) []
  unfolding in_room no_tables
  categories_zero = ap (λ u. u.categories) e

  definitions_zero : t.definitions ≡ padded (definition_size * max_category_lines) []
  unfolding in_room no_tables
  definitions_zero = ap (λ u. u.definitions) e

  ranges_zero : t.ranges ≡ padded (range_slot_size * max_ranges) []
  unfolding in_room no_tables
  ranges_zero = ap (λ u. u.ranges) e

  references_zero : t.references ≡ padded (reference_size * max_references) []
  unfolding in_room no_tables
  references_zero = ap (λ u. u.references) e

  -- zero tables and zero slots hold nothing
  pub fill_start : (slots : List ℕ) → slots ≡ replicate max_categories 0
      → Held nothing_read (record { store = t.names; slots = slots; definitions = t.definitions; ranges = t.ranges; references = t.references })
      (record { categories = 0; definitions = 0; ranges = 0; references = 0; bytes = 0 })
  fill_start slots s = held_nothing t.names slots t.definitions t.ranges t.references names_zero s definitions_zero ranges_zero references_zero

  pub categories_long : length t.categories ≡ name_slot_size * max_categories
  categories_long = ap length categories_zero ∙ padded_length (name_slot_size * max_categories) [] (omega arith)

-- ---- after

module _ {r : Reading} {m : Memory} {c : Counts} (z : Held r m c) where
  pub counts_are : c ≡ counts_of r
  unfolding counts_of
  counts_are =
      sym (counts_is c _ _ _ _ _ (sym z.names.count_is) (sym z.definitions_are) (sym z.ranges_are) (sym z.references_are) (sym z.names.bytes_is))

  tables_are : (table categories : List ℕ) → length table ≡ name_slot_size * max_categories → categories ≡ written m.slots table
      → record { names = m.store; categories = categories; definitions = m.definitions; ranges = m.ranges; references = m.references } ≡ in_room (layout r)
  unfolding in_room layout
  tables_are table categories l e =
      let short : length table ≤ name_slot_size * max_categories = omega arith in
      let none : drop (name_slot_size * max_categories) table ≡ [] = drop_of_length-le table short in
      tables_is (in_room (layout r)) _ _ _ _ _ z.names.stored
      (e ∙ written_room r m.store m.slots c.categories c.bytes table z.names (omega arith)
      ∙ ap (λ x. (in_room (layout r)).categories ++ x) none ∙ append-nil (in_room (layout r)).categories)
      z.in_definitions z.in_ranges z.in_references

pub filled : {a : Answer} {m : Memory} {c : Counts} → WalkEnded a m c → (table categories : List ℕ) → length table ≡ name_slot_size * max_categories
    → categories ≡ written m.slots table
    → AcceptedInto a (record { names = m.store; categories = categories; definitions = m.definitions; ranges = m.ranges; references = m.references }) c
filled w table categories l e =
    record { reading = w.reading; is = w.is; counts = counts_are w.held; tables = tables_are w.held table categories l e }
