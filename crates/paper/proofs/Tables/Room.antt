-- What a reader leaves in lent room: the layout, and zero bytes up to the sizes. Assumes nothing.
use Prim.Native.Nat.{ℕ, ◌*◌, ◌-◌}
use native.Mathlib.Omega.{arith}
use mathlib.Core.Path.{◌≡◌, refl, ap, ◌∙◌}
use mathlib.Core.List.{List, ◌++◌, map}
use mathlib.Core.Option.{some}
use lib.ListN.{length, replicate, length-map}
use Rattle.paper.specs.Sizes.{max_categories, max_name_bytes, max_category_lines, max_ranges, max_references}
use Rattle.paper.specs.Numbers.Bytes.{le}
use Rattle.paper.specs.CharDef.Reading.{Reading, Within, name_bytes, references}
use Rattle.paper.specs.Pack.Rules.{PackRules}
use Rattle.paper.specs.Tables.Layout.{Tables, layout, behind, name_slots, range_slots, name_slot_bytes, definition_bytes, slot_bytes, numbers_of, counts_of, in_room, FitsRoom, name_slot_size, definition_size, range_slot_size, reference_size}
use Rattle.paper.specs.Tables.Lent.{padded}
use Rattle.paper.specs.Computed.HandedIn.{handed_in}
use Rattle.paper.proofs.Lists.Facts.{joined_length}
use Rattle.paper.proofs.Tables.Laws.{table_length}
use Rattle.paper.proofs.Tables.Trip.{tables_is, handed_in_lem, places_length, rows_length, numbers_length, wide_place, wide_definition, wide_row, wide_number}

-- the zero bytes behind l: shut, so that nothing counts them out
pub zeros : ℕ → List ℕ → List ℕ
zeros n l = replicate (n - length l) 0

pub padded_is : (n : ℕ) (l : List ℕ) → padded n l ≡ l ++ zeros n l
unfolding padded zeros
padded_is n l = refl

zeros_behind : Tables → Tables
zeros_behind t =
    record {
      names = zeros max_name_bytes t.names;
      categories = zeros (name_slot_size * max_categories) t.categories;
      definitions = zeros (definition_size * max_category_lines) t.definitions;
      ranges = zeros (range_slot_size * max_ranges) t.ranges;
      references = zeros (reference_size * max_references) t.references;
    }

room_is : (t : Tables) → in_room t ≡ behind t (zeros_behind t)
unfolding in_room behind zeros_behind
room_is t =
    tables_is (behind t (zeros_behind t)) _ _ _ _ _ (padded_is max_name_bytes t.names) (padded_is (name_slot_size * max_categories) t.categories)
    (padded_is (definition_size * max_category_lines) t.definitions) (padded_is (range_slot_size * max_ranges) t.ranges) (padded_is (reference_size * max_references) t.references)

pub handed_room : (r : Reading) → PackRules r → handed_in (in_room (layout r)) (counts_of r) ≡ some r
handed_room r ok = ap (λ t. handed_in t (counts_of r)) (room_is (layout r)) ∙ handed_in_lem r (zeros_behind (layout r)) ok

-- the layout fits
pub layout_fits : (r : Reading) → Within r → FitsRoom (layout r)
unfolding layout name_bytes
layout_fits r w =
    let a = joined_length r.names in
    let a' = w.names_fit in
    let b = table_length name_slot_size name_slot_bytes wide_place (name_slots 0 (map length r.names)) in
    let b' : length (name_slots 0 (map length r.names)) ≡ length r.names = places_length 0 (map length r.names) ∙ length-map r.names length in
    let b'' = w.categories_fit in
    let c = table_length definition_size definition_bytes wide_definition r.definitions in
    let c' = w.definitions_fit in
    let d = table_length range_slot_size slot_bytes wide_row (range_slots 0 r.ranges) in
    let d' = rows_length 0 r.ranges in
    let d'' = w.ranges_fit in
    let e = table_length reference_size (le reference_size) wide_number (numbers_of r.ranges) in
    let e' = numbers_length r.ranges in
    let e'' = w.references_fit in
    record { names = omega arith; categories = omega arith; definitions = omega arith; ranges = omega arith; references = omega arith }
