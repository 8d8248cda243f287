-- Refusal 26 as a test over tables and counts. `Tables.Trip` proves it the relation `HoldTogether`.
-- Assumes nothing.
use Rattle.std.specs.Prelude.{ℕ, ◌+◌, ◌*◌, Bool, cond, ◌&&◌, List, [], ◌∷◌, map, leb, ltb, eqb, length, get_or}
use Rattle.std.proofs.Math.Option.{Option, none, some}
use Rattle.paper.specs.Sizes.{max_categories, max_name_bytes, max_category_lines, max_ranges, max_references}
use Rattle.paper.specs.Lists.{all}
use Rattle.paper.specs.CharDef.Reading.{Reading}
use Rattle.paper.specs.Pack.Rules.{is_bound, once}
use Rattle.paper.specs.Tables.Layout.{NameSlot, RangeSlot, Tables, pieces, name_slot_of, definition_of, slot_of, split, ranging, name_slot_size, definition_size, range_slot_size, reference_size, invoke_at, group_at}
use Rattle.paper.specs.Tables.Lent.{num}
use Rattle.paper.specs.Computed.Rules.{formed}
use Rattle.paper.specs.declared.Counts.{Counts}

-- ---- the test

-- counts within the limits, and tables that long
unfoldable pub enough : ℕ → ℕ → ℕ → ℕ → ℕ → Counts → Bool
enough names categories definitions ranges references n =
    leb n.categories max_categories
    && (leb n.bytes max_name_bytes
    && (leb n.definitions max_category_lines
    && (leb n.ranges max_ranges
    && (leb n.references max_references
    && (leb n.bytes names
    && (leb (name_slot_size * n.categories) categories
    && (leb (definition_size * n.definitions) definitions
    && (leb (range_slot_size * n.ranges) ranges && leb (reference_size * n.references) references))))))))

-- names one behind another from `at`, none empty, up to the total
unfoldable pub name_slots_stand : ℕ → ℕ → List NameSlot → Bool
name_slots_stand total at [] = eqb at total
name_slots_stand total at (p ∷ ps) =
    eqb p.start at && (ltb 0 p.len && (leb (at + p.len) total && name_slots_stand total (at + p.len) ps))

unfoldable pub slots_stand : ℕ → ℕ → List RangeSlot → Bool
slots_stand total at [] = eqb at total
slots_stand total at (r ∷ rs) =
    eqb r.first at
    && (is_bound r.lower && (is_bound r.upper && (leb (at + r.count) total && slots_stand total (at + r.count) rs)))

unfoldable pub flagged : List ℕ → Bool
flagged p = leb (get_or p invoke_at 0) 1 && leb (get_or p group_at 0) 1

unfoldable pub name_slots_in : Tables → Counts → List NameSlot
name_slots_in t n = map name_slot_of (pieces name_slot_size n.categories t.categories)

unfoldable pub names_in : Tables → Counts → List (List ℕ)
names_in t n = split (map (λ p. p.len) (name_slots_in t n)) t.names

unfoldable pub slots_in : Tables → Counts → List RangeSlot
slots_in t n = map slot_of (pieces range_slot_size n.ranges t.ranges)

unfoldable pub numbers_in : Tables → Counts → List ℕ
numbers_in t n = map (num reference_size 0) (pieces reference_size n.references t.references)

unfoldable pub decoded : Tables → Counts → Reading
decoded t n =
    record {
      names = names_in t n;
      definitions = map definition_of (pieces definition_size n.definitions t.definitions);
      ranges = ranging (slots_in t n) (numbers_in t n);
    }

unfoldable pub holds : Tables → Counts → Bool
holds t n =
    enough (length t.names) (length t.categories) (length t.definitions) (length t.ranges) (length t.references) n
    && (name_slots_stand n.bytes 0 (name_slots_in t n)
    && (all flagged (pieces definition_size n.definitions t.definitions)
    && (slots_stand n.references 0 (slots_in t n)
    && (all (λ c. ltb c n.categories) (numbers_in t n)
    && (all formed (names_in t n) && once (names_in t n))))))

unfoldable pub handed_in : Tables → Counts → Option Reading
unfolding holds
handed_in t n = cond (holds t n) (some (decoded t n)) none
