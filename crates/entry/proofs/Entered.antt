-- One line entered: the paper's step, case by case, and that the tables hold the reading after it.
-- Assumes nothing.
use Prim.Native.Nat.{ℕ, ◌+◌, ◌*◌, ◌≤◌, ◌<◌}
use native.Mathlib.Omega.{arith}
use mathlib.Core.Path.{◌≡◌, sym, ap, ap₂, ◌∙◌}
use mathlib.Core.Bool.{Bool}
use mathlib.Core.List.{List, [], ◌∷◌, ◌++◌, map, append-nil}
use lib.ListN.{length, length-append, length-map}
use borrow.Author.Tests.{le-leb, lt-leb, lt-ltb, le-ltb}
use Rattle.paper.specs.Sizes.{max_category_lines, max_ranges, max_references}
use Rattle.paper.specs.Refusals.{ranges_full, references_full, category_lines_full}
use Rattle.paper.specs.Lists.{same, position_of, joined}
use Rattle.paper.specs.CharDef.Line.{category, range}
use Rattle.paper.specs.CharDef.Reading.{Reading, Range, references}
use Rattle.paper.specs.Computed.ReadText.{stop, Interned, intern, intern_one, names_are, full_at, after_one, add_range, add_definition}
use Rattle.paper.specs.Numbers.Bytes.{le}
use Rattle.paper.specs.Tables.Layout.{definition_bytes, slot_bytes, definition_size, range_slot_size, reference_size}
use Rattle.paper.specs.Tables.Lent.{patch}
use Rattle.paper.proofs.Tables.Trip.{wide_definition}
use Rattle.paper.proofs.Tables.Append.{entry_more, ranges_more, references_more, references_snoc}
use Rattle.paper.specs.declared.Counts.{Counts}
use Rattle.name.specs.declared.Numbered.{Numbered}
use Rattle.name.specs.Names.{Numbers}
use Rattle.entry.specs.Steps.{enter_bytes, AllIn, Memory, Held, Went}

-- ---- the paper's step, case by case

module _ (r : Reading) (name : List ℕ) (invoke group : Bool) (len : ℕ) where
  category_lines_full_lem : max_category_lines ≤ length r.definitions → enter_bytes r (category name invoke group len) ≡ stop category_lines_full
  unfolding enter_bytes
  category_lines_full_lem h = rw (le-leb max_category_lines (length r.definitions) h)

  category_in_lem : length r.definitions < max_category_lines → (i : Interned) → intern_one r.names name ≡ i
      → enter_bytes r (category name invoke group len) ≡ add_definition (after_one i (λ m. names_are m)) r (record { invoke = invoke; group = group; len = len })
  unfolding enter_bytes intern
  category_in_lem h i e = rw (lt-leb max_category_lines (length r.definitions) h) (ap (λ (x : Interned). add_definition (after_one x (λ m. names_are m)) r (record { invoke = invoke; group = group; len = len })) e)

module _ (r : Reading) (lower upper : ℕ) (ws : List (List ℕ)) where
  range_ranges_full : max_ranges ≤ length r.ranges → enter_bytes r (range lower upper ws) ≡ stop ranges_full
  unfolding enter_bytes
  range_ranges_full h = rw (le-leb max_ranges (length r.ranges) h)

  range_references_full : length r.ranges < max_ranges → max_references < references r.ranges + length ws → enter_bytes r (range lower upper ws) ≡ stop references_full
  unfolding enter_bytes
  range_references_full h g = rw (lt-leb max_ranges (length r.ranges) h, lt-ltb max_references (references r.ranges + length ws) g)

  range_in_lem : length r.ranges < max_ranges → references r.ranges + length ws ≤ max_references → (i : Interned) → intern ws r.names ≡ i
      → enter_bytes r (range lower upper ws) ≡ add_range i r lower upper ws
  unfolding enter_bytes
  range_in_lem h g i e =
      rw (lt-leb max_ranges (length r.ranges) h, le-ltb max_references (references r.ranges + length ws) g) (ap (λ (x : Interned). add_range x r lower upper ws) e)

-- ---- a category line

module _ {r : Reading} {m : Memory} {c : Counts} (z : Held r m c) (name : List ℕ) (invoke group : Bool) (len : ℕ) where
  pub line_lines_full : max_category_lines ≤ c.definitions → enter_bytes r (category name invoke group len) ≡ stop category_lines_full
  line_lines_full h = let e = z.definitions_are in category_lines_full_lem r name invoke group len (omega arith)

  pub line_full : c.definitions < max_category_lines → (k : ℕ) → intern_one r.names name ≡ full_at k → enter_bytes r (category name invoke group len) ≡ stop k
  line_full h k e = let d = z.definitions_are in category_in_lem r name invoke group len (omega arith) (full_at k) e

  pub line_category : c.definitions < max_category_lines → (store slots definitions : List ℕ) (e : Numbered) → Numbers r.names name store slots e
      → definitions ≡ patch (definition_size * c.definitions) (definition_bytes (record { invoke = invoke; group = group; len = len })) m.definitions
      → Went (enter_bytes r (category name invoke group len))
      (record { store = store; slots = slots; definitions = definitions; ranges = m.ranges; references = m.references })
      (record { categories = e.count; definitions = c.definitions + 1; ranges = c.ranges; references = c.references; bytes = e.bytes })
  line_category h store slots definitions e u p =
      let d = z.definitions_are in
      let l : length (r.definitions ++ (record { invoke = invoke; group = group; len = len } ∷ [])) ≡ length r.definitions + 1 = length-append r.definitions (record { invoke = invoke; group = group; len = len } ∷ []) in
      record {
        after = record { names = u.now_names; definitions = r.definitions ++ (record { invoke = invoke; group = group; len = len } ∷ []); ranges = r.ranges };
        goes = category_in_lem r name invoke group len (omega arith) (names_are u.now_names) u.entered;
        held = record {
          names = u.laid_now;
          definitions_few = omega arith;
          definitions_are = omega arith;
          in_definitions = p
              ∙ ap (λ (y : List ℕ). patch (definition_size * c.definitions) y m.definitions) (sym (append-nil (definition_bytes (record { invoke = invoke; group = group; len = len }))))
              ∙ ap (patch (definition_size * c.definitions) (definition_bytes (record { invoke = invoke; group = group; len = len }) ++ [])) z.in_definitions
              ∙ entry_more definition_size definition_bytes wide_definition r.definitions (record { invoke = invoke; group = group; len = len } ∷ []) (definition_size * c.definitions) (definition_size * max_category_lines) (omega arith) (omega arith);
          ranges_few = z.ranges_few;
          ranges_are = z.ranges_are;
          in_ranges = z.in_ranges;
          references_few = z.references_few;
          references_are = z.references_are;
          in_references = z.in_references;
        };
      }

-- ---- a range line

abbrev numbers : List (List ℕ) → List (List ℕ) → List ℕ
numbers names ws = map (λ w. position_of same w names) ws

abbrev new_range : List (List ℕ) → ℕ → ℕ → List (List ℕ) → Range
new_range names lower upper ws = record { lower = lower; upper = upper; categories = numbers names ws }

module _ {r : Reading} {m : Memory} {c : Counts} (z : Held r m c) (lower upper : ℕ) (ws : List (List ℕ)) where
  pub line_ranges_full : max_ranges ≤ c.ranges → enter_bytes r (range lower upper ws) ≡ stop ranges_full
  line_ranges_full h = let e = z.ranges_are in range_ranges_full r lower upper ws (omega arith)

  pub line_references_full : c.ranges < max_ranges → max_references < c.references + length ws → enter_bytes r (range lower upper ws) ≡ stop references_full
  line_references_full h g = let e = z.ranges_are in let f = z.references_are in range_references_full r lower upper ws (omega arith) (omega arith)

  pub line_no_name : c.ranges < max_ranges → c.references + length ws ≤ max_references → (k : ℕ) → intern ws r.names ≡ full_at k
      → enter_bytes r (range lower upper ws) ≡ stop k
  line_no_name h g k i = let e = z.ranges_are in let f = z.references_are in range_in_lem r lower upper ws (omega arith) (omega arith) (full_at k) i

  pub line_range : c.ranges < max_ranges → c.references + length ws ≤ max_references → (store slots ranges refs : List ℕ) (d : Counts)
      → AllIn r.names ws c m.references store slots refs d
      → (n : ℕ) → n ≡ length ws
      → ranges ≡ patch (range_slot_size * c.ranges) (slot_bytes (record { lower = lower; upper = upper; first = c.references; count = n })) m.ranges
      → Went (enter_bytes r (range lower upper ws))
      (record { store = store; slots = slots; definitions = m.definitions; ranges = ranges; references = refs })
      (record { categories = d.categories; definitions = d.definitions; ranges = c.ranges + 1; references = d.references; bytes = d.bytes })
  line_range h g store slots ranges refs d u n e p =
      let a = z.ranges_are in
      let b = z.references_are in
      let x = u.references_are in
      let y = u.definitions_stay in
      let f = z.definitions_few in
      let l : length (r.ranges ++ (new_range u.now_names lower upper ws ∷ [])) ≡ length r.ranges + 1
      = length-append r.ranges (new_range u.now_names lower upper ws ∷ []) in
      let k : length (numbers u.now_names ws) ≡ length ws = length-map ws (λ w. position_of same w u.now_names) in
      let s : references (r.ranges ++ (new_range u.now_names lower upper ws ∷ [])) ≡ references r.ranges + length (numbers u.now_names ws)
      = references_snoc r.ranges (new_range u.now_names lower upper ws) in
      record {
        after = record { names = u.now_names; definitions = r.definitions; ranges = r.ranges ++ (new_range u.now_names lower upper ws ∷ []) };
        goes = range_in_lem r lower upper ws (omega arith) (omega arith) (names_are u.now_names) u.entered;
        held = record {
          names = u.laid_now;
          definitions_few = omega arith;
          definitions_are = y ∙ z.definitions_are;
          in_definitions = z.in_definitions;
          ranges_few = omega arith;
          ranges_are = omega arith;
          in_ranges = p
              ∙ ap₂ (λ (v w : ℕ). patch (range_slot_size * c.ranges) (slot_bytes (record { lower = lower; upper = upper; first = v; count = w })) m.ranges) b (e ∙ sym k)
              ∙ ap₂ (λ (v : ℕ) (w : List ℕ). patch (range_slot_size * v) (slot_bytes (record { lower = lower; upper = upper; first = references r.ranges; count = length (numbers u.now_names ws) })) w) a z.in_ranges
              ∙ ranges_more r.ranges (new_range u.now_names lower upper ws) (range_slot_size * max_ranges) (omega arith);
          references_few = omega arith;
          references_are = omega arith;
          in_references = u.put
              ∙ ap₂ (λ (v : ℕ) (w : List ℕ). patch (reference_size * v) (joined (map (le reference_size) (numbers u.now_names ws))) w) b z.in_references
              ∙ references_more r.ranges (new_range u.now_names lower upper ws) (reference_size * max_references) (omega arith);
        };
      }
