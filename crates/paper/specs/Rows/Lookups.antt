-- Demand 2 over a reading, gathered: at every scalar value a lookup over tables as built answers the covering ranges' distinct categories in
-- first-seen order, by rows and by the flat table; all of it fits its tables; names and numbers come back.
-- Assumes nothing.
use Rattle.std.specs.Prelude.{ℕ, ◌<◌, ◌≤◌, ◌≡◌, not, ◌&&◌, List, [], map, T, ltb, eqb, length, get_or}
use Rattle.std.proofs.Math.Option.{some}
use Rattle.paper.specs.Sizes.{max_rows, max_row_places, max_u32, bmp_size}
use Rattle.paper.specs.Refusals.{not_scalar}
use Rattle.paper.specs.Lists.{any, empty, sum, position_of, distinct}
use Rattle.paper.specs.Text.Scalar.{IsScalar, first_surrogate, last_surrogate, last_scalar}
use Rattle.paper.specs.CharDef.Reading.{Reading}
use Rattle.paper.specs.Rows.Covering.{Boundaries, boundaries, range_holds, covers, named, defaults, categories_at, rows}
use Rattle.paper.specs.Rows.Flat.{eval_row, entry_offset, entry_length, max_offset, flat_entry, entry_part, short_rows, flat_pool}
use Rattle.paper.specs.Rows.Lookup.{Looked, gives, refuses, LookupTables, Part, of_flat, Looks, packed_at, FlatLeft, AsBuilt, GivesPart}
use Rattle.paper.specs.Rows.Numbers.{lowest_named, find_name, definition_at, name_at, lookup_definition, category_name, name_of}
use Rattle.paper.specs.Rows.Build.{ExactNeeds}
use Rattle.paper.specs.Tables.Layout.{Tables}
use Rattle.paper.specs.Tables.HandedIn.{HoldTogether}
use Rattle.paper.specs.declared.Counts.{Counts}

pub record Lookups (r : Reading) : Type 0 where
  -- boundaries and rows
  pub bounded : Boundaries r (boundaries r)
  pub a_row_each : length (rows r) ≡ length (boundaries r)
  pub rows_few : length (rows r) ≤ max_rows
  pub places_few : sum (map length (rows r)) ≤ max_row_places
  -- what 17 asks for is what is filled
  pub needs : ExactNeeds r
  -- at every number, by rows and by flat entries
  pub by_row : (c : ℕ) → eval_row (boundaries r) (rows r) c ≡ categories_at r c
  pub by_entry : (c : ℕ) → T (short_rows (rows r)) → entry_part (flat_entry r c) (flat_pool r) ≡ categories_at r c
  pub offset_fits : (c : ℕ) → T (short_rows (rows r)) → entry_offset (flat_entry r c) ≤ max_offset
  pub entry_fits : (c : ℕ) → T (short_rows (rows r)) → flat_entry r c ≤ max_u32
  -- the covering rule: distinct categories of the ranges that hold c, in first-seen order; with none, DEFAULT if it is interned
  pub distinct_row : (c : ℕ) → T (distinct (categories_at r c))
  pub exactly : (c x : ℕ) → any (eqb x) (named r c) ≡ any (λ g. range_holds c g && any (eqb x) g.categories) r.ranges
  pub first_seen : (c x y : ℕ)
      → ltb (position_of eqb x (named r c)) (position_of eqb y (named r c)) ≡ ltb (position_of eqb x (covers r c)) (position_of eqb y (covers r c))
  pub with_some : (c : ℕ) → T (any (λ g. range_holds c g && not (empty g.categories)) r.ranges) → categories_at r c ≡ named r c
  pub with_none : (c : ℕ) → T (not (any (λ g. range_holds c g && not (empty g.categories)) r.ranges)) → categories_at r c ≡ defaults r
  -- over any tables a lookup has an answer
  pub answer : (t : LookupTables) (c : ℕ) → (a : Looked Part) × Looks t c a
  -- over tables as built: one answer, at a scalar value the part that holds the covering rule, at any other number 14
  pub answers : (t : LookupTables) (c : ℕ) (a : Looked Part) → AsBuilt r t → IsScalar c → Looks t c a → GivesPart t (categories_at r c) a
  pub one_answer : (t : LookupTables) (c : ℕ) (a b : Looked Part) → AsBuilt r t → Looks t c a → Looks t c b → a ≡ b
  pub no_surrogate : (t : LookupTables) (c : ℕ) (a : Looked Part) → first_surrogate ≤ c → c ≤ last_surrogate → Looks t c a → a ≡ refuses not_scalar
  pub nothing_beyond : (t : LookupTables) (c : ℕ) (a : Looked Part) → last_scalar < c → Looks t c a → a ≡ refuses not_scalar
  -- the packed entry, and that it addresses the part which the lookup answers
  pub packed : (t : LookupTables) (c : ℕ) → FlatLeft r t → IsScalar c → c < bmp_size → packed_at t.index c ≡ gives (some (flat_entry r c))
  pub packed_part : (t : LookupTables) (c e : ℕ) (p : Part) → packed_at t.index c ≡ gives (some e) → Looks t c (gives p)
      → p ≡ record { from = of_flat; start = entry_offset e; len = entry_length e }
  -- names and numbers, over tables in which the reading stands
  pub finds : (t : Tables) (n : Counts) (name : List ℕ) → HoldTogether t n r
      → find_name t.names t.categories n.categories name ≡ gives (lowest_named name r.names)
  pub finds_back : (t : Tables) (n : Counts) (k : ℕ) → HoldTogether t n r → k < length r.names
      → find_name t.names t.categories n.categories (get_or r.names k []) ≡ gives (some k)
  pub names : (t : Tables) (n : Counts) (k : ℕ) → HoldTogether t n r
      → name_of t.names (category_name t.names t.categories n.categories k) ≡ name_at r k
  pub defines : (t : Tables) (n : Counts) (k : ℕ) → HoldTogether t n r → lookup_definition t.definitions n.definitions k ≡ definition_at r k
