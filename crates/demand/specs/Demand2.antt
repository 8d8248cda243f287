-- DEMAND 2, its lookups. "A lookup at any scalar value is proved to give the covering ranges' distinct categories in first-seen order; with none, DEFAULT
-- if that name is interned, else an empty row."
-- `categories_at` of paper specs/Rows/Covering is that sentence. The tables are those that the builders leave of a reading's.
-- Assumes nothing.
use Rattle.std.specs.Prelude.{ℕ, ◌<◌, ◌≤◌, ◌≡◌, not, List, [], T, length, get_or, take, drop, Err, Ok, Result, Some}
use Rattle.paper.specs.Sizes.{bmp_size}
use Rattle.paper.specs.Refusals.{not_scalar, number_unknown}
use Rattle.paper.specs.Text.Scalar.{is_scalar, IsScalar}
use Rattle.paper.specs.CharDef.Reading.{Reading}
use Rattle.paper.specs.Rows.Covering.{categories_at}
use Rattle.paper.specs.Rows.Lookup.{LookupTables, packed_at}
use Rattle.paper.specs.Rows.Numbers.{definition_at, lookup_definition, category_name}
use Rattle.paper.specs.Tables.Layout.{Tables}
use Rattle.paper.specs.declared.Counts.{Counts}
use Rattle.paper.specs.declared.Refusal.{Refusal}
use Rattle.fill_rows.specs.Walked.{RowRoom}
use Rattle.row.specs.Built.{BuildsRows}
use Rattle.fill_flat.specs.Walked.{FlatRoom}
use Rattle.flat.specs.Built.{BuildsFlat}
use Rattle.row.specs.declared.RowCounts.{RowCounts}
use Rattle.packed.specs.Entries.{packed}
use Rattle.packed.specs.declared.Packed.{Packed}
use Rattle.numbered.specs.Numbers.{definition, name, name_held}
use Rattle.lookup.specs.Categories.{Locates, PartIs}
use Rattle.lookup.specs.declared.Located.{Located}

-- the builders ran over a reading's tables and their counts, and built: rows, and perhaps a flat table
pub data FlatToo (t : Tables) (n : Counts) : Type 0 where
  no_flat : FlatToo t n
  with_flat : (lent left : FlatRoom) (places : ℕ) → BuildsFlat t n lent left (Ok places) → FlatToo t n

pub record BuiltOver (t : Tables) (n : Counts) : Type 0 where
  pub rows_lent : RowRoom
  pub rows_left : RowRoom
  pub rows : RowCounts
  pub rows_built : BuildsRows t n rows_lent rows_left (Ok rows)
  pub flat : FlatToo t n

-- as they are lent to lookups: as many boundaries as there are rows, and an index of 65,536 entries or none; what lies behind the rest may be lent too
abbrev pub index_of : {t : Tables} {n : Counts} → FlatToo t n → List ℕ
index_of no_flat = []
index_of (with_flat lent left places b) = take bmp_size left.index

abbrev pub flat_of : {t : Tables} {n : Counts} → FlatToo t n → List ℕ
flat_of no_flat = []
flat_of (with_flat lent left places b) = left.pool

abbrev pub lookup_tables : {t : Tables} {n : Counts} → BuiltOver t n → LookupTables
lookup_tables b =
    record {
      index = index_of b.flat;
      flat = flat_of b.flat;
      boundaries = take b.rows.rows b.rows_left.boundaries;
      starts = b.rows_left.starts;
      lengths = b.rows_left.lengths;
      pool = b.rows_left.pool;
    }

-- lookups over tables of a reading
pub record LooksUp (q : Reading) (t : LookupTables) : Type 0 where
  -- the part that `lookup_categories` returns, at every scalar value
  pub categories : (c : ℕ) → IsScalar c → (part : List ℕ) → PartIs t c part → part ≡ categories_at q c
  -- `locate_categories` never refuses there, so never by 26; and 14 is given where c is no scalar value
  pub never_refused : (c : ℕ) → IsScalar c → (x : Result Located Refusal) → Locates t c x → (e : Refusal) → x ≡ Err e → ⊥
  pub no_scalar : (c : ℕ) → T (not (is_scalar c)) → (x : Result Located Refusal) → Locates t c x → x ≡ Err (record { number = not_scalar; place = 0 })
  -- the packed entry addresses the same categories in the flat pool
  pub packed_same : (c : ℕ) → IsScalar c → (p : Packed) → packed (packed_at t.index c) ≡ Ok (Some p)
      → take p.len (drop p.offset t.flat) ≡ categories_at q c

-- names and definitions by number, over a reading's tables and their counts
pub record FindsByNumber (q : Reading) (t : Tables) (n : Counts) : Type 0 where
  -- `category_name` returns the name with that number; `locate_name` refuses by 15 exactly where there is none
  pub name_is_held : (k : ℕ) → name_held t.names (category_name t.names t.categories n.categories k) ≡ get_or q.names k []
  pub name_unknown : (k : ℕ) → length q.names ≤ k
      → name (category_name t.names t.categories n.categories k) ≡ Err (record { number = number_unknown; place = 0 })
  pub name_known : (k : ℕ) → k < length q.names → (e : Refusal)
      → name (category_name t.names t.categories n.categories k) ≡ Err e → ⊥
  -- `lookup_definition` answers what the k-th category line says, or 15
  pub defined : (k : ℕ) → definition (lookup_definition t.definitions n.definitions k) ≡ definition (definition_at q k)
