-- Lookups of categories, over tables as built and over any others: "14 or 15, then 26". A refusal's place is 0.
-- Assumes nothing.
use Rattle.std.specs.Prelude.{ℕ, ◌+◌, ◌≡◌, Bool, false, not, cond, ◌&&◌, ◌||◌, List, [], ◌∷◌, map, T, leb, ltb, eqb, length, get_or, take, drop}
use Rattle.std.proofs.Math.Option.{Option, none, some}
use Rattle.paper.specs.Sizes.{bmp_size}
use Rattle.paper.specs.Refusals.{not_scalar, tables_apart}
use Rattle.paper.specs.Lists.{empty, offsets_from}
use Rattle.paper.specs.Text.Scalar.{is_scalar}
use Rattle.paper.specs.CharDef.Reading.{Reading}
use Rattle.paper.specs.Rows.Covering.{boundaries, rows}
use Rattle.paper.specs.Rows.Flat.{RowFound, entry_offset, entry_length, flat_index, flat_pool}
use Rattle.paper.specs.Rows.Build.{row_overlong}

-- what a lookup answers
pub data Looked (A : Type 0) : Type 0 where
  gives : A → Looked A
  refuses : ℕ → Looked A

-- ---- categories: "a part of the flat pool or of the row pool"

pub record LookupTables : Type 0 where
  pub index : List ℕ
  pub flat : List ℕ
  pub boundaries : List ℕ
  pub starts : List ℕ
  pub lengths : List ℕ
  pub pool : List ℕ

pub data Pool : Type 0 where
  of_flat : Pool
  of_rows : Pool

pub record Part : Type 0 where
  pub from : Pool
  pub start : ℕ
  pub len : ℕ

abbrev pub pool_of : LookupTables → Pool → List ℕ
pool_of t of_flat = t.flat
pool_of t of_rows = t.pool

unfoldable pub content : LookupTables → Part → List ℕ
content t p = take p.len (drop p.start (pool_of t p.from))

-- "the flat one for the BMP when the index isn't empty, otherwise the row one"
unfoldable pub uses_flat : LookupTables → ℕ → Bool
uses_flat t c = ltb c bmp_size && not (empty t.index)

abbrev pub flat_part : LookupTables → ℕ → Part
flat_part t c = record { from = of_flat; start = entry_offset (get_or t.index c 0); len = entry_length (get_or t.index c 0) }

abbrev pub row_part : LookupTables → ℕ → Part
row_part t i = record { from = of_rows; start = get_or t.starts i 0; len = get_or t.lengths i 0 }

-- "the index has neither 0 nor 65,536 entries"
unfoldable pub index_odd : LookupTables → Bool
index_odd t = not (empty t.index || eqb (length t.index) bmp_size)

-- "the boundary list it uses is empty or doesn't begin at 0"
abbrev pub from_zero : List ℕ → Bool
from_zero [] = false
from_zero (b ∷ bs) = eqb b 0

-- "the part found is missing"
unfoldable pub row_missing : LookupTables → ℕ → Bool
row_missing t i = leb (length t.starts) i || leb (length t.lengths) i

-- "or runs past its pool"
unfoldable pub past_pool : LookupTables → Part → Bool
past_pool t p = ltb (length (pool_of t p.from)) (p.start + p.len)

-- 26 "exactly when", with row i found
unfoldable pub apart : LookupTables → ℕ → ℕ → Bool
unfolding index_odd uses_flat row_missing past_pool
apart t c i =
    index_odd t
    || cond (uses_flat t c) (past_pool t (flat_part t c)) (not (from_zero t.boundaries) || row_missing t i || past_pool t (row_part t i))

unfoldable pub lookup : LookupTables → ℕ → ℕ → Looked Part
unfolding is_scalar apart uses_flat
lookup t c i =
    cond (is_scalar c)
    (cond (apart t c i) (refuses tables_apart) (gives (cond (uses_flat t c) (flat_part t c) (row_part t i))))
    (refuses not_scalar)

-- "only which row is found among boundaries out of order stays open"
pub record Looks (t : LookupTables) (c : ℕ) (a : Looked Part) : Type 0 where
  pub row : ℕ
  pub found : T (from_zero t.boundaries) → RowFound t.boundaries c row
  pub answer : a ≡ lookup t c row

-- a part is given, and it holds l
pub record GivesPart (t : LookupTables) (l : List ℕ) (a : Looked Part) : Type 0 where
  pub part : Part
  pub given : a ≡ gives part
  pub holds : content t part ≡ l

-- ---- the packed lookup: "beyond the BMP or with an empty index .. absent and not refused"

unfoldable pub packed_at : List ℕ → ℕ → Looked (Option ℕ)
unfolding is_scalar
packed_at index c =
    cond (is_scalar c)
    (cond (ltb c bmp_size && not (empty index))
    (cond (ltb c (length index)) (gives (some (get_or index c 0))) (refuses tables_apart))
    (gives none))
    (refuses not_scalar)

-- ---- tables as built

-- l is x, with perhaps more behind it in the lent room; the lengths of boundaries and index count, so these are lent as they are
abbrev pub StartsWith : List ℕ → List ℕ → Type 0
StartsWith l x = take (length x) l ≡ x

pub record RowsLeft (r : Reading) (t : LookupTables) : Type 0 where
  pub boundaries_are : t.boundaries ≡ boundaries r
  pub starts_are : StartsWith t.starts (offsets_from 0 (rows r))
  pub lengths_are : StartsWith t.lengths (map length (rows r))
  pub pool_is : StartsWith t.pool (flat_pool r)

pub record FlatLeft (r : Reading) (t : LookupTables) : Type 0 where
  pub row_fits : T (not (row_overlong r))
  pub index_is : t.index ≡ flat_index r
  pub pool_is : StartsWith t.flat (flat_pool r)

pub data AsBuilt (r : Reading) (t : LookupTables) : Type 0 where
  without_flat : RowsLeft r t → t.index ≡ [] → AsBuilt r t
  with_flat : RowsLeft r t → FlatLeft r t → AsBuilt r t
