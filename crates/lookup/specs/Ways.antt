-- The two ways of a lookup, by the flat table and by rows: what the private functions promise. Nobody has to believe it: the public promises
-- are the paper's.
-- Assumes nothing.
use Rattle.std.specs.Prelude.{ℕ, ◌+◌, ◌≡◌, cond, ◌||◌, List, T, leb, ltb, length, get_or}
use Rattle.paper.specs.Refusals.{tables_apart}
use Rattle.paper.specs.Rows.Flat.{RowFound, entry_offset, entry_length}
use Rattle.paper.specs.Rows.Lookup.{Looked, gives, refuses, of_flat, of_rows, Part, from_zero}
use Rattle.lookup.specs.declared.Located.{Located}
use Rattle.lookup.specs.Categories.{located}
use Rattle.std.specs.Prelude.{Result}
use Rattle.paper.specs.declared.Refusal.{Refusal}

-- a part of a pool that has so many places, or 26
unfoldable pub within : ℕ → Part → Looked Part
within places p = cond (ltb places (p.start + p.len)) (refuses tables_apart) (gives p)

unfoldable pub by_flat : (entry places : ℕ) → Looked Part
unfolding within
by_flat entry places = within places (record { from = of_flat; start = entry_offset entry; len = entry_length entry })

-- row i
unfoldable pub of_row : (starts lengths : List ℕ) → (places i : ℕ) → Looked Part
unfolding within
of_row starts lengths places i =
    cond (leb (length starts) i || leb (length lengths) i) (refuses tables_apart)
    (within places (record { from = of_rows; start = get_or starts i 0; len = get_or lengths i 0 }))

-- by rows, with row i found
unfoldable pub by_row : (boundaries starts lengths : List ℕ) → (places i : ℕ) → Looked Part
unfolding of_row
by_row bs starts lengths places i = cond (from_zero bs) (of_row starts lengths places i) (refuses tables_apart)

pub record ByRows (boundaries starts lengths : List ℕ) (places c : ℕ) (r : Result Located Refusal) : Type 0 where
  pub row : ℕ
  pub found : T (from_zero boundaries) → RowFound boundaries c row
  pub answer : r ≡ located (by_row boundaries starts lengths places row)
