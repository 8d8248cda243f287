-- The lookup of categories over any lent tables: the paper's answer for each case of the enum, and what the part that is returned holds, "empty
-- where the lookup refuses".
-- Assumes nothing.
use Rattle.std.specs.Prelude.{ℕ, ◌≡◌, List, [], take, drop}
use Rattle.paper.specs.Rows.Lookup.{Looked, gives, refuses, LookupTables, Pool, of_flat, of_rows, Part, content, Looks}
use Rattle.packed.specs.declared.Span.{Span}
use Rattle.lookup.specs.declared.Located.{Located}
use Rattle.lookup.specs.declared.Located.TheVariants.{InFlat, InRows}
use Rattle.std.specs.Prelude.{Err, Ok, Result}
use Rattle.paper.specs.declared.Refusal.{Refusal}

-- ---- where the categories of a code point stand

abbrev pub in_pool : Pool → Span → Result Located Refusal
in_pool of_flat s = Ok (InFlat s)
in_pool of_rows s = Ok (InRows s)

abbrev pub located : Looked Part → Result Located Refusal
located (gives p) = in_pool p.from (record { start = p.start; len = p.len })
located (refuses n) = Err (record { number = n; place = 0 })

pub record Locates (t : LookupTables) (c : ℕ) (r : Result Located Refusal) : Type 0 where
  pub looked : Looked Part
  pub looks : Looks t c looked
  pub answer : r ≡ located looked

-- what stands there
abbrev pub placed : LookupTables → Result Located Refusal → List ℕ
placed t (Ok (InFlat s)) = take s.len (drop s.start t.flat)
placed t (Ok (InRows s)) = take s.len (drop s.start t.pool)
placed t (Err e) = []

-- ---- the part itself

abbrev pub held : LookupTables → Looked Part → List ℕ
held t (gives p) = content t p
held t (refuses n) = []

pub record PartIs (t : LookupTables) (c : ℕ) (part : List ℕ) : Type 0 where
  pub looked : Looked Part
  pub looks : Looks t c looked
  pub holds : part ≡ held t looked
