-- "Rows", sentence by sentence: the boundaries of a reading, the covering rule at a code point, and the rows.
-- Assumes nothing.
use Rattle.std.specs.Prelude.{ℕ, ◌+◌, ◌≡◌, Bool, true, cond, ◌&&◌, ◌||◌, List, [], ◌∷◌, map, T, leb, ltb, eqb}
use Rattle.paper.specs.Lists.{any, select, joined, first_seen, position_of, same}
use Rattle.paper.specs.CharDef.Reading.{Range, Reading}

-- ---- "the boundaries are 0 and each range's lower and upper + 1, ascending without repeats"

unfoldable pub is_boundary : Reading → ℕ → Bool
is_boundary r b = eqb b 0 || any (λ g. eqb b g.lower || eqb b (g.upper + 1)) r.ranges

abbrev pub rising : List ℕ → Bool
rising [] = true
rising (a ∷ []) = true
rising (a ∷ b ∷ bs) = ltb a b && rising (b ∷ bs)

pub record Boundaries (r : Reading) (bs : List ℕ) : Type 0 where
  pub members : (b : ℕ) → any (eqb b) bs ≡ is_boundary r b
  pub ascending : T (rising bs)

-- the list itself: `Rows.Boundaries` of the proofs shows that it is the one list of boundaries
abbrev pub insert : ℕ → List ℕ → List ℕ
insert n [] = n ∷ []
insert n (m ∷ ms) = let r = m ∷ insert n ms in cond (ltb n m) (n ∷ m ∷ ms) (cond (eqb n m) (m ∷ ms) r)

abbrev pub ascending : List ℕ → List ℕ
ascending [] = []
ascending (n ∷ ns) = insert n (ascending ns)

unfoldable pub boundaries : Reading → List ℕ
boundaries r = ascending (0 ∷ joined (map (λ g. g.lower ∷ (g.upper + 1) ∷ []) r.ranges))

-- ---- "the distinct categories of the ranges that hold it, by line and then left to right"

-- a range holds its bounds and what is between them
abbrev pub range_holds : ℕ → Range → Bool
range_holds c r = leb r.lower c && leb c r.upper

abbrev pub covers : Reading → ℕ → List ℕ
covers r c = joined (map (λ g. g.categories) (select (range_holds c) r.ranges))

unfoldable pub named : Reading → ℕ → List ℕ
named r c = first_seen eqb (covers r c)

-- ---- "where those name none, DEFAULT if interned, else empty"

-- DEFAULT, as bytes
abbrev pub default : List ℕ
default = 0x44 ∷ 0x45 ∷ 0x46 ∷ 0x41 ∷ 0x55 ∷ 0x4C ∷ 0x54 ∷ []

unfoldable pub defaults : Reading → List ℕ
defaults r = cond (any (same default) r.names) (position_of same default r.names ∷ []) []

abbrev pub or_else : List ℕ → List ℕ → List ℕ
or_else [] ys = ys
or_else (x ∷ xs) ys = x ∷ xs

-- the covering rule, "defined at every code point, surrogates too"
unfoldable pub categories_at : Reading → ℕ → List ℕ
unfolding named defaults
categories_at r c = or_else (named r c) (defaults r)

-- ---- "a row is the covering rule at its boundary"

unfoldable pub rows : Reading → List (List ℕ)
unfolding boundaries categories_at
rows r = map (categories_at r) (boundaries r)
