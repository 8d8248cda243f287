-- "The pack", its rules: what a reading keeps so that it has a pack. Refusal 26 is given exactly when tables break one.
-- Assumes nothing.
use Rattle.std.specs.Prelude.{ℕ, ◌+◌, Bool, true, not, ◌&&◌, List, [], ◌∷◌, T, leb, ltb, eqb, length}
use Rattle.paper.specs.Sizes.{max_u16, max_u32}
use Rattle.paper.specs.Lists.{all, any, same, empty}
use Rattle.paper.specs.Text.Scalar.{WellFormed, is_surrogate, byte_order_mark, swapped_mark}
use Rattle.paper.specs.CharDef.Reading.{Definition, Range, Reading, Within}

-- every category number is known
unfoldable pub numbered : Reading → Bool
numbered r = all (λ g. all (λ c. ltb c (length r.names)) g.categories) r.ranges

abbrev pub has_bytes : List ℕ → Bool
has_bytes n = not (empty n)

-- no name equals one before it: `before` holds those passed already
abbrev pub once_after : List (List ℕ) → List (List ℕ) → Bool
once_after before [] = true
once_after before (n ∷ ns) = not (any (same n) before) && once_after (n ∷ before) ns

-- no name twice
abbrev pub once : List (List ℕ) → Bool
once ns = once_after [] ns

-- a bound has 16 bits and is not D800 to DFFF, FEFF or FFFE
unfoldable pub is_bound : ℕ → Bool
is_bound c = leb c max_u16 && not (is_surrogate c) && not (eqb c byte_order_mark) && not (eqb c swapped_mark)

unfoldable pub bounded : Range → Bool
unfolding is_bound
bounded g = is_bound g.lower && is_bound g.upper

-- a definition's length has 32 bits
abbrev pub sized : Definition → Bool
sized d = ltb d.len (max_u32 + 1)

-- ---- the rules

abbrev pub Each : {A : Type 0} → (A → Type 0) → List A → Type 0
Each P [] = Unit {0}
Each P (x ∷ xs) = P x × Each P xs

pub record PackRules (r : Reading) : Type 0 where
  -- all limits
  pub limits : Within r
  -- each name: length at least 1, well-formed UTF-8, no name twice
  pub names_some : T (all has_bytes r.names)
  pub names_formed : Each WellFormed r.names
  pub names_once : T (once r.names)
  -- each definition's length has 32 bits
  pub lengths : T (all sized r.definitions)
  -- bounds of 16 bits, not D800 to DFFF, FEFF or FFFE
  pub bounds : T (all bounded r.ranges)
  -- category numbers known
  pub known : T (numbered r)
