-- The rules of a pack, computed. `Pack.Rules` of the proofs shows that the test decides them.
-- Assumes nothing.
use Rattle.std.specs.Prelude.{ℕ, Bool, true, false, ◌&&◌, List, [], ◌∷◌, leb, length}
use Rattle.paper.specs.Sizes.{max_categories, max_name_bytes, max_category_lines, max_ranges, max_references}
use Rattle.paper.specs.Lists.{all}
use Rattle.paper.specs.CharDef.Reading.{Reading, name_bytes, references}
use Rattle.paper.specs.Pack.Rules.{numbered, has_bytes, once, bounded, sized}
use Rattle.paper.specs.Computed.Decode.{Text, broken, chars, decode}

-- ---- the tests

abbrev pub is_text : Text → Bool
is_text (broken at) = false
is_text (chars cs) = true

-- well-formed UTF-8
unfoldable pub formed : List ℕ → Bool
unfolding decode
formed s = is_text (decode s)

-- all of these
abbrev pub every : List Bool → Bool
every [] = true
every (b ∷ bs) = b && every bs

unfoldable pub within : Reading → Bool
unfolding name_bytes references
within r =
    every
    (leb (length r.names) max_categories
    ∷ leb (name_bytes r.names) max_name_bytes
    ∷ leb (length r.definitions) max_category_lines
    ∷ leb (length r.ranges) max_ranges
    ∷ leb (references r.ranges) max_references
    ∷ [])

-- a reading keeps every rule of a pack
unfoldable pub keeps_rules : Reading → Bool
unfolding within formed bounded numbered
keeps_rules r =
    every
    (within r
    ∷ all has_bytes r.names
    ∷ all formed r.names
    ∷ once r.names
    ∷ all sized r.definitions
    ∷ all bounded r.ranges
    ∷ numbered r
    ∷ [])
