-- Readings that keep the rules of a pack, and readings that break one each: every rule on names, bounds, numbers and lengths (`examples` has the
-- limits). One statement over one table, proved by computation.
-- Assumes nothing.
use Prim.Native.Nat.{ℕ}
use mathlib.Core.Path.{◌≡◌, refl}
use mathlib.Core.Bool.{Bool, true, false}
use mathlib.Core.List.{List, [], ◌∷◌, map}
use Rattle.paper.specs.CharDef.Reading.{Definition, Range, Reading}
use Rattle.paper.specs.Computed.Rules.{keeps_rules}

pub record RulesExample : Type 0 where
  pub reading : Reading
  pub keeps : Bool

-- with only names, only a definition's length, only ranges, or one range without categories
abbrev pub named : List (List ℕ) → Bool → RulesExample
named ns b = record { reading = record { names = ns; definitions = []; ranges = [] }; keeps = b }

abbrev pub defined : List Definition → Bool → RulesExample
defined ds b = record { reading = record { names = []; definitions = ds; ranges = [] }; keeps = b }

abbrev pub ranged : List (List ℕ) → List Range → Bool → RulesExample
ranged ns gs b = record { reading = record { names = ns; definitions = []; ranges = gs }; keeps = b }

abbrev pub bounds : ℕ → ℕ → Bool → RulesExample
bounds l u b = ranged [] (record { lower = l; upper = u; categories = [] } ∷ []) b

abbrev pub long : ℕ → Definition
long n = record { invoke = true; group = false; len = n }

abbrev pub refers : List ℕ → Range
refers cs = record { lower = 0x41; upper = 0x43; categories = cs }

unfoldable pub readings : List RulesExample
readings =
    -- nothing, and a reading with everything
    named [] true
    ∷ record { reading = record { names = ((0x41 ∷ []) ∷ (0xE3 ∷ 0x81 ∷ 0x82 ∷ []) ∷ []); definitions = (long 2 ∷ []); ranges = (refers (1 ∷ 0 ∷ 1 ∷ []) ∷ []) }; keeps = true }
    -- a name has bytes, well-formed ones, and stands once; what is ASCII space or LF is no matter
    ∷ named ([] ∷ []) false
    ∷ named ((0x41 ∷ []) ∷ [] ∷ []) false
    ∷ named ((0x20 ∷ []) ∷ (0x0A ∷ []) ∷ []) true
    ∷ named ((0x80 ∷ []) ∷ []) false
    ∷ named ((0xC3 ∷ []) ∷ []) false
    ∷ named ((0xED ∷ 0x9F ∷ 0xBF ∷ []) ∷ []) true
    ∷ named ((0xED ∷ 0xA0 ∷ 0x80 ∷ []) ∷ []) false
    ∷ named ((0x41 ∷ []) ∷ (0x42 ∷ []) ∷ (0x41 ∷ []) ∷ []) false
    ∷ named ((0x41 ∷ []) ∷ (0x41 ∷ 0x41 ∷ []) ∷ []) true
    -- a definition's length has 32 bits
    ∷ defined (long 4294967295 ∷ []) true
    ∷ defined (long 4294967296 ∷ []) false
    -- bounds, each judged by itself; a range may be inverted
    ∷ bounds 0 0xFFFF true
    ∷ bounds 0xFFFF 0 true
    ∷ bounds 0 0x1_0000 false
    ∷ bounds 0x1_0000 0 false
    ∷ bounds 0xD7FF 0xE000 true
    ∷ bounds 0xD800 0xE000 false
    ∷ bounds 0xDC00 0xE000 false
    ∷ bounds 0xDFFF 0xE000 false
    ∷ bounds 0xD7FF 0xD800 false
    ∷ bounds 0xD7FF 0xDC00 false
    ∷ bounds 0xD7FF 0xDFFF false
    ∷ bounds 0xFEFE 0xFF00 true
    ∷ bounds 0xFEFF 0xFF00 false
    ∷ bounds 0xFEFE 0xFEFF false
    ∷ bounds 0xFFFD 0xFFFF true
    ∷ bounds 0xFFFE 0xFFFF false
    ∷ bounds 0xFFFD 0xFFFE false
    -- a category number is known
    ∷ ranged [] (refers (0 ∷ []) ∷ []) false
    ∷ ranged ((0x41 ∷ []) ∷ []) (refers (0 ∷ []) ∷ []) true
    ∷ ranged ((0x41 ∷ []) ∷ []) (refers (1 ∷ []) ∷ []) false
    ∷ ranged ((0x41 ∷ []) ∷ []) (refers (0 ∷ []) ∷ refers (0 ∷ 1 ∷ []) ∷ []) false
    ∷ []

pub readings_keep : map (λ e. keeps_rules e.reading) readings ≡ map (λ e. e.keeps) readings
unfolding readings keeps_rules
readings_keep = refl
