-- Text, by computed statements: White_Space character by character as Unicode lists it, the separators of a category line, the edges of
-- scalar values, RFC 3629's examples and the edges of each length, and ill-formed bytes with their places.
-- Assumes nothing.
use Prim.Native.Nat.{ℕ, ◌≤◌}
use native.Mathlib.Nat.{le_trans}
use mathlib.Core.Path.{◌≡◌, refl}
use mathlib.Core.Logic.{◌⊎◌, inl, inr}
use mathlib.Core.Bool.{true, false}
use mathlib.Core.List.{List, [], ◌∷◌, map}
use lib.Dec.{T, leb}
use lib.ListN.{length, replicate}
use mir.Facts.{and_yes, or_yes, leb_yes}
use Rattle.paper.specs.Lists.{any, all, select}
use Rattle.paper.specs.Text.Scalar.{between, is_scalar, utf8, whites, is_white, is_sep}
use Rattle.paper.specs.Computed.Decode.{broken, chars, decode}

-- ---- White_Space

-- the 25 characters with the property White_Space in PropList.txt
abbrev pub unicode_white : List ℕ
unicode_white =
    0x0009 ∷ 0x000A ∷ 0x000B ∷ 0x000C ∷ 0x000D ∷ 0x0020 ∷ 0x0085 ∷ 0x00A0 ∷ 0x1680 ∷ 0x2000 ∷ 0x2001 ∷ 0x2002 ∷ 0x2003 ∷ 0x2004 ∷ 0x2005
    ∷ 0x2006 ∷ 0x2007 ∷ 0x2008 ∷ 0x2009 ∷ 0x200A ∷ 0x2028 ∷ 0x2029 ∷ 0x202F ∷ 0x205F ∷ 0x3000 ∷ []

pub count_white : length unicode_white ≡ 25
count_white = refl

-- these are white; the neighbours of each run and of each one alone are not (`examples`, White: no other up to 3001 hex)
pub white_ones : map is_white unicode_white ≡ replicate 25 true
unfolding is_white
white_ones = refl

pub white_edges :
    map is_white (0x08 ∷ 0x0E ∷ 0x1F ∷ 0x21 ∷ 0x84 ∷ 0x86 ∷ 0x9F ∷ 0xA1 ∷ 0x167F ∷ 0x1681 ∷ 0x1FFF ∷ 0x200B ∷ 0x2027 ∷ 0x202A ∷ 0x202E ∷ 0x2030 ∷ 0x205E ∷ 0x2060 ∷ 0x2FFF ∷ 0x3001 ∷ [])
    ≡ replicate 20 false
unfolding is_white
white_edges = refl

-- past 3000 nothing is
pub white_low : (c : ℕ) → T (is_white c) → c ≤ 0x3000
unfolding is_white
white_low c t = go whites tt t
  where
    go : (runs : List (ℕ × ℕ)) → T (all (λ r. leb r.1 0x3000) runs) → T (any (λ r. between r.0 r.1 c) runs) → c ≤ 0x3000
    go [] a t = absurd t
    go (run ∷ runs) a t = either (or_yes (between run.0 run.1 c) (any (λ r. between r.0 r.1 c) runs) t) (go runs h.1)
      where
        h : T (leb run.1 0x3000) × T (all (λ r. leb r.1 0x3000) runs)
        h = and_yes (leb run.1 0x3000) (all (λ r. leb r.1 0x3000) runs) a

        either : T (between run.0 run.1 c) ⊎ T (any (λ r. between r.0 r.1 c) runs) → (T (any (λ r. between r.0 r.1 c) runs) → c ≤ 0x3000) → c ≤ 0x3000
        either (inl b) ih = le_trans (leb_yes (and_yes (leb run.0 c) (leb c run.1) b).1) (leb_yes h.0)
        either (inr b) ih = ih b

-- Mongolian vowel separator, zero width space, and the mark
pub not_white : map is_white (0x180E ∷ 0x200B ∷ 0xFEFF ∷ []) ≡ false ∷ false ∷ false ∷ []
unfolding is_white
not_white = refl

-- TAB, FF, CR and space; VT is none, nor LF
pub separators : select is_sep unicode_white ≡ 0x09 ∷ 0x0C ∷ 0x0D ∷ 0x20 ∷ []
unfolding is_sep
separators = refl

-- ---- scalar values

pub scalar_edges : map is_scalar (0 ∷ 0xD7FF ∷ 0xD800 ∷ 0xDFFF ∷ 0xE000 ∷ 0xFEFF ∷ 0xFFFE ∷ 0x10FFFF ∷ 0x110000 ∷ []) ≡ true ∷ true ∷ false ∷ false ∷ true ∷ true ∷ true ∷ true ∷ false ∷ []
unfolding is_scalar
scalar_edges = refl

-- ---- UTF-8

-- characters and their bytes
unfoldable pub coded : List (List ℕ × List ℕ)
coded =
    -- RFC 3629, section 7: A, not identical to, Alpha, full stop
    (0x0041 ∷ 0x2262 ∷ 0x0391 ∷ 0x002E ∷ [], 0x41 ∷ 0xE2 ∷ 0x89 ∷ 0xA2 ∷ 0xCE ∷ 0x91 ∷ 0x2E ∷ [])
    -- hangugeo
    ∷ (0xD55C ∷ 0xAD6D ∷ 0xC5B4 ∷ [], 0xED ∷ 0x95 ∷ 0x9C ∷ 0xEA ∷ 0xB5 ∷ 0xAD ∷ 0xEC ∷ 0x96 ∷ 0xB4 ∷ [])
    -- nihongo
    ∷ (0x65E5 ∷ 0x672C ∷ 0x8A9E ∷ [], 0xE6 ∷ 0x97 ∷ 0xA5 ∷ 0xE6 ∷ 0x9C ∷ 0xAC ∷ 0xE8 ∷ 0xAA ∷ 0x9E ∷ [])
    -- the mark, and the stump of a tree
    ∷ (0xFEFF ∷ 0x233B4 ∷ [], 0xEF ∷ 0xBB ∷ 0xBF ∷ 0xF0 ∷ 0xA3 ∷ 0x8E ∷ 0xB4 ∷ [])
    -- the edges of each length, and of the surrogates
    ∷ ([], [])
    ∷ (0x00 ∷ 0x7F ∷ [], 0x00 ∷ 0x7F ∷ [])
    ∷ (0x80 ∷ 0x7FF ∷ [], 0xC2 ∷ 0x80 ∷ 0xDF ∷ 0xBF ∷ [])
    ∷ (0x800 ∷ 0xFFFF ∷ [], 0xE0 ∷ 0xA0 ∷ 0x80 ∷ 0xEF ∷ 0xBF ∷ 0xBF ∷ [])
    ∷ (0xD7FF ∷ 0xE000 ∷ [], 0xED ∷ 0x9F ∷ 0xBF ∷ 0xEE ∷ 0x80 ∷ 0x80 ∷ [])
    ∷ (0x10000 ∷ 0x10FFFF ∷ [], 0xF0 ∷ 0x90 ∷ 0x80 ∷ 0x80 ∷ 0xF4 ∷ 0x8F ∷ 0xBF ∷ 0xBF ∷ [])
    ∷ []

pub encodes : map (λ e. utf8 e.0) coded ≡ map (λ e. e.1) coded
unfolding utf8 coded
encodes = refl

pub decodes : map (λ e. decode e.1) coded ≡ map (λ e. chars e.0) coded
unfolding decode coded
decodes = refl

-- ill-formed bytes, and the length of their longest well-formed prefix
unfoldable pub spoilt : List (List ℕ × ℕ)
spoilt =
    -- a tail byte alone, behind a character too
    (0x80 ∷ [], 0)
    ∷ (0xBF ∷ [], 0)
    ∷ (0x41 ∷ 0xC2 ∷ 0x80 ∷ 0x80 ∷ [], 3)
    -- bytes that never occur
    ∷ (0xC0 ∷ 0x80 ∷ [], 0)
    ∷ (0xC1 ∷ 0xBF ∷ [], 0)
    ∷ (0xF5 ∷ 0x80 ∷ 0x80 ∷ 0x80 ∷ [], 0)
    ∷ (0x41 ∷ 0xFF ∷ [], 1)
    -- longer than need be
    ∷ (0xE0 ∷ 0x9F ∷ 0xBF ∷ [], 0)
    ∷ (0xF0 ∷ 0x8F ∷ 0xBF ∷ 0xBF ∷ [], 0)
    -- surrogates, the first and the last, and RFC 3629's pair
    ∷ (0x41 ∷ 0xED ∷ 0xA0 ∷ 0x80 ∷ [], 1)
    ∷ (0xED ∷ 0xBF ∷ 0xBF ∷ [], 0)
    ∷ (0xED ∷ 0xA1 ∷ 0x8C ∷ 0xED ∷ 0xBE ∷ 0xB4 ∷ [], 0)
    -- past 10FFFF
    ∷ (0xF4 ∷ 0x90 ∷ 0x80 ∷ 0x80 ∷ [], 0)
    -- cut, and cut by another character
    ∷ (0x41 ∷ 0xC2 ∷ [], 1)
    ∷ (0xE3 ∷ 0x81 ∷ 0x82 ∷ 0xE3 ∷ 0x81 ∷ [], 3)
    ∷ (0xF0 ∷ 0xA3 ∷ 0x8E ∷ [], 0)
    ∷ (0xE3 ∷ 0x81 ∷ 0x41 ∷ [], 0)
    ∷ (0xC2 ∷ 0x41 ∷ [], 0)
    ∷ []

pub refuses : map (λ e. decode e.0) spoilt ≡ map (λ e. broken e.1) spoilt
unfolding decode spoilt
refuses = refl
