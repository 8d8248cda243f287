-- RFC 3629's own examples (section 7), computed: the last begins with U+FEFF, which is a character like any other and no White_Space.
-- Assumes nothing.
use Prim.Native.Nat.{ℕ}
use mathlib.Core.Path.{◌≡◌, refl}
use mathlib.Core.List.{List, [], ◌∷◌, map}
use Rattle.paper.specs.Computed.Decode.{chars, decode}
use Rattle.text.specs.Answers.{white_width}

-- bytes and their characters
abbrev examples : List (List ℕ × List ℕ)
examples =
    ((0x41 ∷ 0xE2 ∷ 0x89 ∷ 0xA2 ∷ 0xCE ∷ 0x91 ∷ 0x2E ∷ []), (0x0041 ∷ 0x2262 ∷ 0x0391 ∷ 0x002E ∷ []))
    ∷ ((0xED ∷ 0x95 ∷ 0x9C ∷ 0xEA ∷ 0xB5 ∷ 0xAD ∷ 0xEC ∷ 0x96 ∷ 0xB4 ∷ []), (0xD55C ∷ 0xAD6D ∷ 0xC5B4 ∷ []))
    ∷ ((0xE6 ∷ 0x97 ∷ 0xA5 ∷ 0xE6 ∷ 0x9C ∷ 0xAC ∷ 0xE8 ∷ 0xAA ∷ 0x9E ∷ []), (0x65E5 ∷ 0x672C ∷ 0x8A9E ∷ []))
    ∷ ((0xEF ∷ 0xBB ∷ 0xBF ∷ 0xF0 ∷ 0xA3 ∷ 0x8E ∷ 0xB4 ∷ []), (0xFEFF ∷ 0x233B4 ∷ []))
    ∷ []

pub examples_decode : map (λ e. decode e.0) examples ≡ map (λ e. chars e.1) examples
unfolding decode
examples_decode = refl

pub mark_no_space : (t : List ℕ) → white_width (0xEF ∷ 0xBB ∷ 0xBF ∷ t) ≡ 0
unfolding white_width
mark_no_space t = refl
