-- The characters of bytes, computed: decoded, or where the longest well-formed prefix ends. `Text.Prefix` proves it the ABNF.
-- Assumes nothing.
use Rattle.std.specs.Prelude.{ℕ, zero, suc, ◌+◌, ◌*◌, ◌%◌, Bool, cond, ◌&&◌, List, [], ◌∷◌, leb, eqb}
use Rattle.paper.specs.Text.Scalar.{between}

-- ---- text

-- the first character: its value and how many bytes it has after its first
pub data First : Type 0 where
  bad : First
  good : ℕ → ℕ → First

unfoldable pub lowest : ℕ → ℕ
lowest a = cond (eqb a 0xE0) 0xA0 (cond (eqb a 0xF0) 0x90 0x80)

unfoldable pub highest : ℕ → ℕ
highest a = cond (eqb a 0xED) 0x9F (cond (eqb a 0xF4) 0x8F 0xBF)

abbrev pub is_tail : ℕ → Bool
is_tail b = between 0x80 0xBF b

unfoldable pub two : ℕ → List ℕ → First
two a [] = bad
two a (b ∷ s) = cond (is_tail b) (good (a % 32 * 64 + b % 64) 1) bad

unfoldable pub three : ℕ → List ℕ → First
unfolding lowest highest
three a [] = bad
three a (b ∷ []) = bad
three a (b ∷ c ∷ s) =
    cond (between (lowest a) (highest a) b && is_tail c) (good ((a % 16 * 64 + b % 64) * 64 + c % 64) 2) bad

unfoldable pub four : ℕ → List ℕ → First
unfolding lowest highest
four a [] = bad
four a (b ∷ []) = bad
four a (b ∷ c ∷ []) = bad
four a (b ∷ c ∷ d ∷ s) =
    cond (between (lowest a) (highest a) b && is_tail c && is_tail d)
    (good (((a % 8 * 64 + b % 64) * 64 + c % 64) * 64 + d % 64) 3)
    bad

unfoldable pub first : ℕ → List ℕ → First
unfolding two three four
first a s =
    cond (leb a 0x7F) (good a 0)
    (cond (leb a 0xC1) bad
    (cond (leb a 0xDF) (two a s)
    (cond (leb a 0xEF) (three a s)
    (cond (leb a 0xF4) (four a s) bad))))

-- the characters of a text, or where its well-formed prefix ends
pub data Text : Type 0 where
  broken : ℕ → Text
  chars : List ℕ → Text

abbrev pub cons_text : ℕ → Text → Text
cons_text c (broken at) = broken at
cons_text c (chars cs) = chars (c ∷ cs)

abbrev pub onward : ℕ → First → (ℕ → Text) → Text
onward at bad go = broken at
onward at (good c extra) go = cons_text c (go extra)

-- from the byte at `at`, of which `skip` and those after belong to the character before
unfoldable pub decode_from : ℕ → ℕ → List ℕ → Text
unfolding first
decode_from at skip [] = chars []
decode_from at zero (a ∷ s) = onward at (first a s) (λ extra. decode_from (suc at) extra s)
decode_from at (suc skip) (a ∷ s) = decode_from (suc at) skip s

unfoldable pub decode : List ℕ → Text
unfolding decode_from
decode bytes = decode_from 0 0 bytes

-- the length of the longest well-formed prefix: where the decoder breaks off, or all n bytes
abbrev pub prefix_of : Text → ℕ → ℕ
prefix_of (broken p) n = p
prefix_of (chars cs) n = n
