-- What the functions of `text` answer, in the paper's words.
-- Assumes nothing.
use Rattle.std.specs.Prelude.{ℕ, suc, ◌+◌, ◌≤◌, ◌<◌, ◌≡◌, cond, List, [], ◌∷◌, length, take, drop}
use Rattle.paper.specs.Text.Scalar.{IsScalar, utf8_of, is_white}
use Rattle.paper.specs.Computed.Decode.{First, bad, good, lowest, highest, first}
use Rattle.text.specs.declared.Scalar.{Scalar}
use Rattle.text.specs.declared.Next.{Next}
use Rattle.text.specs.declared.Next.TheVariants.{Char, End, Bad}

-- ---- the character at a place

-- the bytes at `at` begin with c's encoding
abbrev pub EncodedAt : List ℕ → ℕ → ℕ → Type 0
EncodedAt s at c = take (length (utf8_of c)) (drop at s) ≡ utf8_of c

-- a scalar value stands at `at`, and `next` is behind it
pub record Stands (s : List ℕ) (at : ℕ) (r : Scalar) : Type 0 where
  pub scalar : IsScalar r.value
  pub encoded : EncodedAt s at r.value
  pub behind : r.next ≡ at + length (utf8_of r.value)
  pub inside : r.next ≤ length s

-- there are bytes at `at`, and no scalar value
pub record NoneStands (s : List ℕ) (at : ℕ) : Type 0 where
  pub more : at < length s
  pub none : (c : ℕ) → IsScalar c → EncodedAt s at c → ⊥

abbrev pub NextIs : List ℕ → ℕ → Next → Type 0
NextIs s at (Char r) = Stands s at r
NextIs s at End = length s ≤ at
NextIs s at Bad = NoneStands s at

-- ---- by the paper's decoder

-- the character in front; there is none in nothing
abbrev pub head_of : List ℕ → First
head_of [] = bad
head_of (a ∷ s) = first a s

abbrev pub next_by : ℕ → First → Next
next_by at bad = Bad
next_by at (good c extra) = Char (record { value = c; next = at + suc extra })

abbrev pub white_by : First → ℕ
white_by bad = 0
white_by (good c extra) = cond (is_white c) (suc extra) 0

-- the bytes of the character in front where it is White_Space; 0 where it is not, or there is none
unfoldable pub white_width : List ℕ → ℕ
unfolding first is_white
white_width s = white_by (head_of s)

-- what the octet a leaves its second octet
pub record Second (a low high : ℕ) : Type 0 where
  pub from : low ≡ lowest a
  pub to : high ≡ highest a
