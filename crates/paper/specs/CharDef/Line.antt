-- A line of char.def, and which characters say it: the grammar of the paper, "The lines of char.def".
-- Assumes nothing.
use Rattle.std.specs.Prelude.{ℕ, zero, suc, ◌≤◌, ◌≡◌, ◌≢◌, Bool, false, not, cond, ◌&&◌, List, [], ◌∷◌, ◌++◌, T, eqb}
use Rattle.paper.specs.Sizes.{max_u16}
use Rattle.paper.specs.Lists.{all, full, nothing_or}
use Rattle.paper.specs.Text.Scalar.{is_white, is_sep, hash, dot, digit0, letter_x, is_surrogate, byte_order_mark, swapped_mark, replacement}
use Rattle.paper.specs.Numbers.Numeral.{Numeral, hexadecimal, U32}

pub data Line : Type 0 where
  blank : Line
  -- name, invoke, group, length
  category : List ℕ → Bool → Bool → ℕ → Line
  -- lower, upper, names
  range : ℕ → ℕ → List (List ℕ) → Line

abbrev pub is_hash : ℕ → Bool
is_hash c = eqb c hash

-- a character of a name of a range line: no white space, no comment
unfoldable pub is_name_char : ℕ → Bool
unfolding is_white
is_name_char c = not (is_white c) && not (is_hash c)

-- a character of a category line's name: no separator, no comment
unfoldable pub is_field_char : ℕ → Bool
unfolding is_sep
is_field_char c = not (is_sep c) && not (is_hash c)

-- nothing, or a comment: `#` and anything
abbrev pub comment : List ℕ → Bool
comment cs = nothing_or is_hash cs

abbrev pub begins0x : List ℕ → Bool
begins0x [] = false
begins0x (c ∷ []) = false
begins0x (c ∷ d ∷ cs) = eqb c digit0 && eqb d letter_x

abbrev pub begins_white : List ℕ → Bool
begins_white [] = false
begins_white (c ∷ cs) = is_white c

-- `0x`, so many times
abbrev pub zero_xs : ℕ → List ℕ
zero_xs zero = []
zero_xs (suc k) = digit0 ∷ letter_x ∷ zero_xs k

-- D800 to DFFF stand for FFFD
unfoldable pub stands_for : ℕ → ℕ
stands_for c = cond (is_surrogate c) replacement c

-- a bound: `0x` at least so many times, and a 16-bit numeral, neither FEFF nor FFFE
pub record Bound (least : ℕ) (cs : List ℕ) (bound : ℕ) : Type 0 where
  pub times : ℕ
  pub numeral : List ℕ
  pub code : ℕ
  pub whole : cs ≡ zero_xs times ++ numeral
  pub enough : least ≤ times
  pub number : Numeral hexadecimal max_u16 numeral code
  pub no_mark : code ≢ byte_order_mark
  pub no_swap : code ≢ swapped_mark
  pub says : bound ≡ stands_for code

-- one bound is both; or two joined by `..`, the second with or without `0x`
pub data Bounds (cs : List ℕ) (lower upper : ℕ) : Type 0 where
  one_bound : Bound 1 cs lower → upper ≡ lower → Bounds cs lower upper
  two_bounds : (left right : List ℕ) → cs ≡ left ++ (dot ∷ dot ∷ right) → Bound 1 left lower → Bound 0 right upper → Bounds cs lower upper

-- names, each after white space
pub data Names : List ℕ → List (List ℕ) → Type 0 where
  no_names : {cs : List ℕ} → cs ≡ [] → Names cs []
  more_names : {cs name : List ℕ} {names : List (List ℕ)} (white rest : List ℕ) → cs ≡ white ++ (name ++ rest)
      → T (full is_white white) → T (full is_name_char name) → Names rest names → Names cs (name ∷ names)

-- a flag is true exactly at 1
pub record Flag (cs : List ℕ) (flag : Bool) : Type 0 where
  pub number : ℕ
  pub spelled : U32 cs number
  pub says : flag ≡ eqb number 1

-- ---- the three kinds of lines

pub record BlankLine (cs : List ℕ) : Type 0 where
  pub white : List ℕ
  pub rest : List ℕ
  pub whole : cs ≡ white ++ rest
  pub is_whites : T (all is_white white)
  pub is_comment : T (comment rest)

pub record RangeLine (cs : List ℕ) (lower upper : ℕ) (names : List (List ℕ)) : Type 0 where
  pub before : List ℕ
  pub bounds : List ℕ
  pub named : List ℕ
  pub after : List ℕ
  pub rest : List ℕ
  pub whole : cs ≡ before ++ (bounds ++ (named ++ (after ++ rest)))
  pub white_before : T (all is_white before)
  pub bounded : Bounds bounds lower upper
  pub names_in : Names named names
  pub white_after : T (all is_white after)
  pub is_comment : T (comment rest)

pub record CategoryLine (cs name : List ℕ) (invoke group : Bool) (length : ℕ) : Type 0 where
  pub before : List ℕ
  pub gap₁ : List ℕ
  pub field₁ : List ℕ
  pub gap₂ : List ℕ
  pub field₂ : List ℕ
  pub gap₃ : List ℕ
  pub field₃ : List ℕ
  pub after : List ℕ
  pub rest : List ℕ
  pub whole : cs ≡ before ++ (name ++ (gap₁ ++ (field₁ ++ (gap₂ ++ (field₂ ++ (gap₃ ++ (field₃ ++ (after ++ rest))))))))
  pub white_before : T (all is_white before)
  pub name_chars : T (full is_field_char name)
  pub name_opens : T (not (begins_white name))
  pub name_no0x : T (not (begins0x name))
  pub sep₁ : T (full is_sep gap₁)
  pub invokes : Flag field₁ invoke
  pub sep₂ : T (full is_sep gap₂)
  pub groups : Flag field₂ group
  pub sep₃ : T (full is_sep gap₃)
  pub lengths : U32 field₃ length
  pub white_after : T (all is_white after)
  pub is_comment : T (comment rest)

-- the characters of a line, without LF, say this
abbrev pub LineFits : List ℕ → Line → Type 0
LineFits cs blank = BlankLine cs
LineFits cs (category name invoke group length) = CategoryLine cs name invoke group length
LineFits cs (range lower upper names) = RangeLine cs lower upper names
