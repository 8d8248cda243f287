-- "Text": scalar values, their UTF-8 (RFC 3629) and well-formed UTF-8, White_Space (Unicode), and characters by name.
-- Assumes nothing.
use Rattle.std.specs.Prelude.{ℕ, ◌+◌, ◌/◌, ◌%◌, ◌≤◌, ◌-◌, Bool, cond, ◌&&◌, ◌||◌, List, [], ◌∷◌, ◌++◌, T, leb, eqb, length, take}
use Rattle.paper.specs.Lists.{any}

-- ---- scalar values

-- a is between lo and hi
abbrev pub between : ℕ → ℕ → ℕ → Bool
between lo hi a = leb lo a && leb a hi

-- surrogates, the last scalar value, and three characters that a bound makes a case of
abbrev pub first_surrogate : ℕ
first_surrogate = 0xD800

abbrev pub last_surrogate : ℕ
last_surrogate = 0xDFFF

abbrev pub last_scalar : ℕ
last_scalar = 0x10FFFF

abbrev pub replacement : ℕ
replacement = 0xFFFD

abbrev pub byte_order_mark : ℕ
byte_order_mark = 0xFEFF

abbrev pub swapped_mark : ℕ
swapped_mark = 0xFFFE

abbrev pub is_surrogate : ℕ → Bool
is_surrogate c = between first_surrogate last_surrogate c

-- RFC 3629: "0 to D7FF and E000 to 10FFFF"
unfoldable pub is_scalar : ℕ → Bool
is_scalar c = between 0 (first_surrogate - 1) c || between (last_surrogate + 1) last_scalar c

abbrev pub IsScalar : ℕ → Type 0
IsScalar c = T (is_scalar c)

-- ---- RFC 3629

-- section 3: the table, with six bits in each octet after the first
unfoldable pub utf8_of : ℕ → List ℕ
utf8_of c =
    cond (leb c 0x7F) (c ∷ [])
    (cond (leb c 0x7FF) ((0xC0 + c / 64) ∷ (0x80 + c % 64) ∷ [])
    (cond (leb c 0xFFFF) ((0xE0 + c / 4096) ∷ (0x80 + c / 64 % 64) ∷ (0x80 + c % 64) ∷ [])
    ((0xF0 + c / 262144) ∷ (0x80 + c / 4096 % 64) ∷ (0x80 + c / 64 % 64) ∷ (0x80 + c % 64) ∷ [])))

unfoldable pub utf8 : List ℕ → List ℕ
unfolding utf8_of
utf8 [] = []
utf8 (c ∷ cs) = utf8_of c ++ utf8 cs

-- section 4, as its ABNF has it: a clause for each alternative, with what follows it
pub record In (lo hi a : ℕ) : Type 0 where
  pub from : lo ≤ a
  pub to : a ≤ hi

abbrev pub Tail : ℕ → Type 0
Tail a = In 0x80 0xBF a

pub data WellFormed : List ℕ → Type 0 where
  nothing : WellFormed []
  -- UTF8-1 = %x00-7F
  utf8_1 : {a : ℕ} {s : List ℕ} → In 0x00 0x7F a → WellFormed s → WellFormed (a ∷ s)
  -- UTF8-2 = %xC2-DF UTF8-tail
  utf8_2 : {a b : ℕ} {s : List ℕ} → In 0xC2 0xDF a → Tail b → WellFormed s → WellFormed (a ∷ b ∷ s)
  -- UTF8-3 = %xE0 %xA0-BF UTF8-tail / %xE1-EC 2( UTF8-tail ) / %xED %x80-9F UTF8-tail / %xEE-EF 2( UTF8-tail )
  utf8_3_E0 : {a b c : ℕ} {s : List ℕ} → In 0xE0 0xE0 a → In 0xA0 0xBF b → Tail c → WellFormed s → WellFormed (a ∷ b ∷ c ∷ s)
  utf8_3_E1 : {a b c : ℕ} {s : List ℕ} → In 0xE1 0xEC a → Tail b → Tail c → WellFormed s → WellFormed (a ∷ b ∷ c ∷ s)
  utf8_3_ED : {a b c : ℕ} {s : List ℕ} → In 0xED 0xED a → In 0x80 0x9F b → Tail c → WellFormed s → WellFormed (a ∷ b ∷ c ∷ s)
  utf8_3_EE : {a b c : ℕ} {s : List ℕ} → In 0xEE 0xEF a → Tail b → Tail c → WellFormed s → WellFormed (a ∷ b ∷ c ∷ s)
  -- UTF8-4 = %xF0 %x90-BF 2( UTF8-tail ) / %xF1-F3 3( UTF8-tail ) / %xF4 %x80-8F 2( UTF8-tail )
  utf8_4_F0 : {a b c d : ℕ} {s : List ℕ} → In 0xF0 0xF0 a → In 0x90 0xBF b → Tail c → Tail d → WellFormed s → WellFormed (a ∷ b ∷ c ∷ d ∷ s)
  utf8_4_F1 : {a b c d : ℕ} {s : List ℕ} → In 0xF1 0xF3 a → Tail b → Tail c → Tail d → WellFormed s → WellFormed (a ∷ b ∷ c ∷ d ∷ s)
  utf8_4_F4 : {a b c d : ℕ} {s : List ℕ} → In 0xF4 0xF4 a → In 0x80 0x8F b → Tail c → Tail d → WellFormed s → WellFormed (a ∷ b ∷ c ∷ d ∷ s)

-- "the longest well-formed prefix" has p bytes
pub record LongestPrefix (p : ℕ) (bytes : List ℕ) : Type 0 where
  pub inside : p ≤ length bytes
  pub fits : WellFormed (take p bytes)
  pub longest : (n : ℕ) → n ≤ length bytes → WellFormed (take n bytes) → n ≤ p

-- ---- characters that the paper writes as themselves or by name

abbrev pub tab : ℕ
tab = 0x09

abbrev pub lf : ℕ
lf = 0x0A

abbrev pub form_feed : ℕ
form_feed = 0x0C

abbrev pub cr : ℕ
cr = 0x0D

abbrev pub space : ℕ
space = 0x20

abbrev pub hash : ℕ
hash = 0x23

abbrev pub plus_sign : ℕ
plus_sign = 0x2B

abbrev pub comma : ℕ
comma = 0x2C

abbrev pub minus_sign : ℕ
minus_sign = 0x2D

abbrev pub dot : ℕ
dot = 0x2E

abbrev pub digit0 : ℕ
digit0 = 0x30

abbrev pub letter_x : ℕ
letter_x = 0x78

-- ---- White_Space

-- "U+0009 to 000D, 0020, 0085, 00A0, 1680, 2000 to 200A, 2028, 2029, 202F, 205F, 3000": the first and the last of each run
abbrev pub whites : List (ℕ × ℕ)
whites =
    (0x0009, 0x000D) ∷ (0x0020, 0x0020) ∷ (0x0085, 0x0085) ∷ (0x00A0, 0x00A0) ∷ (0x1680, 0x1680) ∷ (0x2000, 0x200A)
    ∷ (0x2028, 0x2028) ∷ (0x2029, 0x2029) ∷ (0x202F, 0x202F) ∷ (0x205F, 0x205F) ∷ (0x3000, 0x3000) ∷ []

unfoldable pub is_white : ℕ → Bool
is_white c = any (λ r. between r.0 r.1 c) whites

-- "a category line's fields are split at TAB, FF, CR and space only"
unfoldable pub is_sep : ℕ → Bool
is_sep c = eqb c tab || eqb c form_feed || eqb c cr || eqb c space
