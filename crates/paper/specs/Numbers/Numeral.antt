-- Numbers as Rust's library reads them: an optional sign, digits of a base, a limit; and what unk.def keeps of them in 16 bits.
-- Assumes nothing.
use Rattle.std.specs.Prelude.{ℕ, ◌+◌, ◌-◌, ◌*◌, ◌<◌, ◌≤◌, ◌%◌, ◌≡◌, Bool, true, false, cond, List, [], ◌∷◌, ◌++◌, T, ltb, eqb}
use Rattle.paper.specs.Sizes.{max_u32, max_i32, low_i32}
use Rattle.paper.specs.Lists.{full}
use Rattle.paper.specs.Text.Scalar.{between, plus_sign, minus_sign, digit0}

-- ---- digits

abbrev pub decimal : ℕ
decimal = 10

abbrev pub hexadecimal : ℕ
hexadecimal = 16

abbrev pub digit9 : ℕ
digit9 = 0x39

abbrev pub upper_a : ℕ
upper_a = 0x41

abbrev pub upper_f : ℕ
upper_f = 0x46

abbrev pub lower_a : ℕ
lower_a = 0x61

abbrev pub lower_f : ℕ
lower_f = 0x66

-- no digit of any base up to 16
abbrev pub no_digit : ℕ
no_digit = 16

-- the value of a digit, "of either case": A follows the decimal digits
unfoldable pub digit_of : ℕ → ℕ
digit_of c =
    cond (between digit0 digit9 c) (c - digit0)
    (cond (between upper_a upper_f c) (c - (upper_a - decimal))
    (cond (between lower_a lower_f c) (c - (lower_a - decimal)) no_digit))

unfoldable pub is_digit : ℕ → ℕ → Bool
unfolding digit_of
is_digit base c = ltb (digit_of c) base

-- the number that digits spell, after `high`
unfoldable pub value_after : ℕ → ℕ → List ℕ → ℕ
unfolding digit_of
value_after base high [] = high
value_after base high (d ∷ ds) = value_after base (high * base + digit_of d) ds

-- nothing, or `+`
abbrev pub plus : List ℕ → Bool
plus [] = true
plus (c ∷ []) = eqb c plus_sign
plus (c ∷ d ∷ cs) = false

-- ---- numerals

-- "an optional `+` and one or more hex digits of either case, value at most FFFF"; "an optional `+` and digits, at most 4,294,967,295"
pub record Numeral (base limit : ℕ) (cs : List ℕ) (n : ℕ) : Type 0 where
  pub sign : List ℕ
  pub digits : List ℕ
  pub whole : cs ≡ sign ++ digits
  pub signed : T (plus sign)
  pub spelled : T (full (is_digit base) digits)
  pub value : n ≡ value_after base 0 digits
  pub fits : n ≤ limit

-- the same without a sign
pub record Spelled (base limit : ℕ) (ds : List ℕ) (n : ℕ) : Type 0 where
  pub digits : T (full (is_digit base) ds)
  pub value : n ≡ value_after base 0 ds
  pub fits : n ≤ limit

-- ---- signs

-- a whole number, 0 both as `pos 0` and as `neg 0`
pub data Integer : Type 0 where
  pos : ℕ → Integer
  neg : ℕ → Integer

-- `-` and one or more digits
pub record Negative (base limit : ℕ) (cs : List ℕ) (n : ℕ) : Type 0 where
  pub digits : List ℕ
  pub whole : cs ≡ minus_sign ∷ digits
  pub is_spelled : Spelled base limit digits n

-- "sign allowed": up to `top` with `+` or no sign, and down to `low` below 0 with `-`
abbrev pub SignedNumeral : ℕ → ℕ → ℕ → List ℕ → Integer → Type 0
SignedNumeral base top low cs (pos n) = Numeral base top cs n
SignedNumeral base top low cs (neg n) = Negative base low cs n

-- ---- u32 and i32

-- "the u32 and i32 reading of Rust's library"
abbrev pub U32 : List ℕ → ℕ → Type 0
U32 cs n = Numeral decimal max_u32 cs n

abbrev pub I32 : List ℕ → Integer → Type 0
I32 cs i = SignedNumeral decimal max_i32 low_i32 cs i

-- the characters spell none
abbrev pub NoU32 : List ℕ → Type 0
NoU32 cs = (n : ℕ) → U32 cs n → ⊥

abbrev pub NoI32 : List ℕ → Type 0
NoI32 cs = (i : Integer) → I32 cs i → ⊥

-- ---- sixteen bits

abbrev pub modulus16 : ℕ
modulus16 = 65536

-- from here on a number of 16 bits means a negative one
abbrev pub half16 : ℕ
half16 = 32768

-- "kept modulo 65,536": a number below 65,536, for a negative one its two's complement
unfoldable pub wrap16 : Integer → ℕ
wrap16 (pos n) = n % modulus16
wrap16 (neg n) = (modulus16 - n % modulus16) % modulus16

-- "as a signed 16-bit number": below 32,768 itself, from there on 65,536 less
unfoldable pub meaning16 : ℕ → Integer
meaning16 w = cond (ltb w half16) (pos w) (neg (modulus16 - w))

-- two whole numbers differ by a multiple of 65,536
abbrev pub Congruent : Integer → Integer → Type 0
Congruent (pos m) (pos n) = m % modulus16 ≡ n % modulus16
Congruent (pos m) (neg n) = (m + n) % modulus16 ≡ 0
Congruent (neg m) (pos n) = (m + n) % modulus16 ≡ 0
Congruent (neg m) (neg n) = m % modulus16 ≡ n % modulus16

-- from -32,768 up to 32,767
abbrev pub Short16 : Integer → Type 0
Short16 (pos n) = n < half16
Short16 (neg n) = n ≤ half16
