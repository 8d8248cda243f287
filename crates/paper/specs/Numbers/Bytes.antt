-- Numbers as bytes, the least significant first: the length before unk.def's details, and the entries of lent tables.
-- Assumes nothing.
use Rattle.std.specs.Prelude.{ℕ, zero, suc, ◌+◌, ◌*◌, ◌/◌, ◌%◌, List, [], ◌∷◌, Bool, ltb}

-- a byte is below this
abbrev pub byte_limit : ℕ
byte_limit = 256

abbrev pub is_byte : ℕ → Bool
is_byte b = ltb b byte_limit

-- the low w bytes of n
abbrev pub le : ℕ → ℕ → List ℕ
le zero n = []
le (suc w) n = n % byte_limit ∷ le w (n / byte_limit)

abbrev pub value : List ℕ → ℕ
value [] = 0
value (b ∷ bs) = b + byte_limit * value bs

-- the bytes of a number with 16 bits, and with 32
abbrev pub u16_size : ℕ
u16_size = 2

abbrev pub u32_size : ℕ
u32_size = 4
