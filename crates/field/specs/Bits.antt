-- Bits of a list of bytes as numbers, most significant bit first: what the functions below the cursor promise.
-- Assumes nothing.
use Rattle.std.specs.Prelude.{ℕ, zero, suc, ◌+◌, ◌-◌, ◌*◌, ◌/◌, ◌%◌, ◌^◌, List, [], ◌∷◌, get_or}
use Rattle.paper.specs.Numbers.Bytes.{byte_limit}
use Rattle.paper.specs.Pack.Fields.{byte_width}

-- bit p of the list: bit 0 is the top bit of byte 0
unfoldable pub bit_at : List ℕ → ℕ → ℕ
bit_at s p = get_or s (p / byte_width) 0 / 2 ^ (7 - p % byte_width) % 2

-- the number that the n bits from p on are
unfoldable pub bits_value : List ℕ → ℕ → ℕ → ℕ
bits_value s p zero = 0
bits_value s p (suc n) = bits_value s p n * 2 + bit_at s (p + n)

-- the number that the m bytes from byte i on are
unfoldable pub bytes_value : List ℕ → ℕ → ℕ → ℕ
bytes_value s i zero = 0
bytes_value s i (suc m) = bytes_value s i m * byte_limit + get_or s (i + m) 0

-- the n bytes that stand from bit p on
unfoldable pub bytes_at : List ℕ → ℕ → ℕ → List ℕ
bytes_at s p zero = []
bytes_at s p (suc n) = bits_value s p byte_width ∷ bytes_at s (p + byte_width) n
