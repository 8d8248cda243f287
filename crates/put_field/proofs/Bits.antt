-- The low bits of numbers: of a shifted number with a field behind it, and of what is left of a number above a place.
-- Assumes nothing.
use Prim.Native.Nat.{ℕ, zero, suc, ◌+◌, ◌*◌, ◌-◌, ◌/◌, ◌%◌, ◌^◌, ◌≤◌, ◌<◌}
use native.Mathlib.Nat.{zero-add, suc-add, add_comm, mod-lt}
use native.Mathlib.Omega.{arith}
use mathlib.Core.Path.{◌≡◌, refl, sym, ap, ap₂, ◌∙◌}
use mathlib.Core.List.{◌∷◌, ◌++◌}
use lib.Bits.{bit_and, bit_or, or_shifted}
use lib.Pow.{pow_pos, shr-shr, shl_exact, field, mod-mod-pow, high, low}
use Rattle.field.proofs.Window.{masked}
use Rattle.paper.specs.Pack.Fields.{bits}

-- the bits from a place on, and those below it
pub bits_split : (a b n : ℕ) → bits (a + b) n ≡ bits a (n / 2 ^ b) ++ bits b n
bits_split zero b n = ap (λ k. bits k n) (zero-add b)
bits_split (suc a) b n =
    let e : n / 2 ^ (a + b) ≡ n / 2 ^ b / 2 ^ a = ap (λ k. n / 2 ^ k) (add_comm a b) ∙ sym (shr-shr n b a) in
    ap (λ k. bits k n) (suc-add a b) ∙ ap₂ (λ x l. x % 2 ∷ l) e (bits_split a b n)

low_bit : (j b n : ℕ) → n % 2 ^ (suc j + b) / 2 ^ b % 2 ≡ n / 2 ^ b % 2
low_bit j b n =
    let e : suc j ≡ j + 1 = omega arith in
    ap (λ x. x % 2) (field n (suc j) b) ∙ ap (λ k. n / 2 ^ b % 2 ^ k % 2) e ∙ mod-mod-pow (n / 2 ^ b) j 1

-- what stands above the low k bits is not among them
pub bits_mod : (b k n : ℕ) → b ≤ k → bits b (n % 2 ^ k) ≡ bits b n
bits_mod zero k n h = refl
bits_mod (suc b) k n h =
    let e : k ≡ suc (k - suc b) + b = omega arith in
    ap₂ (λ x l. x ∷ l) (ap (λ m. n % 2 ^ m / 2 ^ b % 2) e ∙ low_bit (k - suc b) b n) (bits_mod b k n (omega arith))

-- a number with a field behind it
pub bits_behind : (a b m v : ℕ) → bits (a + b) (m * 2 ^ b + v % 2 ^ b) ≡ bits a m ++ bits b v
bits_behind a b m v =
    let small : v % 2 ^ b < 2 ^ b = mod-lt v (pow_pos b) in
    bits_split a b (m * 2 ^ b + v % 2 ^ b)
    ∙ ap₂ (λ x l. bits a x ++ l) (high m b small)
    (sym (bits_mod b b (m * 2 ^ b + v % 2 ^ b) (omega arith)) ∙ ap (bits b) (low m b small) ∙ bits_mod b b v (omega arith))

-- ---- as the code makes it

-- a byte, shifted, and the low bits of a value
pub joined_up : (x m v w : ℕ) → x ≡ m → m < 256 → w ≤ 32 → bit_or ((x * 2 ^ w) % 2 ^ 64) (bit_and v ((1 * 2 ^ w) % 2 ^ 64 - 1)) ≡ m * 2 ^ w + v % 2 ^ w
joined_up x m v w e hm hw =
    ap₂ bit_or (ap (λ n. (n * 2 ^ w) % 2 ^ 64) e ∙ shl_exact 8 w 64 hm (omega arith)) (masked v w hw) ∙ or_shifted m w (v % 2 ^ w) (mod-lt v (pow_pos w))
