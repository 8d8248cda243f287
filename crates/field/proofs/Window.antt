-- A field of bits is a shift and a mask of the number that the bytes around it are: one law over the place, the bytes and the width.
-- Assumes nothing.
use mathlib.Core.Path.{◌≡◌, refl, sym, ap, ◌∙◌, subst}
use mathlib.Core.List.{List}
use mathlib.Core.Bool.{Bool, true, false}
use lib.Dec.{ltb, lit<}
use lib.Bits.{bit_and, and_mask}
use borrow.Author.Tests.{ltb-true, ltb-false}
use mathlib.Core.Logic.{◌⊎◌, ⊎_elim, inl, inr}
use Prim.Native.Nat.{ℕ, zero, suc, ◌+◌, ◌-◌, ◌*◌, ◌/◌, ◌%◌, ◌^◌, ◌≤◌, ◌<◌}
use native.Mathlib.Omega.{arith}
use native.Mathlib.Nat.{one-mul, mod-lt, lt_of_lt_of_le, mod-one, mul-add-div_right, mul-add-mod_self_right, mul_assoc}
use native.Mathlib.Numerals.{add-one}
use lib.Pow.{shl_exact, pow_mono, pow_pos, pow-add, shr-shr, high, mod-pow-add}
use lib.ListN.{get_or}
use Rattle.field.specs.Bits.{bit_at, bits_value, bytes_value}

lt_or_by : (j n : ℕ) (b : Bool) → ltb j n ≡ b → (j < n) ⊎ (n ≤ j)
lt_or_by j n true e = inl (ltb-true j n e)
lt_or_by j n false e = inr (ltb-false j n e)

lt_or_ge : (j n : ℕ) → (j < n) ⊎ (n ≤ j)
lt_or_ge j n = lt_or_by j n (ltb j n) refl

-- the low 8 bits of a number do not see what stands above them
low_bits : (M b r k : ℕ) → r + 1 + k ≡ 8 → (M * 256 + b) / 2 ^ k % 2 ≡ b / 2 ^ k % 2
low_bits M b r k e =
    let whole : 2 ^ r * 2 * 2 ^ k ≡ 256 = ap (λ (x : ℕ). x * 2 ^ k) (sym (pow-add 2 r 1)) ∙ sym (pow-add 2 (r + 1) k) ∙ ap (λ (x : ℕ). 2 ^ x) e in
    let apart : M * 256 ≡ M * 2 ^ r * 2 * 2 ^ k =
    ap (λ (x : ℕ). M * x) (sym whole) ∙ sym (mul_assoc M (2 ^ r * 2) (2 ^ k)) ∙ ap (λ (x : ℕ). x * 2 ^ k) (sym (mul_assoc M (2 ^ r) 2)) in
    ap (λ (x : ℕ). (x + b) / 2 ^ k % 2) apart
    ∙ ap (λ (x : ℕ). x % 2) (mul-add-div_right (pow_pos k) (M * 2 ^ r * 2) b)
    ∙ mul-add-mod_self_right (M * 2 ^ r) 2 (b / 2 ^ k)

-- bit j, counted from the top, of the number that m bytes are
digit : (s : List ℕ) (i m j : ℕ) → ((k : ℕ) → get_or s k 0 < 256) → j < m * 8 → bytes_value s i m / 2 ^ (m * 8 - 1 - j) % 2 ≡ get_or s (i + j / 8) 0 / 2 ^ (7 - j % 8) % 2
unfolding bytes_value
digit s i zero j B h = absurd (omega (arith, h))
digit s i (suc m) j B h =
    let M : ℕ = bytes_value s i m in
    let b : ℕ = get_or s (i + m) 0 in
    ⊎_elim
    (λ (lt : j < m * 8).
    let e : suc m * 8 - 1 - j ≡ 8 + (m * 8 - 1 - j) = omega (arith, add-one m) in
    ap (λ (x : ℕ). (M * 256 + b) / 2 ^ x % 2) e
    ∙ ap (λ (x : ℕ). x % 2) (sym (shr-shr (M * 256 + b) 8 (m * 8 - 1 - j)))
    ∙ ap (λ (x : ℕ). x / 2 ^ (m * 8 - 1 - j) % 2) (high M 8 (B (i + m)))
    ∙ digit s i m j B lt)
    (λ (ge : m * 8 ≤ j).
    let q : m ≡ j / 8 = omega (arith, add-one m, h) in
    let e : suc m * 8 - 1 - j ≡ 7 - j % 8 = omega (arith, add-one m, h) in
    ap (λ (x : ℕ). (M * 256 + b) / 2 ^ x % 2) e
    ∙ low_bits M b (j % 8) (7 - j % 8) (omega arith)
    ∙ ap (λ (x : ℕ). get_or s (i + x) 0 / 2 ^ (7 - j % 8) % 2) q)
    (lt_or_ge j (m * 8))

pub window : (s : List ℕ) (p m n : ℕ) → ((k : ℕ) → get_or s k 0 < 256) → p % 8 + n ≤ m * 8 → bits_value s p n ≡ bytes_value s (p / 8) m / 2 ^ (m * 8 - p % 8 - n) % 2 ^ n
unfolding bits_value bit_at
window s p m zero B h = sym (mod-one _)
window s p m (suc n) B h =
    let N : ℕ = bytes_value s (p / 8) m in
    let e : ℕ = m * 8 - p % 8 - suc n in
    let up : m * 8 - p % 8 - n ≡ e + 1 = omega (arith, add-one n, h) in
    let ih : bits_value s p n ≡ N / 2 ^ e / 2 ^ 1 % 2 ^ n =
    window s p m n B (omega (arith, add-one n, h)) ∙ ap (λ (x : ℕ). N / 2 ^ x % 2 ^ n) up ∙ ap (λ (x : ℕ). x % 2 ^ n) (sym (shr-shr N e 1)) in
    let at : m * 8 - 1 - (p % 8 + n) ≡ e = omega (arith, add-one n) in
    let byte : p / 8 + (p % 8 + n) / 8 ≡ (p + n) / 8 = omega arith in
    let off : (p % 8 + n) % 8 ≡ (p + n) % 8 = omega arith in
    let last : N / 2 ^ e % 2 ≡ get_or s ((p + n) / 8) 0 / 2 ^ (7 - (p + n) % 8) % 2 =
    ap (λ (x : ℕ). N / 2 ^ x % 2) (sym at)
    ∙ digit s (p / 8) m (p % 8 + n) B (omega (arith, add-one n, h))
    ∙ ap (λ (x : ℕ). get_or s x 0 / 2 ^ (7 - (p % 8 + n) % 8) % 2) byte
    ∙ ap (λ (x : ℕ). get_or s ((p + n) / 8) 0 / 2 ^ (7 - x) % 2) off in
    ap (λ (x : ℕ). x * 2 + get_or s ((p + n) / 8) 0 / 2 ^ (7 - (p + n) % 8) % 2) ih
    ∙ ap (λ (x : ℕ). N / 2 ^ e / 2 ^ 1 % 2 ^ n * 2 + x) (sym last)
    ∙ sym (mod-pow-add (N / 2 ^ e) n 1)
    ∙ ap (λ (x : ℕ). N / 2 ^ e % 2 ^ x) (add-one n)

-- the mask of n bits, as the code makes it
one_up : (n : ℕ) → n ≤ 32 → (1 * 2 ^ n) % 2 ^ 64 ≡ 2 ^ n
one_up n h = shl_exact 1 n 64 (lit< tt) (omega arith) ∙ one-mul (2 ^ n)

pub masked : (x n : ℕ) → n ≤ 32 → bit_and x ((1 * 2 ^ n) % 2 ^ 64 - 1) ≡ x % 2 ^ n
masked x n h = ap (λ (y : ℕ). bit_and x (y - 1)) (one_up n h) ∙ and_mask x n

pub masked_lt : (x n : ℕ) → n ≤ 32 → bit_and x ((1 * 2 ^ n) % 2 ^ 64 - 1) < 2 ^ 32
masked_lt x n h = subst (λ (y : ℕ). y < 2 ^ 32) (sym (masked x n h)) (lt_of_lt_of_le (mod-lt x (pow_pos n)) (pow_mono h))
