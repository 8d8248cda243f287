-- A character of each length: its octets by the table of RFC 3629, section 3, and what the decoder reads where they stand.
-- Assumes nothing.
use Prim.Native.Nat.{ℕ, ◌+◌, ◌*◌, ◌/◌, ◌%◌, ◌<◌, ◌≤◌}
use native.Mathlib.Omega.{arith}
use mathlib.Core.Path.{◌≡◌, refl}
use mathlib.Core.Bool.{Bool, true, false, cond}
use mathlib.Core.List.{List, [], ◌∷◌}
use lib.Dec.{eqb}
use borrow.Author.Tests.{eqb-true, le-leb, lt-leb}
use Rattle.paper.specs.Text.Scalar.{between, utf8_of}
use Rattle.paper.specs.Computed.Decode.{good, lowest, highest, is_tail, first}
use Rattle.paper.proofs.Lists.Facts.{T→true}
use Rattle.paper.proofs.Text.Scalar.{yes_between}

-- ---- a character's octets

pub enc_1 : (c : ℕ) → c ≤ 0x7F → utf8_of c ≡ c ∷ []
unfolding utf8_of
enc_1 c h = rw (le-leb c 0x7F h)

pub enc_2 : (c : ℕ) → 0x80 ≤ c → c ≤ 0x7FF → utf8_of c ≡ (0xC0 + c / 64) ∷ (0x80 + c % 64) ∷ []
unfolding utf8_of
enc_2 c l h = rw (lt-leb c 0x7F l, le-leb c 0x7FF h)

pub enc_3 : (c : ℕ) → 0x800 ≤ c → c ≤ 0xFFFF → utf8_of c ≡ (0xE0 + c / 4096) ∷ (0x80 + c / 64 % 64) ∷ (0x80 + c % 64) ∷ []
unfolding utf8_of
enc_3 c l h =
    let l₁ : 0x7F < c = omega arith in
    rw (lt-leb c 0x7F l₁, lt-leb c 0x7FF l, le-leb c 0xFFFF h)

pub enc_4 : (c : ℕ) → 0x10000 ≤ c
    → utf8_of c ≡ (0xF0 + c / 262144) ∷ (0x80 + c / 4096 % 64) ∷ (0x80 + c / 64 % 64) ∷ (0x80 + c % 64) ∷ []
unfolding utf8_of
enc_4 c l =
    let l₁ : 0x7F < c = omega arith in
    let l₂ : 0x7FF < c = omega arith in
    rw (lt-leb c 0x7F l₁, lt-leb c 0x7FF l₂, lt-leb c 0xFFFF l)

-- ---- what the first octet allows the second

pub low_ok : (a b : ℕ) → (a ≡ 0xE0 → 0xA0 ≤ b) → (a ≡ 0xF0 → 0x90 ≤ b) → 0x80 ≤ b → lowest a ≤ b
unfolding lowest
low_ok a b f g h = go (eqb a 0xE0) (eqb a 0xF0) refl refl
  where
    go : (x y : Bool) → eqb a 0xE0 ≡ x → eqb a 0xF0 ≡ y → cond x 0xA0 (cond y 0x90 0x80) ≤ b
    go true y e d = f (eqb-true a 0xE0 e)
    go false true e d = g (eqb-true a 0xF0 d)
    go false false e d = h

pub high_ok : (a b : ℕ) → (a ≡ 0xED → b ≤ 0x9F) → (a ≡ 0xF4 → b ≤ 0x8F) → b ≤ 0xBF → b ≤ highest a
unfolding highest
high_ok a b f g h = go (eqb a 0xED) (eqb a 0xF4) refl refl
  where
    go : (x y : Bool) → eqb a 0xED ≡ x → eqb a 0xF4 ≡ y → b ≤ cond x 0x9F (cond y 0x8F 0xBF)
    go true y e d = f (eqb-true a 0xED e)
    go false true e d = g (eqb-true a 0xF4 d)
    go false false e d = h

pub low_80 : (a b : ℕ) → lowest a ≤ b → 0x80 ≤ b
unfolding lowest
low_80 a b h = go (eqb a 0xE0) (eqb a 0xF0) h
  where
    go : (x y : Bool) → cond x 0xA0 (cond y 0x90 0x80) ≤ b → 0x80 ≤ b
    go true y h = omega arith
    go false true h = omega arith
    go false false h = h

pub high_BF : (a b : ℕ) → b ≤ highest a → b ≤ 0xBF
unfolding highest
high_BF a b h = go (eqb a 0xED) (eqb a 0xF4) h
  where
    go : (x y : Bool) → b ≤ cond x 0x9F (cond y 0x8F 0xBF) → b ≤ 0xBF
    go true y h = omega arith
    go false true h = omega arith
    go false false h = h

pub low_E0 : (b : ℕ) → lowest 0xE0 ≤ b → 0xA0 ≤ b
unfolding lowest
low_E0 b h = h

pub low_F0 : (b : ℕ) → lowest 0xF0 ≤ b → 0x90 ≤ b
unfolding lowest
low_F0 b h = h

pub high_ED : (b : ℕ) → b ≤ highest 0xED → b ≤ 0x9F
unfolding highest
high_ED b h = h

pub high_F4 : (b : ℕ) → b ≤ highest 0xF4 → b ≤ 0x8F
unfolding highest
high_F4 b h = h

-- ---- what is read

pub dec_1 : (a : ℕ) (s : List ℕ) → a ≤ 0x7F → first a s ≡ good a 0
unfolding first
dec_1 a s h = rw (le-leb a 0x7F h)

pub dec_2 : (a b : ℕ) (s : List ℕ) → 0xC2 ≤ a → a ≤ 0xDF → 0x80 ≤ b → b ≤ 0xBF → first a (b ∷ s) ≡ good (a % 32 * 64 + b % 64) 1
unfolding first
dec_2 a b s l h bl bh =
    let l₁ : 0x7F < a = omega arith in
    rw (lt-leb a 0x7F l₁, lt-leb a 0xC1 l, le-leb a 0xDF h, T→true (is_tail b) (yes_between 0x80 0xBF b bl bh))

pub dec_3 : (a b c : ℕ) (s : List ℕ) → 0xE0 ≤ a → a ≤ 0xEF → lowest a ≤ b → b ≤ highest a → 0x80 ≤ c → c ≤ 0xBF
    → first a (b ∷ c ∷ s) ≡ good ((a % 16 * 64 + b % 64) * 64 + c % 64) 2
unfolding first
dec_3 a b c s l h bl bh cl ch =
    let l₁ : 0x7F < a = omega arith in
    let l₂ : 0xC1 < a = omega arith in
    rw (lt-leb a 0x7F l₁, lt-leb a 0xC1 l₂, lt-leb a 0xDF l, le-leb a 0xEF h, T→true (is_tail c) (yes_between 0x80 0xBF c cl ch), T→true (between (lowest a) (highest a) b) (yes_between (lowest a) (highest a) b bl bh))

pub dec_4 : (a b c d : ℕ) (s : List ℕ) → 0xF0 ≤ a → a ≤ 0xF4 → lowest a ≤ b → b ≤ highest a → 0x80 ≤ c → c ≤ 0xBF → 0x80 ≤ d → d ≤ 0xBF
    → first a (b ∷ c ∷ d ∷ s) ≡ good (((a % 8 * 64 + b % 64) * 64 + c % 64) * 64 + d % 64) 3
unfolding first
dec_4 a b c d s l h bl bh cl ch dl dh =
    let l₁ : 0x7F < a = omega arith in
    let l₂ : 0xC1 < a = omega arith in
    let l₃ : 0xDF < a = omega arith in
    rw (lt-leb a 0x7F l₁, lt-leb a 0xC1 l₂, lt-leb a 0xDF l₃, lt-leb a 0xEF l, le-leb a 0xF4 h, T→true (is_tail c) (yes_between 0x80 0xBF c cl ch), T→true (is_tail d) (yes_between 0x80 0xBF d dl dh), T→true (between (lowest a) (highest a) b) (yes_between (lowest a) (highest a) b bl bh))
