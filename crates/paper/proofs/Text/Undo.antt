-- The decoder undoes `utf8`: six bits in each octet after the first come back as the digits of the number, to base 64.
-- Assumes nothing.
use Prim.Native.Nat.{ℕ, suc, ◌+◌, ◌*◌, ◌/◌, ◌%◌, ◌≤◌}
use native.Mathlib.Omega.{arith}
use mathlib.Core.Path.{◌≡◌, refl, ap, ◌∙◌}
use mathlib.Core.Logic.{◌⊎◌, inl, inr}
use mathlib.Core.Bool.{Bool, true, false}
use mathlib.Core.List.{List, [], ◌∷◌, ◌++◌}
use lib.Dec.{T, leb}
use mir.Facts.{and_yes}
use borrow.Author.Tests.{leb-true, leb-false}
use Rattle.paper.specs.Lists.{all}
use Rattle.paper.specs.Text.Scalar.{is_scalar, utf8_of, utf8, last_scalar}
use Rattle.paper.specs.Computed.Decode.{good, first, chars, cons_text, decode_from}
use Rattle.paper.proofs.Text.Scalar.{scalar_cases, scalar_top}
use Rattle.paper.proofs.Text.Lengths.{enc_1, enc_2, enc_3, enc_4, low_ok, high_ok, dec_1, dec_2, dec_3, dec_4}

val_2 : (c : ℕ) → c ≤ 0x7FF → (0xC0 + c / 64) % 32 * 64 + (0x80 + c % 64) % 64 ≡ c
val_2 c h = omega arith

val_3 : (c : ℕ) → c ≤ 0xFFFF → ((0xE0 + c / 4096) % 16 * 64 + (0x80 + c / 64 % 64) % 64) * 64 + (0x80 + c % 64) % 64 ≡ c
val_3 c h = omega arith

tail_val : (x : ℕ) → (0x80 + x % 64) % 64 ≡ x % 64
tail_val x = omega arith

lead_val : (q : ℕ) → q ≤ 4 → (0xF0 + q) % 8 ≡ q
lead_val q h = omega arith

step_1 : (c : ℕ) → c / 64 * 64 + c % 64 ≡ c
step_1 c = omega arith

step_2 : (c : ℕ) → c / 4096 * 64 + c / 64 % 64 ≡ c / 64
step_2 c = omega arith

step_3 : (c : ℕ) → c / 262144 * 64 + c / 4096 % 64 ≡ c / 4096
step_3 c = omega arith

top_small : (c : ℕ) → c ≤ last_scalar → c / 262144 ≤ 4
top_small c h = omega arith

val_4 : (c : ℕ) → c ≤ last_scalar
    → (((0xF0 + c / 262144) % 8 * 64 + (0x80 + c / 4096 % 64) % 64) * 64 + (0x80 + c / 64 % 64) % 64) * 64 + (0x80 + c % 64) % 64 ≡ c
val_4 c h =
    rw (lead_val (c / 262144) (top_small c h), tail_val (c / 4096), tail_val (c / 64), tail_val c, step_3 c, step_2 c, step_1 c)

-- a scalar value that ED leads is below D800
scalar_ed : (c : ℕ) → T (is_scalar c) → 0xE0 + c / 4096 ≡ 0xED → 0x80 + c / 64 % 64 ≤ 0x9F
scalar_ed c t e = go (scalar_cases c t)
  where
    go : (c ≤ 0xD7FF) ⊎ ((0xE000 ≤ c) × (c ≤ last_scalar)) → 0x80 + c / 64 % 64 ≤ 0x9F
    go (inl a) = omega arith
    go (inr (a, b)) = omega arith

one_3 : (c : ℕ) (s : List ℕ) → T (is_scalar c) → 0x800 ≤ c → c ≤ 0xFFFF
    → first (0xE0 + c / 4096) ((0x80 + c / 64 % 64) ∷ (0x80 + c % 64) ∷ s) ≡ good c 2
one_3 c s t l h =
    let b : ℕ = 0x80 + c / 64 % 64 in
    let no_f : 0xE0 + c / 4096 ≤ 0xEF = omega arith in
    dec_3 (0xE0 + c / 4096) b (0x80 + c % 64) s (omega arith) no_f
    (low_ok (0xE0 + c / 4096) b (λ e. omega arith) (λ e. omega arith) (omega arith))
    (high_ok (0xE0 + c / 4096) b (scalar_ed c t) (λ e. omega arith) (omega arith))
    (omega arith) (omega arith)
    ∙ ap (λ v. good v 2) (val_3 c h)

one_4 : (c : ℕ) (s : List ℕ) → 0x10000 ≤ c → c ≤ last_scalar
    → first (0xF0 + c / 262144) ((0x80 + c / 4096 % 64) ∷ (0x80 + c / 64 % 64) ∷ (0x80 + c % 64) ∷ s) ≡ good c 3
one_4 c s l h =
    let b : ℕ = 0x80 + c / 4096 % 64 in
    dec_4 (0xF0 + c / 262144) b (0x80 + c / 64 % 64) (0x80 + c % 64) s (omega arith) (omega arith)
    (low_ok (0xF0 + c / 262144) b (λ e. omega arith) (λ e. omega arith) (omega arith))
    (high_ok (0xF0 + c / 262144) b (λ e. omega arith) (λ e. omega arith) (omega arith))
    (omega arith) (omega arith) (omega arith) (omega arith)
    ∙ ap (λ v. good v 3) (val_4 c h)

decode_one : (c : ℕ) (s : List ℕ) (at : ℕ) → T (is_scalar c)
    → (then : ℕ) × (decode_from at 0 (utf8_of c ++ s) ≡ cons_text c (decode_from then 0 s))
unfolding decode_from
decode_one c s at t = go (leb c 0x7F) (leb c 0x7FF) (leb c 0xFFFF) refl refl refl
  where
    go : (x y z : Bool) → leb c 0x7F ≡ x → leb c 0x7FF ≡ y → leb c 0xFFFF ≡ z
        → (then : ℕ) × (decode_from at 0 (utf8_of c ++ s) ≡ cons_text c (decode_from then 0 s))
    go true y z ex ey ez = (suc at, rw (enc_1 c (leb-true c 0x7F ex), dec_1 c s (leb-true c 0x7F ex)))
    go false true z ex ey ez =
        let l : 0x80 ≤ c = leb-false c 0x7F ex in
        let h : c ≤ 0x7FF = leb-true c 0x7FF ey in
        let d : first (0xC0 + c / 64) ((0x80 + c % 64) ∷ s) ≡ good c 1 =
        dec_2 (0xC0 + c / 64) (0x80 + c % 64) s (omega arith) (omega arith) (omega arith) (omega arith) ∙ ap (λ v. good v 1) (val_2 c h) in
        (suc (suc at), rw (enc_2 c l h, d))
    go false false true ex ey ez =
        let l : 0x800 ≤ c = leb-false c 0x7FF ey in
        let h : c ≤ 0xFFFF = leb-true c 0xFFFF ez in
        (suc (suc (suc at)), rw (enc_3 c l h, one_3 c s t l h))
    go false false false ex ey ez =
        let l : 0x10000 ≤ c = leb-false c 0xFFFF ez in
        (suc (suc (suc (suc at))), rw (enc_4 c l, one_4 c s l (scalar_top c t)))

pub decode_complete : (cs : List ℕ) (at : ℕ) → T (all is_scalar cs) → decode_from at 0 (utf8 cs) ≡ chars cs
unfolding utf8 decode_from
decode_complete [] at a = refl
decode_complete (c ∷ cs) at a =
    let h = and_yes (is_scalar c) (all is_scalar cs) a in
    let (then, e) = decode_one c (utf8 cs) at h.0 in
    e ∙ ap (cons_text c) (decode_complete cs then h.1)
