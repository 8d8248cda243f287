-- The decoder takes nothing but `utf8` of scalar values: octets that it reads as a number are the number's own.
-- Assumes nothing.
use Prim.Native.Nat.{ℕ, zero, suc, ◌+◌, ◌*◌, ◌/◌, ◌%◌, ◌<◌, ◌≤◌}
use native.Mathlib.Omega.{arith}
use native.Mathlib.Decide.{ℕ_discrete, dec_le}
use mathlib.Core.Path.{◌≡◌, refl, sym, ap, ◌∙◌}
use mathlib.Core.Bool.{Bool, true, false, cond, ◌&&◌}
use mathlib.Core.List.{List, [], ◌∷◌, ◌++◌}
use lib.Dec.{T, leb}
use lib.ListN.{drop}
use lib.Seq.{drop-nil}
use mir.Facts.{and_yes, yes_and, leb_yes}
use borrow.Author.Tests.{leb-true, leb-false}
use Rattle.paper.specs.Lists.{all}
use Rattle.paper.specs.Text.Scalar.{between, is_scalar, utf8_of, utf8, last_scalar}
use Rattle.paper.specs.Computed.Decode.{First, bad, good, lowest, highest, is_tail, two, three, four, first, Text, broken, chars, cons_text, onward, decode_from}
use Rattle.paper.proofs.Apart.{bad_good, broken_chars}
use Rattle.paper.proofs.Lists.Facts.{true→T}
use Rattle.paper.proofs.Text.Scalar.{scalar_low, scalar_high}
use Rattle.paper.proofs.Text.Lengths.{enc_1, enc_2, enc_3, enc_4, low_80, high_BF, low_E0, low_F0, high_ED, high_F4}

-- a byte by what it carries
tail_is : (b : ℕ) → 0x80 ≤ b → b ≤ 0xBF → 0x80 + b % 64 ≡ b
tail_is b l h = omega arith

shift_div : (q y : ℕ) → y < 64 → (q * 64 + y) / 64 ≡ q
shift_div q y h = omega arith

shift_mod : (q y : ℕ) → y < 64 → (q * 64 + y) % 64 ≡ y
shift_mod q y h = omega arith

mod-lt : (y : ℕ) → y % 64 < 64
mod-lt y = omega arith

div_2 : (c : ℕ) → c / 4096 ≡ c / 64 / 64
div_2 c = omega arith

div_3 : (c : ℕ) → c / 262144 ≡ c / 4096 / 64
div_3 c = omega arith

abbrev pub Undone : ℕ → List ℕ → First → Type 0
Undone a s f = (c extra : ℕ) → f ≡ good c extra → T (is_scalar c) × (a ∷ s ≡ utf8_of c ++ drop extra s)

-- given what is read, show it of that
taken : (a : ℕ) (s : List ℕ) (v n : ℕ) → T (is_scalar v) → a ∷ s ≡ utf8_of v ++ drop n s → Undone a s (good v n)
taken a s v n t w c extra e =
    let ec : c ≡ v = cc in
    let en : extra ≡ n = cc in
    (rw ec t, rw (ec, en) w)

not_taken : (a : ℕ) (s : List ℕ) → Undone a s bad
not_taken a s c extra e = bad_good e

two_taken : (a : ℕ) (s : List ℕ) → 0xC2 ≤ a → a ≤ 0xDF → Undone a s (two a s)
unfolding two
two_taken a [] l h = not_taken a []
two_taken a (b ∷ s) l h = go (is_tail b) refl
  where
    v : ℕ
    v = a % 32 * 64 + b % 64

    go : (x : Bool) → is_tail b ≡ x → Undone a (b ∷ s) (cond x (good v 1) bad)
    go false e = not_taken a (b ∷ s)
    go true e =
        let t = and_yes (leb 0x80 b) (leb b 0xBF) (true→T _ e) in
        let bl : 0x80 ≤ b = leb_yes t.0 in
        let bh : b ≤ 0xBF = leb_yes t.1 in
        let la : 0xC0 + a % 32 ≡ a = omega arith in
        let vd : v / 64 ≡ a % 32 = shift_div (a % 32) (b % 64) (mod-lt b) in
        let vm : v % 64 ≡ b % 64 = shift_mod (a % 32) (b % 64) (mod-lt b) in
        let vl : 0x80 ≤ v = omega arith in
        let vh : v ≤ 0x7FF = omega arith in
        taken a (b ∷ s) v 1 (scalar_low v (omega arith)) (rw (enc_2 v vl vh, vd, vm, la, tail_is b bl bh))

low_3 : (a b z : ℕ) → 0xE0 ≤ a → a ≤ 0xEF → lowest a ≤ b → b ≤ 0xBF → 0x800 ≤ (a % 16 * 64 + b % 64) * 64 + z
low_3 a b z l h low bh =
    elim (ℕ_discrete a 0xE0) [
      | yes e ↦ (let k : 0xA0 ≤ b = low_E0 b (rw e at low) in omega arith)
      | no n ↦ (let k : 1 ≤ a % 16 = omega arith in omega arith)
    ]

scalar_3 : (a b z : ℕ) → 0xE0 ≤ a → a ≤ 0xEF → 0x80 ≤ b → b ≤ highest a → b ≤ 0xBF → z < 64 → T (is_scalar ((a % 16 * 64 + b % 64) * 64 + z))
scalar_3 a b z l h bl high bh zl =
    elim (dec_le a 0xEC) [
      | yes k ↦ (let m : a % 16 ≤ 12 = omega arith in scalar_low _ (omega arith))
      | no k ↦ elim (ℕ_discrete a 0xED) [
        | yes e ↦ (let j : b ≤ 0x9F = high_ED b (rw e at high) in let m : a % 16 ≡ 13 = omega arith in let y : b % 64 ≤ 31 = omega arith in scalar_low _ (omega arith))
        | no n ↦ (let m : 14 ≤ a % 16 = omega arith in scalar_high _ (omega arith) (omega arith))
      ]
    ]

low_4 : (a b y z : ℕ) → 0xF0 ≤ a → a ≤ 0xF4 → lowest a ≤ b → b ≤ 0xBF → 0x10000 ≤ ((a % 8 * 64 + b % 64) * 64 + y) * 64 + z
low_4 a b y z l h low bh =
    elim (ℕ_discrete a 0xF0) [
      | yes e ↦ (let k : 0x90 ≤ b = low_F0 b (rw e at low) in let m : 16 ≤ b % 64 = omega arith in omega arith)
      | no n ↦ (let m : 1 ≤ a % 8 = omega arith in omega arith)
    ]

high_4 : (a b y z : ℕ) → 0xF0 ≤ a → a ≤ 0xF4 → 0x80 ≤ b → b ≤ highest a → y < 64 → z < 64 → ((a % 8 * 64 + b % 64) * 64 + y) * 64 + z ≤ last_scalar
high_4 a b y z l h bl high yl zl =
    elim (ℕ_discrete a 0xF4) [
      | yes e ↦ (let k : b ≤ 0x8F = high_F4 b (rw e at high) in let m : b % 64 ≤ 15 = omega arith in let q : a % 8 ≤ 4 = omega arith in omega arith)
      | no n ↦ (let m : a % 8 ≤ 3 = omega arith in let k : b % 64 < 64 = mod-lt b in omega arith)
    ]

omega_le : {v : ℕ} → 0x10000 ≤ v → 0xE000 ≤ v
omega_le h = omega arith

three_taken : (a : ℕ) (s : List ℕ) → 0xE0 ≤ a → a ≤ 0xEF → Undone a s (three a s)
unfolding three
three_taken a [] l h = not_taken a []
three_taken a (b ∷ []) l h = not_taken a (b ∷ [])
three_taken a (b ∷ d ∷ s) l h = go (between (lowest a) (highest a) b && is_tail d) refl
  where
    u : ℕ
    u = a % 16 * 64 + b % 64

    v : ℕ
    v = u * 64 + d % 64

    go : (x : Bool) → (between (lowest a) (highest a) b && is_tail d) ≡ x → Undone a (b ∷ d ∷ s) (cond x (good v 2) bad)
    go false e = not_taken a (b ∷ d ∷ s)
    go true e =
        let t = and_yes (between (lowest a) (highest a) b) (is_tail d) (true→T _ e) in
        let tb = and_yes (leb (lowest a) b) (leb b (highest a)) t.0 in
        let td = and_yes (leb 0x80 d) (leb d 0xBF) t.1 in
        let low : lowest a ≤ b = leb_yes tb.0 in
        let high : b ≤ highest a = leb_yes tb.1 in
        let bl : 0x80 ≤ b = low_80 a b low in
        let bh : b ≤ 0xBF = high_BF a b high in
        let dl : 0x80 ≤ d = leb_yes td.0 in
        let dh : d ≤ 0xBF = leb_yes td.1 in
        let la : 0xE0 + a % 16 ≡ a = omega arith in
        let vd : v / 64 ≡ u = shift_div u (d % 64) (mod-lt d) in
        let vm : v % 64 ≡ d % 64 = shift_mod u (d % 64) (mod-lt d) in
        let ud : u / 64 ≡ a % 16 = shift_div (a % 16) (b % 64) (mod-lt b) in
        let um : u % 64 ≡ b % 64 = shift_mod (a % 16) (b % 64) (mod-lt b) in
        let bh' : b % 64 < 64 = mod-lt b in
        let dh' : d % 64 < 64 = mod-lt d in
        let vl : 0x800 ≤ v = low_3 a b (d % 64) l h low bh in
        let vh : v ≤ 0xFFFF = omega arith in
        taken a (b ∷ d ∷ s) v 2 (scalar_3 a b (d % 64) l h bl high bh dh')
        (rw (enc_3 v vl vh, div_2 v, vd, vm, ud, um, la, tail_is b bl bh, tail_is d dl dh))

four_taken : (a : ℕ) (s : List ℕ) → 0xF0 ≤ a → a ≤ 0xF4 → Undone a s (four a s)
unfolding four
four_taken a [] l h = not_taken a []
four_taken a (b ∷ []) l h = not_taken a (b ∷ [])
four_taken a (b ∷ d ∷ []) l h = not_taken a (b ∷ d ∷ [])
four_taken a (b ∷ d ∷ f ∷ s) l h = go (between (lowest a) (highest a) b && is_tail d && is_tail f) refl
  where
    t : ℕ
    t = a % 8 * 64 + b % 64

    u : ℕ
    u = t * 64 + d % 64

    v : ℕ
    v = u * 64 + f % 64

    go : (x : Bool) → (between (lowest a) (highest a) b && is_tail d && is_tail f) ≡ x → Undone a (b ∷ d ∷ f ∷ s) (cond x (good v 3) bad)
    go false e = not_taken a (b ∷ d ∷ f ∷ s)
    go true e =
        let tf = and_yes (between (lowest a) (highest a) b && is_tail d) (is_tail f) (true→T _ e) in
        let tt' = and_yes (between (lowest a) (highest a) b) (is_tail d) tf.0 in
        let tb = and_yes (leb (lowest a) b) (leb b (highest a)) tt'.0 in
        let td = and_yes (leb 0x80 d) (leb d 0xBF) tt'.1 in
        let te = and_yes (leb 0x80 f) (leb f 0xBF) tf.1 in
        let low : lowest a ≤ b = leb_yes tb.0 in
        let high : b ≤ highest a = leb_yes tb.1 in
        let bl : 0x80 ≤ b = low_80 a b low in
        let bh : b ≤ 0xBF = high_BF a b high in
        let la : 0xF0 + a % 8 ≡ a = omega arith in
        let vd : v / 64 ≡ u = shift_div u (f % 64) (mod-lt f) in
        let vm : v % 64 ≡ f % 64 = shift_mod u (f % 64) (mod-lt f) in
        let ud : u / 64 ≡ t = shift_div t (d % 64) (mod-lt d) in
        let um : u % 64 ≡ d % 64 = shift_mod t (d % 64) (mod-lt d) in
        let sd : t / 64 ≡ a % 8 = shift_div (a % 8) (b % 64) (mod-lt b) in
        let sm : t % 64 ≡ b % 64 = shift_mod (a % 8) (b % 64) (mod-lt b) in
        let vl : 0x10000 ≤ v = low_4 a b (d % 64) (f % 64) l h low bh in
        let vh : v ≤ last_scalar = high_4 a b (d % 64) (f % 64) l h bl high (mod-lt d) (mod-lt f) in
        taken a (b ∷ d ∷ f ∷ s) v 3 (scalar_high v (omega_le vl) vh)
        (rw (enc_4 v vl, div_3 v, div_2 v, vd, vm, ud, um, sd, sm, la, tail_is b bl bh, tail_is d (leb_yes td.0) (leb_yes td.1), tail_is f (leb_yes te.0) (leb_yes te.1)))

pub first_taken : (a : ℕ) (s : List ℕ) → Undone a s (first a s)
unfolding first
first_taken a s = go (leb a 0x7F) (leb a 0xC1) (leb a 0xDF) (leb a 0xEF) (leb a 0xF4) refl refl refl refl refl
  where
    go : (v w x y z : Bool) → leb a 0x7F ≡ v → leb a 0xC1 ≡ w → leb a 0xDF ≡ x → leb a 0xEF ≡ y → leb a 0xF4 ≡ z
        → Undone a s (cond v (good a 0) (cond w bad (cond x (two a s) (cond y (three a s) (cond z (four a s) bad)))))
    go true w x y z e₁ e₂ e₃ e₄ e₅ = let h : a ≤ 0x7F = leb-true a 0x7F e₁ in taken a s a 0 (scalar_low a (omega arith)) (rw (enc_1 a h))
    go false true x y z e₁ e₂ e₃ e₄ e₅ = not_taken a s
    go false false true y z e₁ e₂ e₃ e₄ e₅ = two_taken a s (leb-false a 0xC1 e₂) (leb-true a 0xDF e₃)
    go false false false true z e₁ e₂ e₃ e₄ e₅ = three_taken a s (leb-false a 0xDF e₃) (leb-true a 0xEF e₄)
    go false false false false true e₁ e₂ e₃ e₄ e₅ = four_taken a s (leb-false a 0xEF e₄) (leb-true a 0xF4 e₅)
    go false false false false false e₁ e₂ e₃ e₄ e₅ = not_taken a s

pub decode_sound : (s : List ℕ) (at skip : ℕ) (cs : List ℕ) → decode_from at skip s ≡ chars cs → T (all is_scalar cs) × (drop skip s ≡ utf8 cs)
unfolding decode_from utf8
decode_sound [] at skip cs h =
    let e : cs ≡ [] = cc in
    (rw e tt, drop-nil skip ∙ ap utf8 (sym e))
decode_sound (a ∷ s) at (suc skip) cs h = decode_sound s (suc at) skip cs h
decode_sound (a ∷ s) at zero cs h = first_case (first a s) refl h (λ extra cs'. decode_sound s (suc at) extra cs')
  where
    Goal : Type 0
    Goal = T (all is_scalar cs) × (a ∷ s ≡ utf8 cs)

    rest_case : (c extra : ℕ) → first a s ≡ good c extra → (o : Text) → decode_from (suc at) extra s ≡ o → cons_text c o ≡ chars cs
        → ((cs' : List ℕ) → decode_from (suc at) extra s ≡ chars cs' → T (all is_scalar cs') × (drop extra s ≡ utf8 cs')) → Goal
    rest_case c extra ef (broken p) eo h ih = broken_chars h
    rest_case c extra ef (chars cs') eo h ih =
        let e : cs ≡ c ∷ cs' = cc in
        let (sc, w) = first_taken a s c extra ef in
        let (all', w') = ih cs' eo in
        (rw e (yes_and (is_scalar c) (all is_scalar cs') sc all'), w ∙ ap (λ x. utf8_of c ++ x) w' ∙ ap utf8 (sym e))

    first_case : (f : First) → first a s ≡ f → onward at f (λ extra. decode_from (suc at) extra s) ≡ chars cs
        → ((extra : ℕ) (cs' : List ℕ) → decode_from (suc at) extra s ≡ chars cs' → T (all is_scalar cs') × (drop extra s ≡ utf8 cs')) → Goal
    first_case bad e h ih = broken_chars h
    first_case (good c extra) e h ih = rest_case c extra e (decode_from (suc at) extra s) refl h (ih extra)
