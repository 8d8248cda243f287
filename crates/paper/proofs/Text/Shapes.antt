-- A character by the ABNF of RFC 3629, section 4, and by the decoder: the one reads what the other has an alternative for.
-- Assumes nothing.
use Prim.Native.Nat.{ℕ, ◌+◌, ◌*◌, ◌%◌, ◌≤◌, zero-le, suc-le-suc}
use native.Mathlib.Omega.{arith}
use native.Mathlib.Decide.{ℕ_discrete, dec_le}
use mathlib.Core.Path.{◌≡◌, refl}
use mathlib.Core.Bool.{Bool, true, false, cond, ◌&&◌}
use mathlib.Core.List.{List, [], ◌∷◌, ◌++◌}
use lib.Dec.{T, leb}
use lib.ListN.{length, take, drop}
use mir.Facts.{and_yes, leb_yes}
use borrow.Author.Tests.{leb-true, leb-false}
use Rattle.paper.specs.Text.Scalar.{between, In, Tail, WellFormed, nothing, utf8_1, utf8_2, utf8_3_E0, utf8_3_E1, utf8_3_ED, utf8_3_EE, utf8_4_F0, utf8_4_F1, utf8_4_F4}
use Rattle.paper.specs.Computed.Decode.{First, bad, good, lowest, highest, is_tail, two, three, four, first}
use Rattle.paper.proofs.Apart.{bad_good}
use Rattle.paper.proofs.Lists.Facts.{true→T}
use Rattle.paper.proofs.Text.Lengths.{low_ok, high_ok, dec_1, dec_2, dec_3, dec_4, low_80, high_BF, low_E0, low_F0, high_ED, high_F4}

-- the first character of a well-formed text, whatever follows, and the rest
pub record Starts (a : ℕ) (s : List ℕ) : Type 0 where
  pub value : ℕ
  pub extra : ℕ
  pub there : extra ≤ length s
  pub rest : WellFormed (drop extra s)
  pub read : (t : List ℕ) → first a (s ++ t) ≡ good value extra

abbrev pub Started : List ℕ → Type 0
Started [] = Unit {0}
Started (a ∷ s) = Starts a s

-- three bytes, four bytes, by what the first allows the second
by_3 : (a b c : ℕ) {s : List ℕ} → 0xE0 ≤ a → a ≤ 0xEF → lowest a ≤ b → b ≤ highest a → Tail c → WellFormed s → Starts a (b ∷ c ∷ s)
by_3 a b c {s} l h bl bh tc w =
    record { value = (a % 16 * 64 + b % 64) * 64 + c % 64; extra = 2; there = suc-le-suc (suc-le-suc zero-le); rest = w; read = λ t. dec_3 a b c (s ++ t) l h bl bh tc.from tc.to }

by_4 : (a b c d : ℕ) {s : List ℕ} → 0xF0 ≤ a → a ≤ 0xF4 → lowest a ≤ b → b ≤ highest a → Tail c → Tail d → WellFormed s → Starts a (b ∷ c ∷ d ∷ s)
by_4 a b c d {s} l h bl bh tc td w =
    record { value = ((a % 8 * 64 + b % 64) * 64 + c % 64) * 64 + d % 64; extra = 3; there = suc-le-suc (suc-le-suc (suc-le-suc zero-le)); rest = w; read = λ t. dec_4 a b c d (s ++ t) l h bl bh tc.from tc.to td.from td.to }

pub started : {s : List ℕ} → WellFormed s → Started s
started nothing = tt
started (utf8_1 {a = a} {s = s} i w) = record { value = a; extra = 0; there = zero-le; rest = w; read = λ t. dec_1 a (s ++ t) i.to }
started (utf8_2 {a = a} {b = b} {s = s} i j w) =
    record { value = a % 32 * 64 + b % 64; extra = 1; there = suc-le-suc zero-le; rest = w; read = λ t. dec_2 a b (s ++ t) i.from i.to j.from j.to }
started (utf8_3_E0 {a = a} {b = b} {c = c} i j k w) =
    by_3 a b c i.from (omega arith) (low_ok a b (λ e. j.from) (λ e. omega arith) (omega arith)) (high_ok a b (λ e. omega arith) (λ e. omega arith) j.to) k w
started (utf8_3_E1 {a = a} {b = b} {c = c} i j k w) =
    by_3 a b c (omega arith) (omega arith) (low_ok a b (λ e. omega arith) (λ e. omega arith) j.from) (high_ok a b (λ e. omega arith) (λ e. omega arith) j.to) k w
started (utf8_3_ED {a = a} {b = b} {c = c} i j k w) =
    by_3 a b c (omega arith) (omega arith) (low_ok a b (λ e. omega arith) (λ e. omega arith) j.from) (high_ok a b (λ e. j.to) (λ e. omega arith) (omega arith)) k w
started (utf8_3_EE {a = a} {b = b} {c = c} i j k w) =
    by_3 a b c (omega arith) (omega arith) (low_ok a b (λ e. omega arith) (λ e. omega arith) j.from) (high_ok a b (λ e. omega arith) (λ e. omega arith) j.to) k w
started (utf8_4_F0 {a = a} {b = b} {c = c} {d = d} i j k m w) =
    by_4 a b c d (omega arith) (omega arith) (low_ok a b (λ e. omega arith) (λ e. j.from) (omega arith)) (high_ok a b (λ e. omega arith) (λ e. omega arith) j.to) k m w
started (utf8_4_F1 {a = a} {b = b} {c = c} {d = d} i j k m w) =
    by_4 a b c d (omega arith) (omega arith) (low_ok a b (λ e. omega arith) (λ e. omega arith) j.from) (high_ok a b (λ e. omega arith) (λ e. omega arith) j.to) k m w
started (utf8_4_F4 {a = a} {b = b} {c = c} {d = d} i j k m w) =
    by_4 a b c d (omega arith) (omega arith) (low_ok a b (λ e. omega arith) (λ e. omega arith) j.from) (high_ok a b (λ e. omega arith) (λ e. j.to) (omega arith)) k m w

-- ---- a character that is read is well-formed, with anything well-formed behind it

pub record Shaped (a : ℕ) (s : List ℕ) (extra : ℕ) : Type 0 where
  pub there : extra ≤ length s
  pub glue : (t : List ℕ) → WellFormed t → WellFormed (a ∷ (take extra s ++ t))

abbrev Shapes : ℕ → List ℕ → First → Type 0
Shapes a s f = (c extra : ℕ) → f ≡ good c extra → Shaped a s extra

shaped : (a : ℕ) (s : List ℕ) (v n : ℕ) → Shaped a s n → Shapes a s (good v n)
shaped a s v n r c extra e =
    let en : extra ≡ n = cc in
    rw en r

not_shaped : (a : ℕ) (s : List ℕ) → Shapes a s bad
not_shaped a s c extra e = bad_good e

within : (lo hi b : ℕ) → T (between lo hi b) → In lo hi b
within lo hi b t = let h = and_yes (leb lo b) (leb b hi) t in record { from = leb_yes h.0; to = leb_yes h.1 }

two_shapes : (a : ℕ) (s : List ℕ) → 0xC2 ≤ a → a ≤ 0xDF → Shapes a s (two a s)
unfolding two
two_shapes a [] l h = not_shaped a []
two_shapes a (b ∷ s) l h = go (is_tail b) refl
  where
    go : (x : Bool) → is_tail b ≡ x → Shapes a (b ∷ s) (cond x (good (a % 32 * 64 + b % 64) 1) bad)
    go false e = not_shaped a (b ∷ s)
    go true e =
        shaped a (b ∷ s) (a % 32 * 64 + b % 64) 1
        (record { there = suc-le-suc zero-le; glue = λ t w. utf8_2 (record { from = l; to = h }) (within 0x80 0xBF b (true→T _ e)) w })

wf_3 : (a b d : ℕ) (t : List ℕ) → 0xE0 ≤ a → a ≤ 0xEF → lowest a ≤ b → b ≤ highest a → Tail d → WellFormed t → WellFormed (a ∷ b ∷ d ∷ t)
wf_3 a b d t l h low high td w =
    let bl : 0x80 ≤ b = low_80 a b low in
    let bh : b ≤ 0xBF = high_BF a b high in
    let tb : Tail b = record { from = bl; to = bh } in
    elim (ℕ_discrete a 0xE0) [
      | yes e ↦ (let i : In 0xE0 0xE0 a = omega arith in utf8_3_E0 i (record { from = low_E0 b (rw e at low); to = bh }) td w)
      | no n ↦ elim (dec_le a 0xEC) [
        | yes k ↦ (let i : In 0xE1 0xEC a = omega arith in utf8_3_E1 i tb td w)
        | no k ↦ elim (ℕ_discrete a 0xED) [
          | yes e ↦ (let i : In 0xED 0xED a = omega arith in utf8_3_ED i (record { from = bl; to = high_ED b (rw e at high) }) td w)
          | no m ↦ (let i : In 0xEE 0xEF a = omega arith in utf8_3_EE i tb td w)
        ]
      ]
    ]

wf_4 : (a b d f : ℕ) (t : List ℕ) → 0xF0 ≤ a → a ≤ 0xF4 → lowest a ≤ b → b ≤ highest a → Tail d → Tail f → WellFormed t → WellFormed (a ∷ b ∷ d ∷ f ∷ t)
wf_4 a b d f t l h low high td tf w =
    let bl : 0x80 ≤ b = low_80 a b low in
    let bh : b ≤ 0xBF = high_BF a b high in
    let tb : Tail b = record { from = bl; to = bh } in
    elim (ℕ_discrete a 0xF0) [
      | yes e ↦ (let i : In 0xF0 0xF0 a = omega arith in utf8_4_F0 i (record { from = low_F0 b (rw e at low); to = bh }) td tf w)
      | no n ↦ elim (ℕ_discrete a 0xF4) [
        | yes e ↦ (let i : In 0xF4 0xF4 a = omega arith in utf8_4_F4 i (record { from = bl; to = high_F4 b (rw e at high) }) td tf w)
        | no m ↦ (let i : In 0xF1 0xF3 a = omega arith in utf8_4_F1 i tb td tf w)
      ]
    ]

three_shapes : (a : ℕ) (s : List ℕ) → 0xE0 ≤ a → a ≤ 0xEF → Shapes a s (three a s)
unfolding three
three_shapes a [] l h = not_shaped a []
three_shapes a (b ∷ []) l h = not_shaped a (b ∷ [])
three_shapes a (b ∷ d ∷ s) l h = go (between (lowest a) (highest a) b && is_tail d) refl
  where
    v : ℕ
    v = (a % 16 * 64 + b % 64) * 64 + d % 64

    go : (x : Bool) → (between (lowest a) (highest a) b && is_tail d) ≡ x → Shapes a (b ∷ d ∷ s) (cond x (good v 2) bad)
    go false e = not_shaped a (b ∷ d ∷ s)
    go true e =
        let t = and_yes (between (lowest a) (highest a) b) (is_tail d) (true→T _ e) in
        let tb = within (lowest a) (highest a) b t.0 in
        shaped a (b ∷ d ∷ s) v 2
        (record { there = suc-le-suc (suc-le-suc zero-le); glue = λ u w. wf_3 a b d u l h tb.from tb.to (within 0x80 0xBF d t.1) w })

four_shapes : (a : ℕ) (s : List ℕ) → 0xF0 ≤ a → a ≤ 0xF4 → Shapes a s (four a s)
unfolding four
four_shapes a [] l h = not_shaped a []
four_shapes a (b ∷ []) l h = not_shaped a (b ∷ [])
four_shapes a (b ∷ d ∷ []) l h = not_shaped a (b ∷ d ∷ [])
four_shapes a (b ∷ d ∷ f ∷ s) l h = go (between (lowest a) (highest a) b && is_tail d && is_tail f) refl
  where
    v : ℕ
    v = ((a % 8 * 64 + b % 64) * 64 + d % 64) * 64 + f % 64

    go : (x : Bool) → (between (lowest a) (highest a) b && is_tail d && is_tail f) ≡ x → Shapes a (b ∷ d ∷ f ∷ s) (cond x (good v 3) bad)
    go false e = not_shaped a (b ∷ d ∷ f ∷ s)
    go true e =
        let q = and_yes (between (lowest a) (highest a) b && is_tail d) (is_tail f) (true→T _ e) in
        let t = and_yes (between (lowest a) (highest a) b) (is_tail d) q.0 in
        let tb = within (lowest a) (highest a) b t.0 in
        shaped a (b ∷ d ∷ f ∷ s) v 3
        (record { there = suc-le-suc (suc-le-suc (suc-le-suc zero-le)); glue = λ u w. wf_4 a b d f u l h tb.from tb.to (within 0x80 0xBF d t.1) (within 0x80 0xBF f q.1) w })

pub first_shapes : (a : ℕ) (s : List ℕ) → Shapes a s (first a s)
unfolding first
first_shapes a s = go (leb a 0x7F) (leb a 0xC1) (leb a 0xDF) (leb a 0xEF) (leb a 0xF4) refl refl refl refl refl
  where
    go : (v w x y z : Bool) → leb a 0x7F ≡ v → leb a 0xC1 ≡ w → leb a 0xDF ≡ x → leb a 0xEF ≡ y → leb a 0xF4 ≡ z
        → Shapes a s (cond v (good a 0) (cond w bad (cond x (two a s) (cond y (three a s) (cond z (four a s) bad)))))
    go true w x y z e₁ e₂ e₃ e₄ e₅ =
        shaped a s a 0 (record { there = zero-le; glue = λ t w. utf8_1 (record { from = zero-le; to = leb-true a 0x7F e₁ }) w })
    go false true x y z e₁ e₂ e₃ e₄ e₅ = not_shaped a s
    go false false true y z e₁ e₂ e₃ e₄ e₅ = two_shapes a s (leb-false a 0xC1 e₂) (leb-true a 0xDF e₃)
    go false false false true z e₁ e₂ e₃ e₄ e₅ = three_shapes a s (leb-false a 0xDF e₃) (leb-true a 0xEF e₄)
    go false false false false true e₁ e₂ e₃ e₄ e₅ = four_shapes a s (leb-false a 0xEF e₄) (leb-true a 0xF4 e₅)
    go false false false false false e₁ e₂ e₃ e₄ e₅ = not_shaped a s
