-- What the class of an octet tells of the paper's decoder, by tests that antt computes over the 256 octets; and what the decoder says
-- of the octets behind it.
-- Assumes nothing.
use Prim.Native.Nat.{ℕ, suc, ◌+◌, ◌-◌, ◌*◌, ◌%◌, ◌≤◌, ◌<◌}
use native.Mathlib.Omega.{arith}
use mathlib.Core.Path.{◌≡◌, refl, sym, ap, ◌∙◌}
use mathlib.Core.Bool.{Bool, true, false, not, cond, ◌&&◌}
use mathlib.Core.List.{List, [], ◌∷◌}
use lib.Dec.{T, leb, eqb, eqb→eq}
use lib.ListN.{length, drop, get_or, length-drop}
use lib.Seq.{drop-cons}
use mir.Facts.{and_yes, leb_yes}
use borrow.Author.Tests.{le-leb, lt-leb, leb-true, leb-false, eq-eqb, ne_eqb}
use Rattle.paper.specs.Text.Scalar.{between, In}
use Rattle.paper.specs.Computed.Decode.{bad, good, lowest, highest, is_tail, two, three, four, first}
use Rattle.paper.proofs.Lists.Facts.{below, from_below, true→T}
use Rattle.text.specs.Classes.{tail, lead2, lead3, lead4, lead_e0, lead_ed, lead_f0, lead_f4, class_of}
use Rattle.text.specs.Answers.{Second}

-- ---- tests over the octets

abbrev agree : Bool → Bool → Bool
agree true b = b
agree false b = not b

agree_eq : (a b : Bool) → T (agree a b) → a ≡ b
agree_eq true true t = refl
agree_eq true false t = absurd t
agree_eq false true t = absurd t
agree_eq false false t = refl

octets : (p q : ℕ → Bool) → T (below (λ b. agree (p b) (q b)) 256) → {b : ℕ} → b < 256 → p b ≡ q b
octets p q t {b} h = agree_eq (p b) (q b) (from_below (λ b. agree (p b) (q b)) 256 t b h)

abbrev implies : Bool → Bool → Bool
implies true b = b
implies false b = true

implied : (a b : Bool) → T (implies a b) → a ≡ true → T b
implied true b t e = t
implied false b t e = absurd (true→T false e)

-- an octet of one class: where it is, and what it leaves its second octet
pub record Begins (a from to low high : ℕ) : Type 0 where
  pub within : In from to a
  pub second : Second a low high

abbrev begins_test : ℕ → ℕ → ℕ → ℕ → ℕ → ℕ → Bool
begins_test k from to low high a = implies (eqb (class_of a) k) (between from to a && (eqb low (lowest a) && eqb high (highest a)))

module _ {a : ℕ} (o : a < 256) where
  begins : (k from to low high : ℕ) → T (below (begins_test k from to low high) 256) → class_of a ≡ k → Begins a from to low high
  begins k from to low high t e =
      let h = implied (eqb (class_of a) k) _ (from_below (begins_test k from to low high) 256 t a o) (eq-eqb (class_of a) k e) in
      let b = and_yes (between from to a) (eqb low (lowest a) && eqb high (highest a)) h in
      let r = and_yes (leb from a) (leb a to) b.0 in
      let w = and_yes (eqb low (lowest a)) (eqb high (highest a)) b.1 in
      record {
        within = record { from = leb_yes r.0; to = leb_yes r.1 };
        second = record { from = eqb→eq low (lowest a) w.0; to = eqb→eq high (highest a) w.1 };
      }

  pub begins_2 : class_of a ≡ lead2 → Begins a 0xC2 0xDF 0x80 0xBF
  unfolding class_of lowest highest
  begins_2 = begins lead2 0xC2 0xDF 0x80 0xBF tt

  pub begins_3 : class_of a ≡ lead3 → Begins a 0xE0 0xEF 0x80 0xBF
  unfolding class_of lowest highest
  begins_3 = begins lead3 0xE0 0xEF 0x80 0xBF tt

  pub begins_4 : class_of a ≡ lead4 → Begins a 0xF0 0xF4 0x80 0xBF
  unfolding class_of lowest highest
  begins_4 = begins lead4 0xF0 0xF4 0x80 0xBF tt

  pub begins_E0 : class_of a ≡ lead_e0 → Begins a 0xE0 0xEF 0xA0 0xBF
  unfolding class_of lowest highest
  begins_E0 = begins lead_e0 0xE0 0xEF 0xA0 0xBF tt

  pub begins_ED : class_of a ≡ lead_ed → Begins a 0xE0 0xEF 0x80 0x9F
  unfolding class_of lowest highest
  begins_ED = begins lead_ed 0xE0 0xEF 0x80 0x9F tt

  pub begins_F0 : class_of a ≡ lead_f0 → Begins a 0xF0 0xF4 0x90 0xBF
  unfolding class_of lowest highest
  begins_F0 = begins lead_f0 0xF0 0xF4 0x90 0xBF tt

  pub begins_F4 : class_of a ≡ lead_f4 → Begins a 0xF0 0xF4 0x80 0x8F
  unfolding class_of lowest highest
  begins_F4 = begins lead_f4 0xF0 0xF4 0x80 0x8F tt

  tail_test : eqb (class_of a) tail ≡ is_tail a
  unfolding class_of
  tail_test = octets (λ b. eqb (class_of b) tail) is_tail tt o

  pub is_tail_lem : class_of a ≡ tail → is_tail a ≡ true
  is_tail_lem e = sym tail_test ∙ eq-eqb (class_of a) tail e

  pub no_tail : (class_of a ≡ tail → ⊥) → is_tail a ≡ false
  no_tail n = sym tail_test ∙ ne_eqb (class_of a) tail n

  lead_test : between lead2 lead_f4 (class_of a) ≡ between 0xC2 0xF4 a
  unfolding class_of
  lead_test = octets (λ b. between lead2 lead_f4 (class_of b)) (between 0xC2 0xF4) tt o

  -- an octet that begins no character
  pub first_none : (s : List ℕ) → 0x80 ≤ a → (In lead2 lead_f4 (class_of a) → ⊥) → first a s ≡ bad
  unfolding first
  first_none s n m =
      go (leb a 0xC1) (leb a 0xDF) (leb a 0xEF) (leb a 0xF4) refl refl refl refl
    where
      high : leb a 0x7F ≡ false
      high = lt-leb a 0x7F n

      out : (0xC2 ≤ a → a ≤ 0xF4 → ⊥)
      out l h =
          let t = and_yes (leb lead2 (class_of a)) (leb (class_of a) lead_f4)
          (true→T _ (lead_test ∙ ap (λ x. x && leb a 0xF4) (le-leb 0xC2 a l) ∙ le-leb a 0xF4 h)) in
          m (record { from = leb_yes t.0; to = leb_yes t.1 })

      go : (w x y z : Bool) → leb a 0xC1 ≡ w → leb a 0xDF ≡ x → leb a 0xEF ≡ y → leb a 0xF4 ≡ z
          → cond (leb a 0x7F) (good a 0) (cond w bad (cond x (two a s) (cond y (three a s) (cond z (four a s) bad)))) ≡ bad
      go true x y z e f g h = rw high
      go false true y z e f g h = absurd (out (leb-false a 0xC1 e) (omega (arith, leb-true a 0xDF f)))
      go false false true z e f g h = absurd (out (leb-false a 0xC1 e) (omega (arith, leb-true a 0xEF g)))
      go false false false true e f g h = absurd (out (leb-false a 0xC1 e) (leb-true a 0xF4 h))
      go false false false false e f g h = rw high

-- ---- how the decoder goes on

pub first_low : {a : ℕ} (s : List ℕ) → In 0x80 0xC1 a → first a s ≡ bad
unfolding first
first_low {a} s i = let h : 0x7F < a = omega arith in rw (lt-leb a 0x7F h, le-leb a 0xC1 i.to)

pub first_2 : {a : ℕ} (s : List ℕ) → In 0xC2 0xDF a → first a s ≡ two a s
unfolding first
first_2 {a} s i =
    let h : 0x7F < a = omega arith in
    let l : 0xC1 < a = omega arith in
    rw (lt-leb a 0x7F h, lt-leb a 0xC1 l, le-leb a 0xDF i.to)

pub first_3 : {a : ℕ} (s : List ℕ) → In 0xE0 0xEF a → first a s ≡ three a s
unfolding first
first_3 {a} s i =
    let h : 0x7F < a = omega arith in
    let l : 0xC1 < a = omega arith in
    let m : 0xDF < a = omega arith in
    rw (lt-leb a 0x7F h, lt-leb a 0xC1 l, lt-leb a 0xDF m, le-leb a 0xEF i.to)

pub first_4 : {a : ℕ} (s : List ℕ) → In 0xF0 0xF4 a → first a s ≡ four a s
unfolding first
first_4 {a} s i =
    let h : 0x7F < a = omega arith in
    let l : 0xC1 < a = omega arith in
    let m : 0xDF < a = omega arith in
    let n : 0xEF < a = omega arith in
    rw (lt-leb a 0x7F h, lt-leb a 0xC1 l, lt-leb a 0xDF m, lt-leb a 0xEF n, le-leb a 0xF4 i.to)

pub two_short : (a : ℕ) (r : List ℕ) → length r < 1 → two a r ≡ bad
unfolding two
two_short a [] h = refl
two_short a (b ∷ r) h = absurd (omega arith)

pub three_short : (a : ℕ) (r : List ℕ) → length r < 2 → three a r ≡ bad
unfolding three
three_short a [] h = refl
three_short a (b ∷ []) h = refl
three_short a (b ∷ c ∷ r) h = absurd (omega arith)

pub four_short : (a : ℕ) (r : List ℕ) → length r < 3 → four a r ≡ bad
unfolding four
four_short a [] h = refl
four_short a (b ∷ []) h = refl
four_short a (b ∷ c ∷ []) h = refl
four_short a (b ∷ c ∷ d ∷ r) h = absurd (omega arith)

and_false : (a : Bool) {b : Bool} → b ≡ false → (a && b) ≡ false
and_false true e = e
and_false false e = refl

-- a second octet outside what the first leaves it
pub too_low : {a low high b : ℕ} → Second a low high → b < low → between (lowest a) (highest a) b ≡ false
too_low {a} {b = b} w h = let k : b < lowest a = rw w.from at h in rw (lt-leb (lowest a) b k)

pub too_high : {a low high b : ℕ} → Second a low high → high < b → between (lowest a) (highest a) b ≡ false
too_high {a} {b = b} w h = let k : highest a < b = rw w.to at h in and_false (leb (lowest a) b) (lt-leb b (highest a) k)

pub just_so : {a low high b : ℕ} → Second a low high → low ≤ b → b ≤ high → between (lowest a) (highest a) b ≡ true
just_so {a} {b = b} w l h =
    let j : lowest a ≤ b = rw w.from at l in
    let k : b ≤ highest a = rw w.to at h in
    rw (le-leb (lowest a) b j, le-leb b (highest a) k)

-- the octets behind the first, as they lie
module _ (s : List ℕ) (at : ℕ) where
  abbrev a : ℕ
  a = get_or s at 0

  abbrev b : ℕ
  b = get_or s (at + 1) 0

  abbrev c : ℕ
  c = get_or s (at + 2) 0

  abbrev d : ℕ
  d = get_or s (at + 3) 0

  abbrev rest : List ℕ
  rest = drop (at + 1) s

  front : (j k : ℕ) → k ≡ suc j → j < length s → drop j s ≡ get_or s j 0 ∷ drop k s
  front j k e h = rw e (drop-cons s j 0 h)

  front_1 : at + 1 < length s → rest ≡ b ∷ drop (at + 2) s
  front_1 h = front (at + 1) (at + 2) (omega arith) h

  front_2 : at + 2 < length s → rest ≡ b ∷ c ∷ drop (at + 3) s
  front_2 h = front_1 (omega arith) ∙ ap (λ (l : List ℕ). b ∷ l) (front (at + 2) (at + 3) (omega arith) h)

  front_3 : at + 3 < length s → rest ≡ b ∷ c ∷ d ∷ drop (at + 4) s
  front_3 h = front_2 (omega arith) ∙ ap (λ (l : List ℕ). b ∷ c ∷ l) (front (at + 3) (at + 4) (omega arith) h)

  pub two_ends : length s - at < 2 → two a rest ≡ bad
  two_ends h = two_short a rest (simp length-drop (omega arith))

  pub three_ends : length s - at < 3 → three a rest ≡ bad
  three_ends h = three_short a rest (simp length-drop (omega arith))

  pub four_ends : length s - at < 4 → four a rest ≡ bad
  four_ends h = four_short a rest (simp length-drop (omega arith))

  pub two_by : 2 ≤ length s - at → (y : Bool) → is_tail b ≡ y → two a rest ≡ cond y (good (a % 32 * 64 + b % 64) 1) bad
  unfolding two
  two_by h y f = let k : at + 1 < length s = omega arith in rw (front_1 k, f)

  pub three_by : 3 ≤ length s - at → (x y : Bool) → between (lowest a) (highest a) b ≡ x → is_tail c ≡ y
      → three a rest ≡ cond (x && y) (good ((a % 16 * 64 + b % 64) * 64 + c % 64) 2) bad
  unfolding three
  three_by h x y e f = let k : at + 2 < length s = omega arith in rw (front_2 k, e, f)

  pub four_by : 4 ≤ length s - at → (x y z : Bool) → between (lowest a) (highest a) b ≡ x → is_tail c ≡ y → is_tail d ≡ z
      → four a rest ≡ cond (x && y && z) (good (((a % 8 * 64 + b % 64) * 64 + c % 64) * 64 + d % 64) 3) bad
  unfolding four
  four_by h x y z e f g = let k : at + 3 < length s = omega arith in rw (front_3 k, e, f, g)
