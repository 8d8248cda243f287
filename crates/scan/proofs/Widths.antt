-- A gap's width, taken from bytes, is that of the character which they spell; a byte inside a character begins no gap.
-- What is no scalar value is no gap either, and the decoder takes none of its bytes.
-- Assumes nothing.
use Prim.Native.Nat.{ℕ, suc, ◌+◌, ◌*◌, ◌/◌, ◌%◌, ◌<◌, ◌≤◌}
use native.Mathlib.Omega.{arith}
use native.Mathlib.Decide.{ℕ_discrete}
use mathlib.Core.Path.{◌≡◌, refl, sym, ap, ◌∙◌}
use mathlib.Core.Logic.{◌⊎◌, inl, inr}
use mathlib.Core.Bool.{Bool, true, false, cond, ◌&&◌}
use mathlib.Core.List.{List, [], ◌∷◌, ◌++◌}
use lib.Dec.{leb}
use lib.ListN.{length, drop, get_or}
use borrow.Author.Tests.{lt-leb, leb-true, leb-false, ne_eqb}
use Rattle.paper.specs.Text.Scalar.{between, In, whites, is_white, is_sep, utf8_of}
use Rattle.paper.specs.Computed.Decode.{First, bad, good, is_tail, first}
use Rattle.paper.proofs.Text.Scalar.{scalar_low, scalar_high}
use Rattle.paper.proofs.Text.Lengths.{enc_1, enc_2, enc_3, enc_4}
use Rattle.text.specs.Answers.{white_by, white_width}
use Rattle.text.proofs.Chars.{found}
use Rattle.text.proofs.White.{Outside, no_white, width_by, width_ascii, width_char, width_tail}
use Rattle.scan.specs.Marks.{sep_width, gap_width, gap_byte}

-- ---- what is no scalar value

past : (lo hi b : ℕ) → hi < b → between lo hi b ≡ false
past lo hi b h = go (leb lo b)
  where
    go : (x : Bool) → (x && leb b hi) ≡ false
    go true = lt-leb b hi h
    go false = refl

ill_ED : (b c : ℕ) (t : List ℕ) → 0x9F < b → first 0xED (b ∷ c ∷ t) ≡ bad
unfolding first
ill_ED b c t h = ap (λ x. cond (x && is_tail c) (good ((0xED % 16 * 64 + b % 64) * 64 + c % 64) 2) bad) (past 0x80 0x9F b h)

ill_F4 : (b c d : ℕ) (t : List ℕ) → 0x8F < b → first 0xF4 (b ∷ c ∷ d ∷ t) ≡ bad
unfolding first
ill_F4 b c d t h =
    ap (λ x. cond (x && is_tail c && is_tail d) (good (((0xF4 % 8 * 64 + b % 64) * 64 + c % 64) * 64 + d % 64) 3) bad) (past 0x80 0x8F b h)

ill_F5 : (a : ℕ) (s : List ℕ) → 0xF4 < a → first a s ≡ bad
unfolding first
ill_F5 a s h =
    let h₁ : 0x7F < a = omega arith in
    let h₂ : 0xC1 < a = omega arith in
    let h₃ : 0xDF < a = omega arith in
    let h₄ : 0xEF < a = omega arith in
    rw (lt-leb a 0x7F h₁, lt-leb a 0xC1 h₂, lt-leb a 0xDF h₃, lt-leb a 0xEF h₄, lt-leb a 0xF4 h)

-- White_Space beyond ASCII stands below U+3001, and but for two characters from U+1680 on
white_far : (c : ℕ) → 0x3000 < c → is_white c ≡ false
white_far c h = no_white c ((λ i. omega arith), ((λ i. omega arith), ((λ i. omega arith), ((λ i. omega arith), ((λ i. omega arith), ((λ i. omega arith), ((λ i. omega arith), ((λ i. omega arith), ((λ i. omega arith), ((λ i. omega arith), ((λ i. omega arith), tt)))))))))))

white_near : (c : ℕ) → 0x80 ≤ c → c < 0x1680 → (c ≡ 0x85 → ⊥) → (c ≡ 0xA0 → ⊥) → is_white c ≡ false
white_near c l h f g = no_white c ((λ i. omega arith), ((λ i. omega arith), ((λ i. omega arith), ((λ i. omega arith), ((λ i. omega arith), ((λ i. omega arith), ((λ i. omega arith), ((λ i. omega arith), ((λ i. omega arith), ((λ i. omega arith), ((λ i. omega arith), tt)))))))))))

no_gap : (c : ℕ) (s : List ℕ) (n : ℕ) → 0xD800 ≤ c → white_width s ≡ 0 → white_width s ≡ cond (is_white c) n 0
no_gap c s n h e = e ∙ ap (λ x. cond x n 0) (sym (white_far c (omega arith)))

ill_surrogate : (c : ℕ) (t : List ℕ) → 0xD800 ≤ c → c ≤ 0xDFFF → white_width (utf8_of c ++ t) ≡ 0
ill_surrogate c t l h =
    let e : 0xE0 + c / 4096 ≡ 0xED = omega arith in
    let k : 0x800 ≤ c = omega arith in
    let m : c ≤ 0xFFFF = omega arith in
    let n : 0x9F < 0x80 + c / 64 % 64 = omega arith in
    rw (enc_3 c k m)
    (width_by _ bad (ap (λ a. first a ((0x80 + c / 64 % 64) ∷ (0x80 + c % 64) ∷ t)) e ∙ ill_ED (0x80 + c / 64 % 64) (0x80 + c % 64) t n))

ill_beyond : (c : ℕ) (t : List ℕ) → 0x10FFFF < c → white_width (utf8_of c ++ t) ≡ 0
ill_beyond c t l = let k : 0x10000 ≤ c = omega arith in rw (enc_4 c k) (width_by _ bad (go (leb (0xF0 + c / 262144) 0xF4) refl))
  where
    go : (x : Bool) → leb (0xF0 + c / 262144) 0xF4 ≡ x
        → first (0xF0 + c / 262144) ((0x80 + c / 4096 % 64) ∷ (0x80 + c / 64 % 64) ∷ (0x80 + c % 64) ∷ t) ≡ bad
    go true e =
        let h = leb-true (0xF0 + c / 262144) 0xF4 e in
        let d : 0xF0 + c / 262144 ≡ 0xF4 = omega arith in
        let n : 0x8F < 0x80 + c / 4096 % 64 = omega arith in
        ap (λ a. first a ((0x80 + c / 4096 % 64) ∷ (0x80 + c / 64 % 64) ∷ (0x80 + c % 64) ∷ t)) d
        ∙ ill_F4 (0x80 + c / 4096 % 64) (0x80 + c / 64 % 64) (0x80 + c % 64) t n
    go false e = ill_F5 (0xF0 + c / 262144) _ (leb-false (0xF0 + c / 262144) 0xF4 e)

-- ---- White_Space

pub white_lead : (c : ℕ) (t : List ℕ) → white_width (utf8_of c ++ t) ≡ cond (is_white c) (length (utf8_of c)) 0
white_lead c t = go (leb c 0xD7FF) (leb c 0xDFFF) (leb c 0x10FFFF) refl refl refl
  where
    go : (x y z : Bool) → leb c 0xD7FF ≡ x → leb c 0xDFFF ≡ y → leb c 0x10FFFF ≡ z
        → white_width (utf8_of c ++ t) ≡ cond (is_white c) (length (utf8_of c)) 0
    go true y z e f g = width_char c t (scalar_low c (leb-true c 0xD7FF e))
    go false true z e f g =
        let l : 0xD800 ≤ c = leb-false c 0xD7FF e in
        no_gap c (utf8_of c ++ t) (length (utf8_of c)) l (ill_surrogate c t l (leb-true c 0xDFFF f))
    go false false true e f g = width_char c t (scalar_high c (leb-false c 0xDFFF f) (leb-true c 0x10FFFF g))
    go false false false e f g =
        no_gap c (utf8_of c ++ t) (length (utf8_of c)) (leb-false c 0xD7FF e) (ill_beyond c t (leb-false c 0x10FFFF g))

pub white_tail : (b : ℕ) (t : List ℕ) → 0x80 ≤ b → b ≤ 0xBF → white_width (b ∷ t) ≡ 0
white_tail b t l h = width_tail b t (record { from = l; to = h })

-- where a character's first byte is no first byte of White_Space
module _ (b : ℕ) (t : List ℕ) (high : 0x80 ≤ b) (two : b ≡ 0xC2 → ⊥) (three : (b < 0xE1) ⊎ (0xE3 < b)) where
  lead_no : (c : ℕ) (u : List ℕ) → b ∷ t ≡ utf8_of c ++ u → is_white c ≡ false
  lead_no c u e = go (leb c 0x7F) (leb c 0x7FF) (leb c 0xFFFF) refl refl refl three
    where
      first_is : {s : List ℕ} → utf8_of c ≡ s → b ≡ get_or (s ++ u) 0 0
      first_is d = ap (λ l. get_or l 0 0) (e ∙ ap (λ s. s ++ u) d)

      go : (x y z : Bool) → leb c 0x7F ≡ x → leb c 0x7FF ≡ y → leb c 0xFFFF ≡ z → (b < 0xE1) ⊎ (0xE3 < b) → is_white c ≡ false
      go true y z f g h o =
          let l : c ≤ 0x7F = leb-true c 0x7F f in
          let d : b ≡ c = first_is (enc_1 c l) in
          absurd (omega arith)
      go false true z f g h o =
          let l : 0x80 ≤ c = leb-false c 0x7F f in
          let m : c ≤ 0x7FF = leb-true c 0x7FF g in
          let d : b ≡ 0xC0 + c / 64 = first_is (enc_2 c l m) in
          white_near c l (omega arith) (λ q. omega arith) (λ q. omega arith)
      go false false true f g h (inl o) =
          let l : 0x800 ≤ c = leb-false c 0x7FF g in
          let d : b ≡ 0xE0 + c / 4096 = first_is (enc_3 c l (leb-true c 0xFFFF h)) in
          white_near c (omega arith) (omega arith) (λ q. omega arith) (λ q. omega arith)
      go false false true f g h (inr o) =
          let l : 0x800 ≤ c = leb-false c 0x7FF g in
          let d : b ≡ 0xE0 + c / 4096 = first_is (enc_3 c l (leb-true c 0xFFFF h)) in
          white_far c (omega arith)
      go false false false f g h o = white_far c (omega (arith, leb-false c 0xFFFF h))

  pub white_none : white_width (b ∷ t) ≡ 0
  unfolding white_width
  white_none = go (first b t) refl
    where
      go : (f : First) → first b t ≡ f → white_by f ≡ 0
      go bad e = refl
      go (good c extra) e = ap (λ x. cond x (suc extra) 0) (lead_no c (drop (suc extra) (b ∷ t)) (found (b ∷ t) c extra e).split)

-- a gap's character stands whole
cond_le : (x : Bool) (a n : ℕ) → a ≤ n → cond x a 0 ≤ n
cond_le true a n h = h
cond_le false a n h = omega arith

pub white_le : (s : List ℕ) → white_width s ≤ length s
unfolding white_width
white_le [] = omega arith
white_le (a ∷ s) = go (first a s) refl
  where
    go : (f : First) → first a s ≡ f → white_by f ≤ suc (length s)
    go bad e = omega arith
    go (good c extra) e = cond_le (is_white c) (suc extra) (suc (length s)) (found (a ∷ s) c extra e).inside

-- ---- separators

sep_high : (b : ℕ) → 0x80 ≤ b → is_sep b ≡ false
unfolding is_sep
sep_high b h =
    rw (ne_eqb b 0x09 (λ k. omega arith), ne_eqb b 0x0C (λ k. omega arith), ne_eqb b 0x0D (λ k. omega arith), ne_eqb b 0x20 (λ k. omega arith))

sep_byte : (b : ℕ) (t : List ℕ) → 0x80 ≤ b → sep_width (b ∷ t) ≡ 0
unfolding sep_width
sep_byte b t h = ap (λ x. cond x 1 0) (sep_high b h)

-- a character from U+0080 has a first byte from 80
sep_none : (c : ℕ) (t : List ℕ) → 0x80 ≤ c → sep_width (utf8_of c ++ t) ≡ 0
sep_none c t l = go (leb c 0x7FF) (leb c 0xFFFF) refl refl
  where
    go : (y z : Bool) → leb c 0x7FF ≡ y → leb c 0xFFFF ≡ z → sep_width (utf8_of c ++ t) ≡ 0
    go true z f g = rw (enc_2 c l (leb-true c 0x7FF f)) (sep_byte (0xC0 + c / 64) _ (omega arith))
    go false true f g = rw (enc_3 c (leb-false c 0x7FF f) (leb-true c 0xFFFF g)) (sep_byte (0xE0 + c / 4096) _ (omega arith))
    go false false f g = rw (enc_4 c (leb-false c 0xFFFF g)) (sep_byte (0xF0 + c / 262144) _ (omega arith))

pub sep_lead : (c : ℕ) (t : List ℕ) → sep_width (utf8_of c ++ t) ≡ cond (is_sep c) (length (utf8_of c)) 0
unfolding sep_width
sep_lead c t = go (leb c 0x7F) refl
  where
    go : (x : Bool) → leb c 0x7F ≡ x → sep_width (utf8_of c ++ t) ≡ cond (is_sep c) (length (utf8_of c)) 0
    go true e = rw (enc_1 c (leb-true c 0x7F e))
    go false e =
        let l : 0x80 ≤ c = leb-false c 0x7F e in
        sep_none c t l ∙ ap (λ x. cond x (length (utf8_of c)) 0) (sym (sep_high c l))

pub sep_tail : (b : ℕ) (t : List ℕ) → 0x80 ≤ b → b ≤ 0xBF → sep_width (b ∷ t) ≡ 0
sep_tail b t l h = sep_byte b t l

sep_le : (s : List ℕ) → sep_width s ≤ length s
unfolding sep_width is_sep
sep_le [] = omega arith
sep_le (b ∷ s) = cond_le (is_sep b) 1 (suc (length s)) (omega arith)

-- ---- either

pub gap_le : (white : Bool) (s : List ℕ) → gap_width white s ≤ length s
unfolding gap_width
gap_le true s = white_le s
gap_le false s = sep_le s

-- below 80 a byte is a gap by itself; from 80 on it begins White_Space or nothing
pub gap_ascii : (white : Bool) (b : ℕ) (t : List ℕ) → b ≤ 0x7F → gap_width white (b ∷ t) ≡ cond (gap_byte white b) 1 0
unfolding gap_width sep_width
gap_ascii true b t h = width_ascii b t h
gap_ascii false b t h = refl

pub gap_high : (b : ℕ) (t : List ℕ) → 0x80 ≤ b → gap_width false (b ∷ t) ≡ 0
unfolding gap_width
gap_high b t h = sep_byte b t h

-- ---- which bytes are gaps by themselves

pub both_gaps : (white : Bool) {b : ℕ} → (b ≡ 0x09) ⊎ (b ≡ 0x20) → true ≡ gap_byte white b
unfolding is_white is_sep
both_gaps true (inl e) = ap is_white (sym e)
both_gaps true (inr e) = ap is_white (sym e)
both_gaps false (inl e) = ap is_sep (sym e)
both_gaps false (inr e) = ap is_sep (sym e)

-- one or the other
either : (b n : ℕ) → n ≤ b → b ≤ n + 1 → (b ≡ n) ⊎ (b ≡ n + 1)
either b n l h = elim (ℕ_discrete b n) [
  | yes e ↦ inl e
  | no d ↦ inr (omega arith)
]

pub feeds : (white : Bool) {b : ℕ} → 0x0C ≤ b → b ≤ 0x0D → true ≡ gap_byte white b
unfolding is_white is_sep
feeds white {b} l h = go white (either b 0x0C l h)
  where
    go : (white : Bool) → (b ≡ 0x0C) ⊎ (b ≡ 0x0D) → true ≡ gap_byte white b
    go true (inl e) = ap is_white (sym e)
    go true (inr e) = ap is_white (sym e)
    go false (inl e) = ap is_sep (sym e)
    go false (inr e) = ap is_sep (sym e)

pub white_only : (white : Bool) {b : ℕ} → 0x0A ≤ b → b ≤ 0x0B → white ≡ gap_byte white b
unfolding is_white is_sep
white_only white {b} l h = go white (either b 0x0A l h)
  where
    go : (white : Bool) → (b ≡ 0x0A) ⊎ (b ≡ 0x0B) → white ≡ gap_byte white b
    go true (inl e) = ap is_white (sym e)
    go true (inr e) = ap is_white (sym e)
    go false (inl e) = ap is_sep (sym e)
    go false (inr e) = ap is_sep (sym e)

pub no_gaps : (white : Bool) {b : ℕ} → b < 0x80 → ((b ≡ 0x09) ⊎ (b ≡ 0x20) → ⊥) → (In 0x0A 0x0D b → ⊥) → false ≡ gap_byte white b
unfolding is_sep
no_gaps true {b} h k r =
    sym
    (no_white b (
      (λ i. elim (ℕ_discrete b 0x09) [ yes e ↦ k (inl e) | no d ↦ r (record { from = omega arith; to = omega arith }) ]),
      ((λ i. k (inr (omega arith))), outside (omega arith)),
    ))
  where
    outside : b < 0x85 → Outside b (drop 2 whites)
    outside h = (
      (λ i. omega arith),
      (
        (λ i. omega arith),
        (
          (λ i. omega arith),
          ((λ i. omega arith), ((λ i. omega arith), ((λ i. omega arith), ((λ i. omega arith), ((λ i. omega arith), ((λ i. omega arith), tt)))))),
        ),
      ),
    )
no_gaps false {b} h k r =
    sym
    (rw (
      ne_eqb b 0x09 (λ e. k (inl e)),
      ne_eqb b 0x0C (λ e. r (record { from = omega arith; to = omega arith })),
      ne_eqb b 0x0D (λ e. r (record { from = omega arith; to = omega arith })),
      ne_eqb b 0x20 (λ e. k (inr e)),
    ))
