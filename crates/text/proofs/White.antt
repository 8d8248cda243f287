-- White_Space: Unicode's runs one by one, and its width at the front of bytes.
-- Assumes nothing.
use Prim.Native.Nat.{ℕ, suc, ◌+◌, ◌-◌, ◌≤◌, ◌<◌}
use native.Mathlib.Nat.{add-zero}
use native.Mathlib.Omega.{arith}
use mathlib.Core.Path.{◌≡◌, refl, ap, ◌∙◌, subst}
use mathlib.Core.Bool.{Bool, true, false, cond, ◌&&◌, ◌||◌}
use mathlib.Core.List.{List, [], ◌∷◌, ◌++◌}
use lib.Dec.{T, leb}
use lib.ListN.{length, drop, get_or, drop_of_length-le}
use lib.Seq.{drop-cons, get_or-drop}
use borrow.Author.Tests.{leb-true}
use Rattle.paper.specs.Lists.{any}
use Rattle.paper.specs.Text.Scalar.{between, In, Tail, IsScalar, utf8_of, whites, is_white}
use Rattle.paper.specs.Computed.Decode.{First, bad, good}
use Rattle.paper.proofs.Lists.Facts.{T→true, below, from_below}
use Rattle.paper.proofs.Text.Code.{dec_1}
use Rattle.text.specs.declared.Scalar.{Scalar}
use Rattle.text.specs.Answers.{Stands, head_of, white_by, white_width}
use Rattle.text.proofs.Octets.{first_low}
use Rattle.text.proofs.Chars.{some_octets, far_char, found, head_char, char_head}

-- n characters from lo on are White_Space
pub run : (lo n : ℕ) → T (below (λ k. is_white (lo + k)) n) → {c : ℕ} → lo ≤ c → c < lo + n → is_white c ≡ true
run lo n t {c} l h =
    let e : lo + (c - lo) ≡ c = omega arith in
    T→true (is_white c) (subst (λ x. T (is_white x)) e (from_below (λ k. is_white (lo + k)) n t (c - lo) (omega arith)))

-- c is in none of the runs
abbrev pub Outside : ℕ → List (ℕ × ℕ) → Type 0
Outside c [] = Unit {0}
Outside c (r ∷ rs) = (In r.0 r.1 c → ⊥) × Outside c rs

outside : (c : ℕ) (rs : List (ℕ × ℕ)) → Outside c rs → any (λ r. between r.0 r.1 c) rs ≡ false
outside c [] o = refl
outside c (r ∷ rs) o = go (leb r.0 c) (leb c r.1) refl refl (outside c rs o.1)
  where
    go : (x y : Bool) → leb r.0 c ≡ x → leb c r.1 ≡ y → any (λ r. between r.0 r.1 c) rs ≡ false → ((x && y) || any (λ r. between r.0 r.1 c) rs) ≡ false
    go true true e f h = absurd (o.0 (record { from = leb-true r.0 c e; to = leb-true c r.1 f }))
    go true false e f h = h
    go false y e f h = h

pub no_white : (c : ℕ) → Outside c whites → is_white c ≡ false
unfolding is_white
no_white c o = outside c whites o

-- ---- the width

pub width_by : (s : List ℕ) (f : First) → head_of s ≡ f → white_width s ≡ white_by f
unfolding white_width
width_by s f e = ap white_by e

-- an ASCII character is a byte
pub width_ascii : (a : ℕ) (s : List ℕ) → a ≤ 0x7F → white_width (a ∷ s) ≡ cond (is_white a) 1 0
width_ascii a s h = width_by (a ∷ s) (good a 0) (dec_1 a s h)

-- a scalar value's encoding is its White_Space whole
pub width_char : (c : ℕ) (t : List ℕ) → IsScalar c → white_width (utf8_of c ++ t) ≡ cond (is_white c) (length (utf8_of c)) 0
width_char c t i =
    let p = some_octets c in
    let e : suc (length (utf8_of c) - 1) ≡ length (utf8_of c) = omega arith in
    width_by (utf8_of c ++ t) (good c (length (utf8_of c) - 1)) (head_char c t i) ∙ ap (λ n. cond (is_white c) n 0) e

-- no White_Space begins inside a character
pub width_tail : (b : ℕ) (t : List ℕ) → Tail b → white_width (b ∷ t) ≡ 0
width_tail b t i = width_by (b ∷ t) bad (first_low t (record { from = i.from; to = omega arith }))

-- no White_Space from U+4000 up
far : (c : ℕ) → 0x4000 ≤ c → is_white c ≡ false
far c h =
    no_white c (
      (λ i. omega arith),
      (
        (λ i. omega arith),
        (
          (λ i. omega arith),
          (
            (λ i. omega arith),
            (
              (λ i. omega arith),
              (
                (λ i. omega arith),
                (
                  (λ i. omega arith),
                  (
                    (λ i. omega arith),
                    (
                      (λ i. omega arith),
                      (
                        (λ i. omega arith),
                        (
                          (λ i. omega arith),
                          tt,
                        ),
                      ),
                    ),
                  ),
                ),
              ),
            ),
          ),
        ),
      ),
    )

-- what begins above E3 is none, and what begins from 80 up and below C2 is no character
pub width_far : (m : List ℕ) → 0xE3 < get_or m 0 0 → white_width m ≡ 0
width_far m h = go (head_of m) refl
  where
    go : (f : First) → head_of m ≡ f → white_width m ≡ 0
    go bad e = width_by m bad e
    go (good c extra) e =
        let w = (found m c extra e).split in
        let k : 0x4000 ≤ c = far_char c (drop (suc extra) m) (subst (λ l. 0xE3 < get_or l 0 0) w h) in
        width_by m (good c extra) e ∙ ap (λ x. cond x (suc extra) 0) (far c k)

module _ (s : List ℕ) (at : ℕ) where
  pub width_stands : (r : Scalar) → Stands s at r → white_width (drop at s) ≡ cond (is_white r.value) (r.next - at) 0
  width_stands r x =
      let p = some_octets r.value in
      let e : suc (length (utf8_of r.value) - 1) ≡ r.next - at = (let b = x.behind in omega arith) in
      width_by (drop at s) _ (char_head s at r x) ∙ ap (λ n. cond (is_white r.value) n 0) e

  pub width_octet : at < length s → get_or s at 0 ≤ 0x7F → white_width (drop at s) ≡ cond (is_white (get_or s at 0)) 1 0
  width_octet h k = ap white_width (drop-cons s at 0 h) ∙ width_ascii (get_or s at 0) (drop (suc at) s) k

  pub width_end : length s ≤ at → white_width (drop at s) ≡ 0
  width_end h = ap white_width (drop_of_length-le s h) ∙ width_by [] bad refl

  pub width_low : at < length s → In 0x80 0xC1 (get_or s at 0) → white_width (drop at s) ≡ 0
  width_low h i = ap white_width (drop-cons s at 0 h) ∙ width_by _ bad (first_low (drop (suc at) s) i)

  pub width_high : 0xE3 < get_or s at 0 → white_width (drop at s) ≡ 0
  width_high h = width_far (drop at s) (rw (get_or-drop at s 0 0, add-zero) h)
