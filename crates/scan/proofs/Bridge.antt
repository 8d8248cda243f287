-- The marks of UTF-8 are its characters', each spread over its bytes; so its words are the words of its characters.
-- Assumes nothing.
use Prim.Native.Nat.{ℕ, suc, ◌+◌, ◌-◌, ◌/◌, ◌%◌, ◌<◌, ◌≤◌}
use native.Mathlib.Omega.{arith}
use mathlib.Core.Path.{◌≡◌, refl, ap, ap₂, ◌∙◌}
use mathlib.Core.Bool.{Bool, true, false, cond}
use mathlib.Core.List.{List, [], ◌∷◌, ◌++◌, map}
use lib.Dec.{T, leb, ltb}
use lib.ListN.{length}
use mir.Facts.{and_yes, yes_and, leb_yes, yes_leb}
use borrow.Author.Tests.{lt-ltb, leb-true, leb-false}
use Rattle.paper.specs.Lists.{all, full, words}
use Rattle.paper.specs.Text.Scalar.{utf8_of, utf8}
use Rattle.paper.specs.Computed.Decode.{is_tail}
use Rattle.paper.proofs.Text.Lengths.{enc_1, enc_2, enc_3, enc_4}
use Rattle.paper.proofs.Lists.Facts.{un}
use Rattle.scan.proofs.Spread.{spread, Agrees, words_spread}
use Rattle.scan.specs.Marks.{Mark, byte, in_gap, marks_from, marks, words_bytes}

-- ---- the bytes of a character

pub data Front (c : ℕ) : Type 0 where
  low : c ≤ 0x7F → utf8_of c ≡ c ∷ [] → Front c
  high : 0x80 ≤ c → (a : ℕ) (u : List ℕ) → utf8_of c ≡ a ∷ u → 0x80 ≤ a → T (all is_tail u) → Front c

tail_on : (x : ℕ) (u : List ℕ) → 0x80 ≤ x → x ≤ 0xBF → T (all is_tail u) → T (all is_tail (x ∷ u))
tail_on x u h k a = yes_and (is_tail x) (all is_tail u) (yes_and (leb 0x80 x) (leb x 0xBF) (yes_leb h) (yes_leb k)) a

pub front : (c : ℕ) → Front c
front c = go (leb c 0x7F) (leb c 0x7FF) (leb c 0xFFFF) refl refl refl
  where
    go : (x y z : Bool) → leb c 0x7F ≡ x → leb c 0x7FF ≡ y → leb c 0xFFFF ≡ z → Front c
    go true y z e f g = Front.low (leb-true c 0x7F e) (enc_1 c (leb-true c 0x7F e))
    go false true z e f g =
        let l : 0x80 ≤ c = leb-false c 0x7F e in
        let h : c ≤ 0x7FF = leb-true c 0x7FF f in
        Front.high l (0xC0 + c / 64) ((0x80 + c % 64) ∷ []) (enc_2 c l h) (omega arith)
        (tail_on (0x80 + c % 64) [] (omega arith) (omega arith) tt)
    go false false true e f g =
        let l : 0x80 ≤ c = leb-false c 0x7F e in
        let k : 0x800 ≤ c = leb-false c 0x7FF f in
        Front.high l (0xE0 + c / 4096) ((0x80 + c / 64 % 64) ∷ (0x80 + c % 64) ∷ []) (enc_3 c k (leb-true c 0xFFFF g)) (omega arith)
        (tail_on (0x80 + c / 64 % 64) ((0x80 + c % 64) ∷ []) (omega arith) (omega arith) (tail_on (0x80 + c % 64) [] (omega arith) (omega arith) tt))
    go false false false e f g =
        let l : 0x80 ≤ c = leb-false c 0x7F e in
        let k : 0x10000 ≤ c = leb-false c 0xFFFF g in
        Front.high l (0xF0 + c / 262144) ((0x80 + c / 4096 % 64) ∷ (0x80 + c / 64 % 64) ∷ (0x80 + c % 64) ∷ []) (enc_4 c k) (omega arith)
        (tail_on (0x80 + c / 4096 % 64) ((0x80 + c / 64 % 64) ∷ (0x80 + c % 64) ∷ []) (omega arith) (omega arith)
        (tail_on (0x80 + c / 64 % 64) ((0x80 + c % 64) ∷ []) (omega arith) (omega arith) (tail_on (0x80 + c % 64) [] (omega arith) (omega arith) tt)))

-- ---- marks

abbrev pub tag : Bool → List ℕ → List Mark
tag w [] = []
tag w (b ∷ s) = (b, w) ∷ tag w s

module _ (g : List ℕ → ℕ) where
  skipped : (u t : List ℕ) → marks_from g (length u) (u ++ t) ≡ tag true u ++ marks_from g 0 t
  unfolding marks_from
  skipped [] t = refl
  skipped (b ∷ u) t = ap (λ l. (b, true) ∷ l) (skipped u t)

  -- a gap's character in front, and a byte that begins none
  pub marks_gap : (b : ℕ) (u t : List ℕ) → g (b ∷ (u ++ t)) ≡ suc (length u) → marks g (b ∷ (u ++ t)) ≡ tag true (b ∷ u) ++ marks g t
  unfolding marks
  marks_gap b u t e =
      let n : g (b ∷ (u ++ t)) - 1 ≡ length u = omega arith in
      let h : 0 < g (b ∷ (u ++ t)) = omega arith in
      ap₂ (λ x k. (b, x) ∷ marks_from g k (u ++ t)) (lt-ltb 0 (g (b ∷ (u ++ t))) h) n ∙ ap (λ l. (b, true) ∷ l) (skipped u t)

  pub marks_solid : (b : ℕ) (t : List ℕ) → g (b ∷ t) ≡ 0 → marks g (b ∷ t) ≡ (b, false) ∷ marks g t
  unfolding marks
  marks_solid b t e = ap (λ n. (b, ltb 0 n) ∷ marks_from g (n - 1) t) e

  pub marks_nil : marks g [] ≡ []
  unfolding marks
  marks_nil = refl

abbrev pub tagged : (ℕ → Bool) → ℕ → List Mark
tagged p c = tag (p c) (utf8_of c)

tag_true : (b : ℕ) (u : List ℕ) → T (full in_gap (tag true (b ∷ u)))
tag_true b [] = tt
tag_true b (x ∷ u) = tag_true x u

tag_false : (b : ℕ) (u : List ℕ) → T (full (un in_gap) (tag false (b ∷ u)))
tag_false b [] = tt
tag_false b (x ∷ u) = tag_false x u

pub alike_gap : (p : ℕ → Bool) (c : ℕ) → Agrees in_gap (tagged p c) (p c)
alike_gap p c = elim (front c) [
  | low h e ↦ rw e (go (p c) c [])
  | high h a u e k t ↦ rw e (go (p c) a u)
]
  where
    go : (w : Bool) (a : ℕ) (u : List ℕ) → Agrees in_gap (tag w (a ∷ u)) w
    go true a u = tag_true a u
    go false a u = tag_false a u

map_byte : (w : Bool) (l : List ℕ) (r : List Mark) → map byte (tag w l ++ r) ≡ l ++ map byte r
map_byte w [] r = refl
map_byte w (b ∷ l) r = ap (λ k. b ∷ k) (map_byte w l r)

pub byte_spread : (p : ℕ → Bool) (cs : List ℕ) → map byte (spread (tagged p) cs) ≡ utf8 cs
unfolding utf8
byte_spread p [] = refl
byte_spread p (c ∷ cs) = map_byte (p c) (utf8_of c) (spread (tagged p) cs) ∙ ap (λ l. utf8_of c ++ l) (byte_spread p cs)

pub byte_spreads : (p : ℕ → Bool) (css : List (List ℕ)) → map (map byte) (map (spread (tagged p)) css) ≡ map utf8 css
byte_spreads p [] = refl
byte_spreads p (cs ∷ css) = ap₂ ◌∷◌ (byte_spread p cs) (byte_spreads p css)

module _ (g : List ℕ → ℕ) (p : ℕ → Bool)
    (lead : (c : ℕ) (t : List ℕ) → g (utf8_of c ++ t) ≡ cond (p c) (length (utf8_of c)) 0)
    (inside : (b : ℕ) (t : List ℕ) → 0x80 ≤ b → b ≤ 0xBF → g (b ∷ t) ≡ 0) where
  tails : (u t : List ℕ) → T (all is_tail u) → marks g (u ++ t) ≡ tag false u ++ marks g t
  tails [] t a = refl
  tails (b ∷ u) t a =
      let h = and_yes (is_tail b) (all is_tail u) a in
      let k = and_yes (leb 0x80 b) (leb b 0xBF) h.0 in
      marks_solid g b (u ++ t) (inside b (u ++ t) (leb_yes k.0) (leb_yes k.1)) ∙ ap (λ l. (b, false) ∷ l) (tails u t h.1)

  one : (w : Bool) (a : ℕ) (u t : List ℕ) → T (all is_tail u) → g (a ∷ (u ++ t)) ≡ cond w (suc (length u)) 0
      → marks g (a ∷ (u ++ t)) ≡ tag w (a ∷ u) ++ marks g t
  one true a u t k e = marks_gap g a u t e
  one false a u t k e = marks_solid g a (u ++ t) e ∙ ap (λ l. (a, false) ∷ l) (tails u t k)

  at : (c : ℕ) (t : List ℕ) → marks g (utf8_of c ++ t) ≡ tagged p c ++ marks g t
  at c t = elim (front c) [
    | low h e ↦ rw e (one (p c) c [] t tt (rw e at (lead c t)))
    | high h a u e k v ↦ rw e (one (p c) a u t v (rw e at (lead c t)))
  ]

  pub marks_utf8 : (cs : List ℕ) → marks g (utf8 cs) ≡ spread (tagged p) cs
  unfolding utf8
  marks_utf8 [] = marks_nil g
  marks_utf8 (c ∷ cs) = at c (utf8 cs) ∙ ap (λ l. tagged p c ++ l) (marks_utf8 cs)

  pub words_utf8 : (cs : List ℕ) → words_bytes g (utf8 cs) ≡ map utf8 (words p cs)
  unfolding words_bytes
  words_utf8 cs =
      ap (λ m. map (map byte) (words in_gap m)) (marks_utf8 cs)
      ∙ ap (map (map byte)) (words_spread (tagged p) in_gap p (alike_gap p) cs)
      ∙ byte_spreads p (words p cs)
