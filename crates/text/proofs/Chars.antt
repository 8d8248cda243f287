-- Encodings at the front of bytes: the paper's decoder finds the one that stands there, no two different ones stand at one place, and
-- what `next_char` promises has one answer.
-- Assumes nothing.
use Prim.Native.Nat.{ℕ, suc, ◌+◌, ◌-◌, ◌/◌, ◌≤◌, ◌<◌, zero-le}
use native.Mathlib.Numerals.{add-one}
use native.Mathlib.Omega.{arith}
use mathlib.Core.Path.{◌≡◌, refl, sym, ap, ◌∙◌, subst}
use mathlib.Core.Bool.{Bool, true, false, cond}
use mathlib.Core.List.{List, [], ◌∷◌, ◌++◌, append-nil}
use lib.Dec.{leb}
use lib.ListN.{length, take, drop, get_or, length-append, length-drop, take-append-drop}
use lib.Seq.{take-append_seam, drop-cons}
use mir.Facts.{yes_and}
use borrow.Author.Tests.{le-leb, lt-leb, leb-true, leb-false}
use Rattle.paper.specs.Text.Scalar.{is_scalar, IsScalar, utf8_of, utf8, WellFormed}
use Rattle.paper.specs.Computed.Decode.{First, bad, good, first, broken, chars, onward, decode_from}
use Rattle.paper.proofs.Apart.{bad_good}
use Rattle.paper.proofs.Text.Code.{enc_1, enc_2, enc_3, enc_4, decode_complete, first_taken}
use Rattle.paper.proofs.Text.Prefix.{first_shapes, prefix_longest, chars_formed}
use Rattle.text.specs.declared.Scalar.{Scalar}
use Rattle.text.specs.declared.Next.{Next}
use Rattle.text.specs.declared.Next.TheVariants.{Char, End, Bad}
use Rattle.text.specs.Answers.{EncodedAt, Stands, NoneStands, NextIs, head_of, next_by}

-- ---- an encoding's length stands in its first octet

abbrev lead_length : ℕ → ℕ
lead_length a = cond (leb a 0x7F) 1 (cond (leb a 0xDF) 2 (cond (leb a 0xEF) 3 4))

lead_1 : {a : ℕ} → a ≤ 0x7F → lead_length a ≡ 1
lead_1 {a} h = rw (le-leb a 0x7F h)

lead_2 : {a : ℕ} → 0x7F < a → a ≤ 0xDF → lead_length a ≡ 2
lead_2 {a} l h = rw (lt-leb a 0x7F l, le-leb a 0xDF h)

lead_3 : {a : ℕ} → 0xDF < a → a ≤ 0xEF → lead_length a ≡ 3
lead_3 {a} l h = let k : 0x7F < a = omega arith in rw (lt-leb a 0x7F k, lt-leb a 0xDF l, le-leb a 0xEF h)

lead_4 : {a : ℕ} → 0xEF < a → lead_length a ≡ 4
lead_4 {a} l =
    let k : 0x7F < a = omega arith in
    let m : 0xDF < a = omega arith in
    rw (lt-leb a 0x7F k, lt-leb a 0xDF m, lt-leb a 0xEF l)

-- what the first octet tells
record Lead (c : ℕ) (t : List ℕ) : Type 0 where
  some : 0 < length (utf8_of c)
  count : lead_length (get_or (utf8_of c ++ t) 0 0) ≡ length (utf8_of c)
  far : 0xE3 < get_or (utf8_of c ++ t) 0 0 → 0x4000 ≤ c

lead : (c : ℕ) (t : List ℕ) → Lead c t
lead c t = go (leb c 0x7F) (leb c 0x7FF) (leb c 0xFFFF) refl refl refl
  where
    go : (x y z : Bool) → leb c 0x7F ≡ x → leb c 0x7FF ≡ y → leb c 0xFFFF ≡ z → Lead c t
    go true y z e f g =
        let h : c ≤ 0x7F = leb-true c 0x7F e in
        let q = enc_1 c h in
        record { some = rw q (omega arith); count = rw q (lead_1 h); far = rw q (λ k. omega arith) }
    go false true z e f g =
        let l : 0x80 ≤ c = leb-false c 0x7F e in
        let h : c ≤ 0x7FF = leb-true c 0x7FF f in
        let q = enc_2 c l h in
        record { some = rw q (omega arith); count = rw q (lead_2 {a = 0xC0 + c / 64} (omega arith) (omega arith)); far = rw q (λ k. omega arith) }
    go false false true e f g =
        let l : 0x800 ≤ c = leb-false c 0x7FF f in
        let h : c ≤ 0xFFFF = leb-true c 0xFFFF g in
        let q = enc_3 c l h in
        record { some = rw q (omega arith); count = rw q (lead_3 {a = 0xE0 + c / 4096} (omega arith) (omega arith)); far = rw q (λ k. omega arith) }
    go false false false e f g =
        let l : 0x10000 ≤ c = leb-false c 0xFFFF g in
        let q = enc_4 c l in
        record { some = rw q (omega arith); count = rw q (lead_4 {a = 0xF0 + c / 262144} (omega arith)); far = rw q (λ k. omega arith) }

pub far_char : (c : ℕ) (t : List ℕ) → 0xE3 < get_or (utf8_of c ++ t) 0 0 → 0x4000 ≤ c
far_char c t = (lead c t).far

pub some_octets : (c : ℕ) → 0 < length (utf8_of c)
some_octets c = (lead c []).some

-- ---- one encoding at a place

alone : (c : ℕ) → IsScalar c → decode_from 0 0 (utf8_of c) ≡ chars (c ∷ [])
unfolding utf8
alone c i = ap (decode_from 0 0) (sym (append-nil (utf8_of c))) ∙ decode_complete (c ∷ []) 0 (yes_and (is_scalar c) true i tt)

pub same_char : {c d : ℕ} (t u : List ℕ) → IsScalar c → IsScalar d → utf8_of c ++ t ≡ utf8_of d ++ u → c ≡ d
same_char {c} {d} t u i j e =
    let n : length (utf8_of c) ≡ length (utf8_of d) =
    sym (lead c t).count ∙ ap (λ (l : List ℕ). lead_length (get_or l 0 0)) e ∙ (lead d u).count in
    let f : utf8_of c ≡ utf8_of d =
    sym (take-append_seam (utf8_of c) t) ∙ ap (take (length (utf8_of c))) e ∙ ap (λ (k : ℕ). take k (utf8_of d ++ u)) n ∙ take-append_seam (utf8_of d) u in
    let g : chars (c ∷ []) ≡ chars (d ∷ []) = sym (alone c i) ∙ ap (decode_from 0 0) f ∙ alone d j in
    cc

-- ---- the decoder finds it

formed : (c : ℕ) → IsScalar c → WellFormed (utf8_of c)
formed c i = chars_formed (utf8_of c) 0 0 (c ∷ []) (alone c i)

breaks : (m : List ℕ) → 0 < length m → head_of m ≡ bad → decode_from 0 0 m ≡ broken 0
unfolding decode_from
breaks [] h e = absurd (omega arith)
breaks (a ∷ s) h e = ap (λ f. onward 0 f (λ extra. decode_from 1 extra s)) e

not_bad : (c : ℕ) (t : List ℕ) → IsScalar c → head_of (utf8_of c ++ t) ≡ bad → ⊥
not_bad c t i e =
    let n : ℕ = length (utf8_of c) in
    let p : 0 < n = some_octets c in
    let l : length (utf8_of c ++ t) ≡ n + length t = length-append (utf8_of c) t in
    let b = breaks (utf8_of c ++ t) (omega arith) e in
    let w : WellFormed (take n (utf8_of c ++ t)) = subst WellFormed (sym (take-append_seam (utf8_of c) t)) (formed c i) in
    let k = prefix_longest (utf8_of c ++ t) 0 0 0 b n zero-le (omega arith) w in
    omega arith

-- what the decoder finds in front of m
pub record Found (m : List ℕ) (c extra : ℕ) : Type 0 where
  pub scalar : IsScalar c
  pub split : m ≡ utf8_of c ++ drop (suc extra) m
  pub count : length (utf8_of c) ≡ suc extra
  pub inside : suc extra ≤ length m

pub found : (m : List ℕ) (c extra : ℕ) → head_of m ≡ good c extra → Found m c extra
found [] c extra e = bad_good e
found (a ∷ s) c extra e =
    let (i, w) = first_taken a s c extra e in
    let h = (first_shapes a s c extra e).there in
    let l : suc (length s) ≡ length (utf8_of c) + (length s - extra) = ap length w ∙ simp (length-append, length-drop) in
    record { scalar = i; split = w; count = omega arith; inside = omega arith }

pub head_char : (c : ℕ) (t : List ℕ) → IsScalar c → head_of (utf8_of c ++ t) ≡ good c (length (utf8_of c) - 1)
head_char c t i = go (head_of (utf8_of c ++ t)) refl
  where
    go : (f : First) → head_of (utf8_of c ++ t) ≡ f → f ≡ good c (length (utf8_of c) - 1)
    go bad e = absurd (not_bad c t i e)
    go (good d extra) e =
        let r = found (utf8_of c ++ t) d extra e in
        let q : d ≡ c = sym (same_char t (drop (suc extra) (utf8_of c ++ t)) i r.scalar r.split) in
        let n : extra ≡ length (utf8_of c) - 1 = (let k = r.count in let j : length (utf8_of d) ≡ length (utf8_of c) = ap (λ x. length (utf8_of x)) q in omega arith) in
        ap (λ x. good x extra) q ∙ ap (good c) n

-- ---- what `next_char` promises

module _ (s : List ℕ) (at : ℕ) where
  encoded_split : (c : ℕ) → EncodedAt s at c → utf8_of c ++ drop (length (utf8_of c)) (drop at s) ≡ drop at s
  encoded_split c e =
      ap (λ l. l ++ drop (length (utf8_of c)) (drop at s)) (sym e) ∙ take-append-drop (length (utf8_of c)) (drop at s)

  stands : (c extra : ℕ) → Found (drop at s) c extra → Stands s at (record { value = c; next = at + suc extra })
  stands c extra f =
      let n : suc extra ≤ length s - at = rw length-drop at f.inside in
      record {
        scalar = f.scalar;
        encoded = ap (take (length (utf8_of c))) f.split ∙ take-append_seam (utf8_of c) (drop (suc extra) (drop at s));
        behind = ap (λ k. at + k) (sym f.count);
        inside = omega arith;
      }

  none_stands : at < length s → head_of (drop at s) ≡ bad → NoneStands s at
  none_stands h e = record {
    more = h;
    none = λ c i q. not_bad c (drop (length (utf8_of c)) (drop at s)) i (ap head_of (encoded_split c q) ∙ e);
  }

  -- what the decoder finds is what the promise allows
  pub by_decoder : at < length s → NextIs s at (next_by at (head_of (drop at s)))
  by_decoder h = go (head_of (drop at s)) refl
    where
      go : (f : First) → head_of (drop at s) ≡ f → NextIs s at (next_by at f)
      go bad e = none_stands h e
      go (good c extra) e = stands c extra (found (drop at s) c extra e)

  -- what the code finds, by the octet at `at` and those behind it
  pub answers : (f : First) {r : Next} → at < length s → r ≡ next_by at f → first (get_or s at 0) (drop (at + 1) s) ≡ f → NextIs s at r
  answers f {r} h e g =
      let q : head_of (drop at s) ≡ f = ap head_of (drop-cons s at 0 h) ∙ ap (λ k. first (get_or s at 0) (drop k s)) (sym (add-one at)) ∙ g in
      subst (NextIs s at) (ap (next_by at) q ∙ sym e) (by_decoder h)

  -- and what it is to the decoder
  pub char_head : (r : Scalar) → Stands s at r → head_of (drop at s) ≡ good r.value (length (utf8_of r.value) - 1)
  char_head r x = ap head_of (sym (encoded_split r.value x.encoded)) ∙ head_char r.value _ x.scalar

  pub bad_head : NoneStands s at → head_of (drop at s) ≡ bad
  bad_head x = go (head_of (drop at s)) refl
    where
      go : (f : First) → head_of (drop at s) ≡ f → f ≡ bad
      go bad e = refl
      go (good c extra) e = let y = stands c extra (found (drop at s) c extra e) in absurd (x.none c y.scalar y.encoded)

  -- an answer that is no character
  pub no_char : (r : Next) → ((q : Scalar) → r ≡ Char q → ⊥) → at < length s → NextIs s at r → head_of (drop at s) ≡ bad
  no_char (Char q) t h x = absurd (t q refl)
  no_char End t h x = absurd (omega arith)
  no_char Bad t h x = bad_head x

  same_scalar : (r q : Scalar) → Stands s at r → Stands s at q → r ≡ q
  same_scalar r q x y =
      let v : r.value ≡ q.value =
      same_char _ _ x.scalar y.scalar (encoded_split r.value x.encoded ∙ sym (encoded_split q.value y.encoded)) in
      let n : r.next ≡ q.next = x.behind ∙ ap (λ c. at + length (utf8_of c)) v ∙ sym y.behind in
      λ i. record { value = v i; next = n i }

  ends : (r : Scalar) → Stands s at r → length s ≤ at → ⊥
  ends r x h = let p = some_octets r.value in let b = x.behind in omega arith

  -- two answers that the promise allows are the same
  pub next_one : (r q : Next) → NextIs s at r → NextIs s at q → r ≡ q
  next_one (Char r) (Char q) x y = ap Char (same_scalar r q x y)
  next_one (Char r) End x y = absurd (ends r x y)
  next_one (Char r) Bad x y = absurd (y.none r.value x.scalar x.encoded)
  next_one End (Char q) x y = absurd (ends q y x)
  next_one End End x y = refl
  next_one End Bad x y = absurd (let m = y.more in omega arith)
  next_one Bad (Char q) x y = absurd (x.none q.value y.scalar y.encoded)
  next_one Bad End x y = absurd (let m = x.more in omega arith)
  next_one Bad Bad x y = refl

  -- so it is the decoder's
  pub next_is : (r : Next) → at < length s → NextIs s at r → r ≡ next_by at (head_of (drop at s))
  next_is r h x = next_one r (next_by at (head_of (drop at s))) x (by_decoder h)
