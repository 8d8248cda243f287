-- Numbers and the bits that spell them, bits and the bytes that hold them: each way undoes the other.
-- Assumes nothing.
use Prim.Native.Nat.{ℕ, zero, suc, ◌+◌, ◌*◌, ◌/◌, ◌%◌, ◌^◌, ◌<◌, zero-le, suc-le-suc}
use native.Mathlib.Nat.{pow-suc, one-le-pow, div-one, div-eq_of_lt, div-div-eq-div-mul, div-lt_iff_lt-mul}
use native.Mathlib.Omega.{arith}
use mathlib.Core.Path.{◌≡◌, refl, sym, ap, ap₂, ◌∙◌, subst}
use mathlib.Core.Bool.{Bool, true}
use mathlib.Core.List.{List, [], ◌∷◌, ◌++◌, map, append_assoc}
use lib.Dec.{T, ltb, eqb, eqb→eq}
use lib.ListN.{length}
use lib.Pow.{pow-add}
use mir.Facts.{and_yes, yes_and, ltb_yes, yes_ltb}
use Rattle.paper.specs.Lists.{all}
use Rattle.paper.specs.Numbers.Bytes.{is_byte}
use Rattle.paper.specs.Pack.Fields.{byte_width, Field, field, bits, field_bits, spell, bytes_of, byte, in_bytes, bits_of}
use Rattle.paper.specs.Computed.ReadPack.{Taken, short, taken, take_number, cons_taken, after_byte, take_bytes, is_padding}
use Rattle.paper.proofs.Apart.{short_taken}
use Rattle.paper.proofs.Lists.Facts.{all_append, all_left, all_right}

abbrev pub is_bit : ℕ → Bool
is_bit b = ltb b 2

pub spell_append : (fs gs : List Field) → spell (fs ++ gs) ≡ spell fs ++ spell gs
spell_append [] gs = refl
spell_append (f ∷ fs) gs = ap (λ l. field_bits f ++ l) (spell_append fs gs) ∙ sym (append_assoc (field_bits f) (spell fs) (spell gs))

mod_two : (q : ℕ) → q % 2 < 2
mod_two q = omega arith

bits_are : (w n : ℕ) → T (all is_bit (bits w n))
bits_are zero n = tt
bits_are (suc w) n = yes_and (is_bit (n / 2 ^ w % 2)) (all is_bit (bits w n)) (yes_ltb (mod_two (n / 2 ^ w))) (bits_are w n)

pub spell_bits : (fs : List Field) → T (all is_bit (spell fs))
spell_bits [] = tt
spell_bits (f ∷ fs) = all_append is_bit (field_bits f) (spell fs) (bits_are f.0 f.1) (spell_bits fs)

pub unpack_bits : (p : List ℕ) → T (all is_bit (bits_of p))
unpack_bits [] = tt
unpack_bits (b ∷ p) = all_append is_bit (bits byte_width b) (bits_of p) (bits_are byte_width b) (unpack_bits p)

-- ---- a number

half : (n w : ℕ) → n / 2 ^ suc w ≡ n / 2 ^ w / 2
half n w = ap (λ m. n / m) (pow-suc 2 w) ∙ sym (div-div-eq-div-mul n (2 ^ w) 2)

halves : (q : ℕ) → q / 2 * 2 + q % 2 ≡ q
halves q = omega arith

take_bits : (w n : ℕ) (s : List ℕ) → take_number w (n / 2 ^ w) (bits w n ++ s) ≡ taken n s
take_bits zero n s = ap (λ v. taken v s) (div-one n)
take_bits (suc w) n s =
    ap (λ v. take_number w v (bits w n ++ s)) (ap (λ q. q * 2 + n / 2 ^ w % 2) (half n w) ∙ halves (n / 2 ^ w)) ∙ take_bits w n s

pub number_taken : (w n : ℕ) (s : List ℕ) → n < 2 ^ w → take_number w 0 (bits w n ++ s) ≡ taken n s
number_taken w n s h = ap (λ v. take_number w v (bits w n ++ s)) (sym (div-eq_of_lt h)) ∙ take_bits w n s

low_half : (a b : ℕ) → b < 2 → (a * 2 + b) / 2 ≡ a
low_half a b h = omega arith

low_bit : (a b : ℕ) → b < 2 → (a * 2 + b) % 2 ≡ b
low_bit a b h = omega arith

pub record Number (w high v : ℕ) (s t : List ℕ) : Type 0 where
  pub above : v / 2 ^ w ≡ high
  pub whole : s ≡ bits w v ++ t
  pub left : T (all is_bit t)

taken_bits : (w high : ℕ) (s : List ℕ) (v : ℕ) (t : List ℕ) → T (all is_bit s) → take_number w high s ≡ taken v t → Number w high v s t
taken_bits zero high s v t b h =
    let ev : high ≡ v = cc in
    let et : s ≡ t = cc in
    record { above = div-one v ∙ sym ev; whole = et; left = subst (λ l. T (all is_bit l)) et b }
taken_bits (suc w) high [] v t b h = short_taken h
taken_bits (suc w) high (x ∷ s) v t b h =
    let g = and_yes (is_bit x) (all is_bit s) b in
    let x2 : x < 2 = ltb_yes g.0 in
    let n = taken_bits w (high * 2 + x) s v t g.1 h in
    record {
      above = half v w ∙ ap (λ q. q / 2) n.above ∙ low_half high x x2;
      whole = ap₂ (λ y l. y ∷ l) (sym (ap (λ q. q % 2) n.above ∙ low_bit high x x2)) n.whole;
      left = n.left;
    }

pub taken_number : (w : ℕ) (s : List ℕ) (v : ℕ) (t : List ℕ) → T (all is_bit s) → take_number w 0 s ≡ taken v t
    → (v < 2 ^ w) × (s ≡ bits w v ++ t) × T (all is_bit t)
taken_number w s v t b h =
    let n = taken_bits w 0 s v t b h in
    let e : v / 2 ^ w ≡ 0 = n.above in
    let z : v / 2 ^ w < 1 = omega arith in
    let k : v < 1 * 2 ^ w = (div-lt_iff_lt-mul {k = 2 ^ w} {x = v} {y = 1} (one-le-pow w 2 (suc-le-suc zero-le))).0 z in
    (omega arith, n.whole, n.left)

-- ---- bytes one after another

pub bytes_taken : (bs s : List ℕ) → T (all is_byte bs) → take_bytes (length bs) (spell (map (field byte_width) bs) ++ s) ≡ taken bs s
bytes_taken [] s b = refl
bytes_taken (x ∷ bs) s b =
    let g = and_yes (is_byte x) (all is_byte bs) b in
    let more : List ℕ = spell (map (field byte_width) bs) ++ s in
    ap (λ o. after_byte o (λ t. take_bytes (length bs) t)) (number_taken byte_width x more (ltb_yes g.0))
    ∙ ap (cons_taken x) (bytes_taken bs s g.1)

pub record Bytes (n : ℕ) (bs s t : List ℕ) : Type 0 where
  pub size : length bs ≡ n
  pub whole : s ≡ spell (map (field byte_width) bs) ++ t
  pub left : T (all is_bit t)

pub taken_bytes : (n : ℕ) (s bs t : List ℕ) → T (all is_bit s) → take_bytes n s ≡ taken bs t → Bytes n bs s t
taken_bytes zero s bs t b h =
    let eb : [] ≡ bs = cc in
    let et : s ≡ t = cc in
    record { size = ap length (sym eb); whole = et ∙ ap (λ l. spell (map (field byte_width) l) ++ t) eb; left = subst (λ l. T (all is_bit l)) et b }
taken_bytes (suc n) s bs t b h = go (take_number byte_width 0 s) refl h (taken_bytes n)
  where
    go : (o : Taken ℕ) → take_number byte_width 0 s ≡ o → after_byte o (λ t. take_bytes n t) ≡ taken bs t
        → ((s bs t : List ℕ) → T (all is_bit s) → take_bytes n s ≡ taken bs t → Bytes n bs s t)
        → Bytes (suc n) bs s t
    go short e h ih = short_taken h
    go (taken x u) e h ih = rest (take_bytes n u) refl h
      where
        one : (x < 2 ^ byte_width) × (s ≡ bits byte_width x ++ u) × T (all is_bit u)
        one = taken_number byte_width s x u b e

        rest : (o : Taken (List ℕ)) → take_bytes n u ≡ o → cons_taken x o ≡ taken bs t → Bytes (suc n) bs s t
        rest short d h = short_taken h
        rest (taken cs v) d h =
            let eb : x ∷ cs ≡ bs = cc in
            let et : v ≡ t = cc in
            let m = ih u cs v one.2 d in
            record {
              size = ap length (sym eb) ∙ ap suc m.size;
              whole = one.1 ∙ ap (λ l. bits byte_width x ++ l) m.whole ∙ ap₂ (λ l k. spell (map (field byte_width) l) ++ k) eb et;
              left = subst (λ l. T (all is_bit l)) et m.left;
            }

-- ---- bytes that hold bits

-- the number that the bits of a byte spell
abbrev horner : ℕ → ℕ → ℕ → ℕ → ℕ → ℕ → ℕ → ℕ → ℕ
horner a b c d e f g h = (((((((0 * 2 + a) * 2 + b) * 2 + c) * 2 + d) * 2 + e) * 2 + f) * 2 + g) * 2 + h

byte_horner : (a b c d e f g h : ℕ) → byte a b c d e f g h ≡ horner a b c d e f g h
byte_horner a b c d e f g h = omega arith

byte_unpack : (a b c d e f g h : ℕ) → T (all is_bit (a ∷ b ∷ c ∷ d ∷ e ∷ f ∷ g ∷ h ∷ []))
    → bits byte_width (byte a b c d e f g h) ≡ a ∷ b ∷ c ∷ d ∷ e ∷ f ∷ g ∷ h ∷ []
byte_unpack a b c d e f g h t =
    let l : List ℕ = a ∷ b ∷ c ∷ d ∷ e ∷ f ∷ g ∷ h ∷ [] in
    ap (bits byte_width) (byte_horner a b c d e f g h) ∙ sym (taken_number byte_width l (horner a b c d e f g h) [] t refl).1

byte_small : (a b c d e f g h : ℕ) → T (all is_bit (a ∷ b ∷ c ∷ d ∷ e ∷ f ∷ g ∷ h ∷ [])) → T (is_byte (byte a b c d e f g h))
byte_small a b c d e f g h t =
    let l : List ℕ = a ∷ b ∷ c ∷ d ∷ e ∷ f ∷ g ∷ h ∷ [] in
    subst (λ n. T (is_byte n)) (sym (byte_horner a b c d e f g h)) (yes_ltb (taken_number byte_width l (horner a b c d e f g h) [] t refl).0)

byte_of : (b : ℕ) → b < 256 → byte (b / 128 % 2) (b / 64 % 2) (b / 32 % 2) (b / 16 % 2) (b / 8 % 2) (b / 4 % 2) (b / 2 % 2) (b / 1 % 2) ≡ b
byte_of b h =
    let v : ℕ = horner (b / 128 % 2) (b / 64 % 2) (b / 32 % 2) (b / 16 % 2) (b / 8 % 2) (b / 4 % 2) (b / 2 % 2) (b / 1 % 2) in
    byte_horner (b / 128 % 2) (b / 64 % 2) (b / 32 % 2) (b / 16 % 2) (b / 8 % 2) (b / 4 % 2) (b / 2 % 2) (b / 1 % 2)
    ∙ same_number v b (number_taken byte_width b [] h)
  where
    same_number : (v b : ℕ) → taken v [] ≡ taken b [] → v ≡ b
    same_number v b e = cc

pub in_bytes_unpack : (p : List ℕ) → T (all is_byte p) → in_bytes (bits_of p) ≡ p
unfolding in_bytes
in_bytes_unpack [] t = refl
in_bytes_unpack (b ∷ p) t =
    let g = and_yes (is_byte b) (all is_byte p) t in
    ap₂ (λ x l. x ∷ l) (byte_of b (ltb_yes g.0)) (in_bytes_unpack p g.1)

-- zero bits
abbrev zeros : ℕ → List ℕ
zeros zero = []
zeros (suc n) = 0 ∷ zeros n

zeros_are : (s : List ℕ) → T (all (eqb 0) s) → s ≡ zeros (length s)
zeros_are [] t = refl
zeros_are (x ∷ s) t =
    let g = and_yes (eqb 0 x) (all (eqb 0) s) t in
    ap₂ (λ y l. y ∷ l) (sym (eqb→eq 0 x g.0)) (zeros_are s g.1)

pub unpack_in_bytes : (l : List ℕ) → T (all is_bit l) → (pad : List ℕ) × (bits_of (in_bytes l) ≡ l ++ pad) × T (is_padding pad)
unfolding in_bytes
unpack_in_bytes [] t = ([], refl, tt)
unpack_in_bytes (a ∷ []) t = (zeros 7, byte_unpack a 0 0 0 0 0 0 0 t, tt)
unpack_in_bytes (a ∷ b ∷ []) t = (zeros 6, byte_unpack a b 0 0 0 0 0 0 t, tt)
unpack_in_bytes (a ∷ b ∷ c ∷ []) t = (zeros 5, byte_unpack a b c 0 0 0 0 0 t, tt)
unpack_in_bytes (a ∷ b ∷ c ∷ d ∷ []) t = (zeros 4, byte_unpack a b c d 0 0 0 0 t, tt)
unpack_in_bytes (a ∷ b ∷ c ∷ d ∷ e ∷ []) t = (zeros 3, byte_unpack a b c d e 0 0 0 t, tt)
unpack_in_bytes (a ∷ b ∷ c ∷ d ∷ e ∷ f ∷ []) t = (zeros 2, byte_unpack a b c d e f 0 0 t, tt)
unpack_in_bytes (a ∷ b ∷ c ∷ d ∷ e ∷ f ∷ g ∷ []) t = (zeros 1, byte_unpack a b c d e f g 0 t, tt)
unpack_in_bytes (a ∷ b ∷ c ∷ d ∷ e ∷ f ∷ g ∷ h ∷ s) t =
    let first : List ℕ = a ∷ b ∷ c ∷ d ∷ e ∷ f ∷ g ∷ h ∷ [] in
    let (pad, w, z) = unpack_in_bytes s (all_right is_bit first s t) in
    (pad, ap₂ (λ x y. x ++ y) (byte_unpack a b c d e f g h (all_left is_bit first s t)) w, z)

-- they are bytes
pub in_bytes_bytes : (l : List ℕ) → T (all is_bit l) → T (all is_byte (in_bytes l))
unfolding in_bytes
in_bytes_bytes [] t = tt
in_bytes_bytes (a ∷ []) t = yes_and (is_byte (byte a 0 0 0 0 0 0 0)) true (byte_small a 0 0 0 0 0 0 0 t) tt
in_bytes_bytes (a ∷ b ∷ []) t = yes_and (is_byte (byte a b 0 0 0 0 0 0)) true (byte_small a b 0 0 0 0 0 0 t) tt
in_bytes_bytes (a ∷ b ∷ c ∷ []) t = yes_and (is_byte (byte a b c 0 0 0 0 0)) true (byte_small a b c 0 0 0 0 0 t) tt
in_bytes_bytes (a ∷ b ∷ c ∷ d ∷ []) t = yes_and (is_byte (byte a b c d 0 0 0 0)) true (byte_small a b c d 0 0 0 0 t) tt
in_bytes_bytes (a ∷ b ∷ c ∷ d ∷ e ∷ []) t = yes_and (is_byte (byte a b c d e 0 0 0)) true (byte_small a b c d e 0 0 0 t) tt
in_bytes_bytes (a ∷ b ∷ c ∷ d ∷ e ∷ f ∷ []) t = yes_and (is_byte (byte a b c d e f 0 0)) true (byte_small a b c d e f 0 0 t) tt
in_bytes_bytes (a ∷ b ∷ c ∷ d ∷ e ∷ f ∷ g ∷ []) t = yes_and (is_byte (byte a b c d e f g 0)) true (byte_small a b c d e f g 0 t) tt
in_bytes_bytes (a ∷ b ∷ c ∷ d ∷ e ∷ f ∷ g ∷ h ∷ s) t =
    let first : List ℕ = a ∷ b ∷ c ∷ d ∷ e ∷ f ∷ g ∷ h ∷ [] in
    yes_and (is_byte (byte a b c d e f g h)) (all is_byte (in_bytes s)) (byte_small a b c d e f g h (all_left is_bit first s t)) (in_bytes_bytes s (all_right is_bit first s t))

pad_is : (n : ℕ) (pad : List ℕ) → T (is_padding pad) → (length pad < byte_width → length pad ≡ n) → pad ≡ zeros n
pad_is n pad t f =
    let g = and_yes (ltb (length pad) byte_width) (all (eqb 0) pad) t in
    zeros_are pad g.1 ∙ ap zeros (f (ltb_yes g.0))

pub in_bytes_pad : (l pad : List ℕ) → T (is_padding pad) → length (l ++ pad) % byte_width ≡ 0 → in_bytes (l ++ pad) ≡ in_bytes l
unfolding in_bytes
in_bytes_pad [] pad t h = ap in_bytes (pad_is 0 pad t (λ k. omega arith))
in_bytes_pad (a ∷ []) pad t h = ap (λ l. in_bytes (a ∷ l)) (pad_is 7 pad t (λ k. omega arith))
in_bytes_pad (a ∷ b ∷ []) pad t h = ap (λ l. in_bytes (a ∷ b ∷ l)) (pad_is 6 pad t (λ k. omega arith))
in_bytes_pad (a ∷ b ∷ c ∷ []) pad t h = ap (λ l. in_bytes (a ∷ b ∷ c ∷ l)) (pad_is 5 pad t (λ k. omega arith))
in_bytes_pad (a ∷ b ∷ c ∷ d ∷ []) pad t h = ap (λ l. in_bytes (a ∷ b ∷ c ∷ d ∷ l)) (pad_is 4 pad t (λ k. omega arith))
in_bytes_pad (a ∷ b ∷ c ∷ d ∷ e ∷ []) pad t h = ap (λ l. in_bytes (a ∷ b ∷ c ∷ d ∷ e ∷ l)) (pad_is 3 pad t (λ k. omega arith))
in_bytes_pad (a ∷ b ∷ c ∷ d ∷ e ∷ f ∷ []) pad t h = ap (λ l. in_bytes (a ∷ b ∷ c ∷ d ∷ e ∷ f ∷ l)) (pad_is 2 pad t (λ k. omega arith))
in_bytes_pad (a ∷ b ∷ c ∷ d ∷ e ∷ f ∷ g ∷ []) pad t h = ap (λ l. in_bytes (a ∷ b ∷ c ∷ d ∷ e ∷ f ∷ g ∷ l)) (pad_is 1 pad t (λ k. omega arith))
in_bytes_pad (a ∷ b ∷ c ∷ d ∷ e ∷ f ∷ g ∷ i ∷ s) pad t h = ap (λ l. byte a b c d e f g i ∷ l) (in_bytes_pad s pad t (omega arith))

pub unpack_length : (p : List ℕ) → length (bits_of p) % byte_width ≡ 0
unpack_length [] = refl
unpack_length (b ∷ p) = let h = unpack_length p in omega arith

-- ---- bytes as one field

bits_add : (a b v : ℕ) → bits (a + b) v ≡ bits a (v / 2 ^ b) ++ bits b v
bits_add zero b v = let e : 0 + b ≡ b = omega arith in ap (λ w. bits w v) e
bits_add (suc a) b v =
    let e : suc a + b ≡ suc (a + b) = omega arith in
    let d : v / 2 ^ (a + b) ≡ v / 2 ^ b / 2 ^ a =
    ap (λ w. v / 2 ^ w) (let c : a + b ≡ b + a = omega arith in c) ∙ ap (λ m. v / m) (pow-add 2 b a) ∙ sym (div-div-eq-div-mul v (2 ^ b) (2 ^ a)) in
    ap (λ w. bits w v) e ∙ ap₂ (λ q l. q % 2 ∷ l) d (bits_add a b v)

byte_bits : (q : ℕ) → bits byte_width (q % 2 ^ byte_width) ≡ bits byte_width q
byte_bits q =
    ap₂ (λ x l. x ∷ l) (omega arith)
    (ap₂ (λ x l. x ∷ l) (omega arith)
    (ap₂ (λ x l. x ∷ l) (omega arith)
    (ap₂ (λ x l. x ∷ l) (omega arith)
    (ap₂ (λ x l. x ∷ l) (omega arith)
    (ap₂ (λ x l. x ∷ l) (omega arith)
    (ap₂ (λ x l. x ∷ l) (omega arith)
    (ap (λ x. x ∷ []) (omega arith))))))))

pub bytes_of_bits : (n v : ℕ) → bits (byte_width * n) v ≡ spell (map (field byte_width) (bytes_of n v))
bytes_of_bits zero v = refl
bytes_of_bits (suc n) v =
    let e : byte_width * suc n ≡ byte_width + byte_width * n = omega arith in
    ap (λ w. bits w v) e ∙ bits_add byte_width (byte_width * n) v
    ∙ ap₂ (λ k l. k ++ l) (sym (byte_bits (v / 2 ^ (byte_width * n)))) (bytes_of_bits n v)

pub bytes_of_length : (n v : ℕ) → length (bytes_of n v) ≡ n
bytes_of_length zero v = refl
bytes_of_length (suc n) v = ap suc (bytes_of_length n v)

pub bytes_of_bytes : (n v : ℕ) → T (all is_byte (bytes_of n v))
bytes_of_bytes zero v = tt
bytes_of_bytes (suc n) v =
    yes_and (is_byte (v / 2 ^ (byte_width * n) % 2 ^ byte_width)) (all is_byte (bytes_of n v)) (yes_ltb (small (v / 2 ^ (byte_width * n)))) (bytes_of_bytes n v)
  where
    small : (q : ℕ) → q % 2 ^ byte_width < 256
    small q = omega arith

-- w bits say a number exactly where there are so many
pub number_short : (w high : ℕ) (s : List ℕ) → take_number w high s ≡ short → length s < w
number_short zero high s h = short_taken (sym h)
number_short (suc w) high [] h = omega arith
number_short (suc w) high (x ∷ s) h = let k = number_short w (high * 2 + x) s h in omega arith
