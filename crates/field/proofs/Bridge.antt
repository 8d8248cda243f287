-- The bits of a pack one by one are what the paper's `bits_of` lists, and a field is the number that its bits are: what the cursor's
-- functions find is what the paper's readers take at the place.
-- Assumes nothing.
use Prim.Native.Nat.{ℕ, zero, suc, ◌+◌, ◌-◌, ◌*◌, ◌/◌, ◌%◌, ◌^◌, ◌≤◌, ◌<◌}
use native.Mathlib.Nat.{add-zero}
use native.Mathlib.Numerals.{add-one}
use native.Mathlib.Omega.{arith}
use mathlib.Core.Path.{◌≡◌, refl, sym, ap, ap₂, ◌∙◌}
use mathlib.Core.Bool.{Bool, true, false, cond}
use mathlib.Core.List.{List, [], ◌∷◌}
use lib.Dec.{leb, lit<}
use lib.Pow.{pow-add}
use lib.ListN.{length, drop, get_or, length-drop}
use lib.Seq.{drop-cons}
use borrow.Author.Tests.{le-leb, lt-leb, leb-true, leb-false}
use Rattle.paper.specs.Refusals.{pack_ends}
use Rattle.paper.specs.Pack.Fields.{byte_width, bits_of}
use Rattle.paper.specs.Computed.ReadPack.{Taken, short, taken, take_number, cons_taken, after_byte, take_bytes}
use Rattle.paper.specs.Computed.ReadPack.{gave, broke, settle, field_or, number, free, bytes_field}
use Rattle.paper.specs.Tables.Lent.{patch}
use Rattle.paper.proofs.Apart.{short_taken}
use Rattle.paper.proofs.Tables.Laws.{patch_out}
use Rattle.field.proofs.Copy.{bytes_size}
use Rattle.field.specs.Bits.{bit_at, bits_value, bytes_at}
use Rattle.field.specs.Cursor.{widest, last_place, rest, field_at, any_bytes, bytes_field_at, CopiedTo, NotCopied, Left}

pub unpack_size : (p : List ℕ) → length (bits_of p) ≡ length p * 8
unpack_size [] = refl
unpack_size (b ∷ p) = let h = unpack_size p in omega arith

unpack_bit : (p : List ℕ) (i : ℕ) → i < length p * 8 → get_or (bits_of p) i 0 ≡ bit_at p i
unfolding bit_at
unpack_bit [] i h = absurd (omega arith)
unpack_bit (b ∷ p) zero h = refl
unpack_bit (b ∷ p) (suc zero) h = refl
unpack_bit (b ∷ p) (suc (suc zero)) h = refl
unpack_bit (b ∷ p) (suc (suc (suc zero))) h = refl
unpack_bit (b ∷ p) (suc (suc (suc (suc zero)))) h = refl
unpack_bit (b ∷ p) (suc (suc (suc (suc (suc zero))))) h = refl
unpack_bit (b ∷ p) (suc (suc (suc (suc (suc (suc zero)))))) h = refl
unpack_bit (b ∷ p) (suc (suc (suc (suc (suc (suc (suc zero))))))) h = refl
unpack_bit (b ∷ p) (suc (suc (suc (suc (suc (suc (suc (suc i)))))))) h =
    let n : ℕ = suc (suc (suc (suc (suc (suc (suc (suc i))))))) in
    let q : suc (suc (suc (suc (suc (suc (suc (suc i))))))) / 8 ≡ suc (i / 8) = omega arith in
    let r : suc (suc (suc (suc (suc (suc (suc (suc i))))))) % 8 ≡ i % 8 = omega arith in
    unpack_bit p i (omega arith) ∙ sym (ap₂ (λ (x y : ℕ). get_or (b ∷ p) x 0 / 2 ^ (7 - y) % 2) q r)

bit_lt : (s : List ℕ) (p : ℕ) → bit_at s p < 2
unfolding bit_at
bit_lt s p = omega arith

twice : (n : ℕ) → 2 ^ suc n ≡ 2 ^ n * 2
twice n = ap (λ (k : ℕ). 2 ^ k) (sym (add-one n)) ∙ pow-add 2 n 1

pub bits_lt : (s : List ℕ) (p n : ℕ) → bits_value s p n < 2 ^ n
unfolding bits_value
bits_lt s p zero = lit< tt
bits_lt s p (suc n) = omega (arith, twice n, bits_lt s p n, bit_lt s (p + n))

-- one bit more at the end
take_more : (w h : ℕ) (s : List ℕ) (v b : ℕ) (t : List ℕ) → take_number w h s ≡ taken v (b ∷ t) → take_number (suc w) h s ≡ taken (v * 2 + b) t
take_more zero h s v b t e =
    let eh : h ≡ v = cc in
    let es : s ≡ b ∷ t = cc in
    ap₂ (λ (x : ℕ) (l : List ℕ). take_number 1 x l) eh es
take_more (suc w) h [] v b t e = short_taken e
take_more (suc w) h (x ∷ s) v b t e = take_more w (h * 2 + x) s v b t e

pub field_taken : (p : List ℕ) (at w : ℕ) → at + w ≤ length p * 8 → take_number w 0 (rest p at) ≡ taken (bits_value p at w) (rest p (at + w))
unfolding bits_value rest
field_taken p at zero h = ap (λ (k : ℕ). taken 0 (drop k (bits_of p))) (sym (add-zero at))
field_taken p at (suc w) h =
    let z : length (bits_of p) ≡ length p * 8 = unpack_size p in
    let i : at + w < length p * 8 = omega arith in
    let j : at + w < length (bits_of p) = omega arith in
    let e : suc (at + w) ≡ at + suc w = omega arith in
    let cons : drop (at + w) (bits_of p) ≡ bit_at p (at + w) ∷ drop (at + suc w) (bits_of p) =
    drop-cons (bits_of p) (at + w) 0 j ∙ ap₂ (λ (x k : ℕ). x ∷ drop k (bits_of p)) (unpack_bit p (at + w) i) e in
    take_more w 0 (drop at (bits_of p)) (bits_value p at w) (bit_at p (at + w)) (drop (at + suc w) (bits_of p))
    (field_taken p at w (omega arith) ∙ ap (taken (bits_value p at w)) cons)

few : (w h : ℕ) (s : List ℕ) → length s < w → take_number w h s ≡ short
few zero h s l = absurd (omega arith)
few (suc w) h [] l = refl
few (suc w) h (b ∷ s) l = few w (h * 2 + b) s (omega arith)

pub field_short : (p : List ℕ) (at w : ℕ) → 1 ≤ w → length p * 8 < at + w → take_number w 0 (rest p at) ≡ short
unfolding rest
field_short p at w k h =
    let z : length (bits_of p) ≡ length p * 8 = unpack_size p in
    few w 0 (drop at (bits_of p)) (rw length-drop (omega arith))

-- bytes one after another
pub bytes_taken : (n : ℕ) (p : List ℕ) (at : ℕ) → at + 8 * n ≤ length p * 8 → take_bytes n (rest p at) ≡ taken (bytes_at p at n) (rest p (at + 8 * n))
unfolding bytes_at
bytes_taken zero p at h = ap (λ (k : ℕ). taken [] (rest p k)) (sym (add-zero at))
bytes_taken (suc n) p at h =
    let e : at + 8 + 8 * n ≡ at + 8 * suc n = omega arith in
    ap (λ (o : Taken ℕ). after_byte o (λ (t : List ℕ). take_bytes n t)) (field_taken p at 8 (omega arith))
    ∙ ap (cons_taken (bits_value p at 8)) (bytes_taken n p (at + 8) (omega arith) ∙ ap (λ (k : ℕ). taken (bytes_at p (at + 8) n) (rest p k)) e)

few_bytes : (n : ℕ) (p : List ℕ) (at : ℕ) → 1 ≤ n → length p * 8 < at + 8 * n → take_bytes n (rest p at) ≡ short
few_bytes zero p at k h = absurd (omega arith)
few_bytes (suc n) p at k h = go (leb (at + 8) (length p * 8)) refl (few_bytes n p (at + 8))
  where
    go : (b : Bool) → leb (at + 8) (length p * 8) ≡ b → (1 ≤ n → length p * 8 < at + 8 + 8 * n → take_bytes n (rest p (at + 8)) ≡ short)
        → take_bytes (suc n) (rest p at) ≡ short
    go true e ih =
        let i : at + 8 ≤ length p * 8 = leb-true (at + 8) (length p * 8) e in
        ap (λ (o : Taken ℕ). after_byte o (λ (t : List ℕ). take_bytes n t)) (field_taken p at 8 i) ∙ ap (cons_taken (bits_value p at 8)) (ih (omega arith) (omega arith))
    go false e ih =
        let i : length p * 8 < at + 8 = leb-false (at + 8) (length p * 8) e in
        ap (λ (o : Taken ℕ). after_byte o (λ (t : List ℕ). take_bytes n t)) (field_short p at 8 (omega arith) i)

past : (m n : ℕ) → (m ≤ n → ⊥) → n < m
past m n f = go (leb m n) refl
  where
    go : (b : Bool) → leb m n ≡ b → n < m
    go true e = absurd (f (leb-true m n e))
    go false e = leb-false m n e

-- ---- the field

module _ (p : List ℕ) (at w : ℕ) where
  inside : 1 ≤ w → w ≤ widest → at + w ≤ last_place → field_at p at w ≡ number w free at (rest p at)
  unfolding field_at
  inside a b c = rw (le-leb 1 w a, le-leb w widest b, le-leb (at + w) last_place c)

  pub field_there : (v : ℕ) → 1 ≤ w → w ≤ widest → Left (length p) at w → v ≡ bits_value p at w
      → gave v (at + w) (rest p (at + w)) ≡ field_at p at w
  unfolding field_or settle
  field_there v a b l e =
      let i = l.inside in
      ap (λ x. gave x (at + w) (rest p (at + w))) e
      ∙ sym (ap (settle 20 w at free) (field_taken p at w (omega arith)))
      ∙ sym (inside a b l.counted)

  pub no_width : (w ≡ 0) → broke pack_ends at ≡ field_at p at w
  unfolding field_at
  no_width e = let h : w < 1 = omega arith in rw (lt-leb 1 w h)

  pub too_wide : widest < w → broke pack_ends at ≡ field_at p at w
  unfolding field_at
  too_wide h = let i : 1 ≤ w = omega arith in rw (le-leb 1 w i, lt-leb w widest h)

  pub field_cut : 1 ≤ w → w ≤ widest → (Left (length p) at w → ⊥) → broke pack_ends at ≡ field_at p at w
  unfolding field_at field_or settle
  field_cut a b f = rw (le-leb 1 w a, le-leb w widest b) (go (leb (at + w) last_place) refl)
    where
      go : (c : Bool) → leb (at + w) last_place ≡ c → broke pack_ends at ≡ cond c (number w free at (rest p at)) (broke pack_ends at)
      go false e = refl
      go true e =
          let h : at + w ≤ last_place = leb-true (at + w) last_place e in
          let g : at + w ≤ length p * 8 → ⊥ = λ i. f (record { inside = omega arith; counted = h }) in
          sym (ap (settle 20 w at free) (field_short p at w a (past (at + w) (length p * 8) g)))

-- ---- a run of bytes

module _ (p : List ℕ) (at n : ℕ) where
  run_inside : 1 ≤ n → at + byte_width * n ≤ last_place → bytes_field_at p at n ≡ bytes_field n any_bytes at (rest p at)
  unfolding bytes_field_at
  run_inside a c = rw (le-leb 1 n a, le-leb (at + byte_width * n) last_place c)

  pub run_there : 1 ≤ n → Left (length p) at (byte_width * n) → (to : ℕ) (room₀ room₁ : List ℕ) → room₁ ≡ patch to (bytes_at p at n) room₀
      → CopiedTo p (bytes_field_at p at n) to room₀ room₁ (at + byte_width * n)
  unfolding bytes_field settle
  run_there a l to room₀ room₁ e =
      let i = l.inside in
      record {
        bytes = bytes_at p at n;
        is = run_inside a l.counted ∙ ap (settle 20 (8 * n) at any_bytes) (bytes_taken n p at (omega arith));
        put = e;
      }

  -- there is no room at `to`
  pub run_unput : 1 ≤ n → Left (length p) at (byte_width * n) → (to : ℕ) (room : List ℕ) → length room < to + n
      → CopiedTo p (bytes_field_at p at n) to room room (at + byte_width * n)
  run_unput a l to room h =
      let s = bytes_size p at n in
      run_there a l to room room (patch_out to (bytes_at p at n) room (omega arith))

  pub no_run : (room : List ℕ) → n ≡ 0 → NotCopied (bytes_field_at p at n) room room pack_ends at
  unfolding bytes_field_at
  no_run room e = let h : n < 1 = omega arith in record { is = rw (lt-leb 1 n h); kept = refl }

  pub run_cut : (room : List ℕ) → 1 ≤ n → (Left (length p) at (byte_width * n) → ⊥) → NotCopied (bytes_field_at p at n) room room pack_ends at
  unfolding bytes_field_at bytes_field settle
  run_cut room a f = record { is = rw (le-leb 1 n a) (go (leb (at + byte_width * n) last_place) refl); kept = refl }
    where
      go : (c : Bool) → leb (at + byte_width * n) last_place ≡ c → cond c (bytes_field n any_bytes at (rest p at)) (broke pack_ends at) ≡ broke pack_ends at
      go false e = refl
      go true e =
          let h : at + byte_width * n ≤ last_place = leb-true (at + byte_width * n) last_place e in
          let g : at + byte_width * n ≤ length p * 8 → ⊥ = λ i. f (record { inside = omega arith; counted = h }) in
          ap (settle 20 (8 * n) at any_bytes) (few_bytes n p at a (past (at + byte_width * n) (length p * 8) g))

-- ---- what the test in the code says, of a field's bits and of a run's bytes

module _ (p : List ℕ) (at w : ℕ) where
  pub bits_left : Left (length p) at (byte_width * 0 + w) → Left (length p) at w
  bits_left l = record { inside = omega arith; counted = omega arith }

  pub bits_lacking : (Left (length p) at (byte_width * 0 + w) → ⊥) → Left (length p) at w → ⊥
  bits_lacking f l = f (record { inside = omega arith; counted = omega arith })

module _ (p : List ℕ) (at n : ℕ) where
  pub bytes_left : Left (length p) at (byte_width * n + 0) → Left (length p) at (byte_width * n)
  bytes_left l = record { inside = omega arith; counted = omega arith }

  pub bytes_lacking : (Left (length p) at (byte_width * n + 0) → ⊥) → Left (length p) at (byte_width * n) → ⊥
  bytes_lacking f l = f (record { inside = omega arith; counted = omega arith })
