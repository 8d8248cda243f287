-- The reading of numbers: one law over base and limit, used at 16 bits in hex, at u32 and at i32, and with a sign over the law without.
-- A number is read exactly where characters spell it within the limit, nothing is read exactly where they spell none, and what 16 bits keep
-- of it means a signed 16-bit number that differs by a multiple of 65,536.
-- Assumes nothing.
use Prim.Native.Nat.{ℕ, ◌-◌, ◌%◌, ◌<◌, ◌≤◌}
use native.Mathlib.Omega.{arith}
use mathlib.Core.Path.{◌≡◌, refl, sym, ap, ◌∙◌}
use mathlib.Core.Logic.{◌↔◌}
use mathlib.Core.Bool.{Bool, true, false, not, cond}
use mathlib.Core.Option.{Option, none, some}
use mathlib.Core.List.{List, [], ◌∷◌}
use lib.Dec.{leb, ltb, eqb}
use mir.Facts.{and_yes, yes_leb}
use borrow.Author.Tests.{eqb-true, ltb-true, ltb-false}
use Rattle.paper.specs.Lists.{full}
use Rattle.paper.specs.Text.Scalar.{minus_sign}
use Rattle.paper.specs.Numbers.Numeral.{is_digit, Numeral, Spelled, Integer, pos, neg, SignedNumeral, no_digit, modulus16, half16, wrap16, meaning16, Congruent, Short16}
use Rattle.paper.specs.Computed.Numeral.{spelled_by, numeral, as_neg, as_pos, signed_numeral}
use Rattle.paper.proofs.Apart.{none_some, nil_cons}
use Rattle.paper.proofs.Lists.Facts.{T→true, T→false}
use Rattle.paper.proofs.Numbers.Read.{spelled_sound, numeral_sound, digit_apart, numeral_chars, numeral_read}

-- ---- digits

-- the law: what is read is what is spelled
pub spelled : (base limit : ℕ) (ds : List ℕ) (n : ℕ) → (spelled_by base limit ds ≡ some n) ↔ Spelled base limit ds n
unfolding spelled_by
spelled base limit ds n =
    (λ h. let r = spelled_sound base limit ds n h in record { digits = r.0; value = r.1; fits = r.2 }, λ s. back s)
  where
    back : Spelled base limit ds n → spelled_by base limit ds ≡ some n
    back s = rw (← s.value, T→true (full (is_digit base) ds) s.digits, T→true (leb n limit) (yes_leb s.fits))

-- ---- an optional `+`

pub unsigned : (base limit : ℕ) → base ≤ no_digit → (cs : List ℕ) (n : ℕ) → (numeral base limit cs ≡ some n) ↔ Numeral base limit cs n
unsigned base limit b16 cs n = (numeral_sound base limit cs n, λ s. numeral_read base limit b16 s)

-- nothing is read exactly where there is no such numeral
pub unsigned_none : (base limit : ℕ) → base ≤ no_digit → (cs : List ℕ) → (numeral base limit cs ≡ none) ↔ ((n : ℕ) → Numeral base limit cs n → ⊥)
unsigned_none base limit b16 cs =
    (λ e n r. none_some (sym e ∙ (unsigned base limit b16 cs n).1 r), λ never. go never (numeral base limit cs) refl)
  where
    go : ((n : ℕ) → Numeral base limit cs n → ⊥) → (o : Option ℕ) → numeral base limit cs ≡ o → numeral base limit cs ≡ none
    go never none e = e
    go never (some n) e = absurd (never n ((unsigned base limit b16 cs n).0 e))

-- and one number at most is spelled
pub unsigned_one : (base limit : ℕ) → base ≤ no_digit → (cs : List ℕ) (m n : ℕ) → Numeral base limit cs m → Numeral base limit cs n → m ≡ n
unsigned_one base limit b16 cs m n r s =
    let e = (unsigned base limit b16 cs m).1 r in
    let d = (unsigned base limit b16 cs n).1 s in
    cc

-- ---- a sign

module _ (base top low : ℕ) (b16 : base ≤ no_digit) where
  signed_sound : (cs : List ℕ) (i : Integer) → signed_numeral base top low cs ≡ some i → SignedNumeral base top low cs i
  unfolding signed_numeral
  signed_sound [] i h = none_some h
  signed_sound (c ∷ cs) i h = sign (eqb c minus_sign) refl h
    where
      minus_case : c ≡ minus_sign → (o : Option ℕ) → spelled_by base low cs ≡ o → as_neg o ≡ some i → SignedNumeral base top low (c ∷ cs) i
      minus_case e none eo h = none_some h
      minus_case e (some n) eo h =
          let ei : i ≡ neg n = cc in
          rw ei (record { digits = cs; whole = ap (λ k. k ∷ cs) e; is_spelled = (spelled base low cs n).0 eo })

      plus_case : (o : Option ℕ) → numeral base top (c ∷ cs) ≡ o → as_pos o ≡ some i → SignedNumeral base top low (c ∷ cs) i
      plus_case none eo h = none_some h
      plus_case (some n) eo h =
          let ei : i ≡ pos n = cc in
          rw ei (numeral_sound base top (c ∷ cs) n eo)

      sign : (b : Bool) → eqb c minus_sign ≡ b → cond b (as_neg (spelled_by base low cs)) (as_pos (numeral base top (c ∷ cs))) ≡ some i → SignedNumeral base top low (c ∷ cs) i
      sign true e h = minus_case (eqb-true c minus_sign e) (spelled_by base low cs) refl h
      sign false e h = plus_case (numeral base top (c ∷ cs)) refl h

  signed_complete : (cs : List ℕ) (i : Integer) → SignedNumeral base top low cs i → signed_numeral base top low cs ≡ some i
  unfolding signed_numeral
  signed_complete [] (pos n) s = absurd (numeral_chars base top b16 (λ c. true) tt (λ c t. tt) s)
  signed_complete (c ∷ cs) (pos n) s =
      let t = numeral_chars base top b16 (λ c. not (eqb c minus_sign)) tt (λ c t. digit_apart base minus_sign b16 (unfold is_digit in refl) c t) s in
      rw (T→false (eqb c minus_sign) (and_yes (not (eqb c minus_sign)) _ t).0, numeral_read base top b16 s)
  signed_complete [] (neg n) s = nil_cons s.whole
  signed_complete (c ∷ cs) (neg n) s =
      let e : c ≡ minus_sign = (let w : c ∷ cs ≡ minus_sign ∷ s.digits = s.whole in cc) in
      let d : cs ≡ s.digits = (let w : c ∷ cs ≡ minus_sign ∷ s.digits = s.whole in cc) in
      let r : spelled_by base low cs ≡ some n = ap (spelled_by base low) d ∙ (spelled base low s.digits n).1 s.is_spelled in
      rw (e, r)

  pub signed : (cs : List ℕ) (i : Integer) → (signed_numeral base top low cs ≡ some i) ↔ SignedNumeral base top low cs i
  signed cs i = (signed_sound cs i, signed_complete cs i)

  pub signed_one : (cs : List ℕ) (i j : Integer) → SignedNumeral base top low cs i → SignedNumeral base top low cs j → i ≡ j
  signed_one cs i j r s =
      let e = signed_complete cs i r in
      let d = signed_complete cs j s in
      cc

  pub signed_none : (cs : List ℕ) → (signed_numeral base top low cs ≡ none) ↔ ((i : Integer) → SignedNumeral base top low cs i → ⊥)
  signed_none cs = (λ e i r. none_some (sym e ∙ signed_complete cs i r), λ never. go never (signed_numeral base top low cs) refl)
    where
      go : ((i : Integer) → SignedNumeral base top low cs i → ⊥) → (o : Option Integer) → signed_numeral base top low cs ≡ o → signed_numeral base top low cs ≡ none
      go never none e = e
      go never (some i) e = absurd (never i (signed_sound cs i e))

-- ---- sixteen bits

pub wrap_below : (i : Integer) → wrap16 i < modulus16
unfolding wrap16
wrap_below (pos n) = omega arith
wrap_below (neg n) = omega arith

-- what is kept means a signed 16-bit number that differs from the one read by a multiple of 65,536
pub wrap_means : (i : Integer) → Short16 (meaning16 (wrap16 i)) × Congruent (meaning16 (wrap16 i)) i
unfolding wrap16 meaning16
wrap_means (pos n) = go (ltb (n % modulus16) half16) refl
  where
    go : (b : Bool) → ltb (n % modulus16) half16 ≡ b → Short16 (cond b (pos (n % modulus16)) (neg (modulus16 - n % modulus16))) × Congruent (cond b (pos (n % modulus16)) (neg (modulus16 - n % modulus16))) (pos n)
    go true e = let h : n % modulus16 < half16 = ltb-true (n % modulus16) half16 e in (omega arith, omega arith)
    go false e = let h : half16 ≤ n % modulus16 = ltb-false (n % modulus16) half16 e in (omega arith, omega arith)
wrap_means (neg n) = go (ltb w half16) refl
  where
    w : ℕ
    w = (modulus16 - n % modulus16) % modulus16

    go : (b : Bool) → ltb w half16 ≡ b → Short16 (cond b (pos w) (neg (modulus16 - w))) × Congruent (cond b (pos w) (neg (modulus16 - w))) (neg n)
    go true e = let h : w < half16 = ltb-true w half16 e in (omega arith, omega arith)
    go false e = let h : half16 ≤ w = ltb-false w half16 e in (omega arith, omega arith)
