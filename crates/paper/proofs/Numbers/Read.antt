-- Numerals, read and spelled: what is read is spelled by its characters (`numeral_sound`), and what they spell is read (`numeral_read`).
-- Idea: a digit is a character below `g`, and `+` is none, so a sign can be told from the digits behind it.
-- Assumes nothing.
use Prim.Native.Nat.{ℕ, ◌-◌, ◌<◌, ◌≤◌, ◌+◌}
use native.Mathlib.Nat.{lt_of_lt_of_le}
use native.Mathlib.Omega.{arith}
use mathlib.Core.Path.{◌≡◌, refl, sym, subst}
use mathlib.Core.Bool.{Bool, true, false, not, cond, ◌&&◌}
use mathlib.Core.Option.{none, some}
use mathlib.Core.List.{List, [], ◌∷◌, ◌++◌}
use lib.Dec.{T, leb, ltb, eqb, eqb→eq, lit≤}
use mir.Facts.{and_yes, yes_and, leb_yes, ltb_yes, yes_ltb, yes_leb}
use Rattle.paper.specs.Lists.{all, full}
use Rattle.paper.specs.Text.Scalar.{between, plus_sign, digit0}
use Rattle.paper.specs.Numbers.Numeral.{decimal, hexadecimal, digit9, upper_a, upper_f, lower_a, lower_f, no_digit, is_digit, value_after, plus, Numeral}
use Rattle.paper.specs.Computed.Numeral.{drop_plus, spelled_by, numeral}
use Rattle.paper.proofs.Apart.{none_some}
use Rattle.paper.proofs.Lists.Facts.{T→true, T→false, true→T, apart, full_all, all_imp, full_imp}

-- the bases in use have digits
pub decimal_small : decimal ≤ no_digit
decimal_small = lit≤ tt

pub hex_small : hexadecimal ≤ no_digit
hex_small = lit≤ tt

-- ---- digits

-- one past the greatest digit
abbrev pub past_digits : ℕ
past_digits = lower_f + 1

pub digit_small : (base c : ℕ) → base ≤ no_digit → T (is_digit base c) → c < past_digits
unfolding is_digit
digit_small base c b t = go (between digit0 digit9 c) (between upper_a upper_f c) (between lower_a lower_f c) (λ h. h) (λ h. h) (λ h. h) t
  where
    go : (x y z : Bool) → (T x → T (between digit0 digit9 c)) → (T y → T (between upper_a upper_f c)) → (T z → T (between lower_a lower_f c))
        → T (ltb (cond x (c - digit0) (cond y (c - (upper_a - decimal)) (cond z (c - (lower_a - decimal)) no_digit))) base) → c < past_digits
    go true y z f g h u = let k : c ≤ digit9 = leb_yes (and_yes (leb digit0 c) (leb c digit9) (f tt)).1 in omega arith
    go false true z f g h u = let k : c ≤ upper_f = leb_yes (and_yes (leb upper_a c) (leb c upper_f) (g tt)).1 in omega arith
    go false false true f g h u = let k : c ≤ lower_f = leb_yes (and_yes (leb lower_a c) (leb c lower_f) (h tt)).1 in omega arith
    go false false false f g h u = let k : no_digit < base = ltb_yes u in omega arith

pub digit_hex : (base c : ℕ) → base ≤ no_digit → T (is_digit base c) → T (is_digit hexadecimal c)
unfolding is_digit
digit_hex base c b t = yes_ltb (lt_of_lt_of_le (ltb_yes t) b)

-- a digit is none of the characters that 16's digits are not
pub digit_apart : (base k : ℕ) → base ≤ no_digit → is_digit hexadecimal k ≡ false → (c : ℕ) → T (is_digit base c) → T (not (eqb c k))
digit_apart base k b e c t = apart (is_digit hexadecimal) k e c (digit_hex base c b t)

-- ---- what is read is spelled

module _ (base limit : ℕ) where
  pub spelled_sound : (ds : List ℕ) (n : ℕ) → spelled_by base limit ds ≡ some n
      → T (full (is_digit base) ds) × (n ≡ value_after base 0 ds) × (n ≤ limit)
  unfolding spelled_by
  spelled_sound ds n h = go (full (is_digit base) ds && leb v limit) refl h
    where
      v : ℕ
      v = value_after base 0 ds

      go : (b : Bool) → (full (is_digit base) ds && leb v limit) ≡ b → cond b (some v) none ≡ some n
          → T (full (is_digit base) ds) × (n ≡ v) × (n ≤ limit)
      go true e h =
          let t = and_yes (full (is_digit base) ds) (leb v limit) (true→T _ e) in
          let same : n ≡ v = cc in
          (t.0, same, rw same (leb_yes t.1))
      go false e h = none_some h

  pub numeral_sound : (cs : List ℕ) (n : ℕ) → numeral base limit cs ≡ some n → Numeral base limit cs n
  unfolding numeral
  numeral_sound [] n h = absurd (spelled_sound [] n h).0
  numeral_sound (c ∷ cs) n h = step (eqb c plus_sign) refl h
    where
      step : (b : Bool) → eqb c plus_sign ≡ b → spelled_by base limit (cond b cs (c ∷ cs)) ≡ some n → Numeral base limit (c ∷ cs) n
      step true e h =
          let r = spelled_sound cs n h in
          record { sign = c ∷ []; digits = cs; whole = refl; signed = true→T _ e; spelled = r.0; value = r.1; fits = r.2 }
      step false e h =
          let r = spelled_sound (c ∷ cs) n h in
          record { sign = []; digits = c ∷ cs; whole = refl; signed = tt; spelled = r.0; value = r.1; fits = r.2 }

-- ---- what is spelled is read

module _ (base limit : ℕ) (b16 : base ≤ no_digit) where
  sign_digits : (q : ℕ → Bool) → T (q plus_sign) → ((c : ℕ) → T (is_digit base c) → T (q c))
      → (sign ds : List ℕ) → T (plus sign) → T (full (is_digit base) ds) → T (full q (sign ++ ds))
  sign_digits q q+ f [] ds p d = full_imp (is_digit base) q f ds d
  sign_digits q q+ f (c ∷ []) ds p d =
      yes_and (q c) (all q ds) (subst (λ k. T (q k)) (sym (eqb→eq c plus_sign p)) q+) (all_imp (is_digit base) q f ds (full_all (is_digit base) ds d))
  sign_digits q q+ f (c ∷ e ∷ s) ds p d = absurd p

  -- what holds of `+` and of digits holds of a numeral's characters
  pub numeral_chars : (q : ℕ → Bool) → T (q plus_sign) → ((c : ℕ) → T (is_digit base c) → T (q c))
      → {cs : List ℕ} {n : ℕ} → Numeral base limit cs n → T (full q cs)
  numeral_chars q q+ f r = rw r.whole (sign_digits q q+ f r.sign r.digits r.signed r.spelled)

  drop_plus_digits : (sign ds : List ℕ) → T (plus sign) → T (full (is_digit base) ds) → drop_plus (sign ++ ds) ≡ ds
  drop_plus_digits [] [] p d = refl
  drop_plus_digits [] (c ∷ ds) p d =
      let h = and_yes (is_digit base c) (all (is_digit base) ds) d in
      rw (T→false (eqb c plus_sign) (digit_apart base plus_sign b16 (unfold is_digit in refl) c h.0))
  drop_plus_digits (c ∷ []) ds p d = rw (T→true (eqb c plus_sign) p)
  drop_plus_digits (c ∷ e ∷ s) ds p d = absurd p

  pub numeral_read : {cs : List ℕ} {n : ℕ} → Numeral base limit cs n → numeral base limit cs ≡ some n
  unfolding numeral
  numeral_read {cs} {n} r =
      rw (r.whole, drop_plus_digits r.sign r.digits r.signed r.spelled)
      (rw (← r.value, T→true (full (is_digit base) r.digits) r.spelled, T→true (leb n limit) (yes_leb r.fits)))
