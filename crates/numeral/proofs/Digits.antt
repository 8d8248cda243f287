-- Digits read from the left. The one law, over base and limit: a loop that stops where its value passes the limit says what the
-- whole numeral says, since more digits never give a smaller number. Then the loop's single steps, at a place of a text.
-- Assumes nothing.
use Prim.Native.Nat.{ℕ, ◌+◌, ◌-◌, ◌*◌, ◌≤◌, ◌<◌}
use native.Mathlib.Omega.{arith}
use native.Mathlib.Numerals.{add-one}
use native.Mathlib.Nat.{mul-le-mul, le-mul_of_pos_right, le_trans}
use mathlib.Core.Path.{◌≡◌, refl, sym, ap, ◌∙◌}
use mathlib.Core.Bool.{Bool, true, false, cond, ◌&&◌}
use mathlib.Core.Option.{none, some}
use mathlib.Core.Option as math
use mathlib.Core.List.{List, [], ◌∷◌}
use lib.Dec.{leb, eqb}
use lib.ListN.{length, take, drop, get_or, drop_of_length-le}
use lib.Seq.{drop-cons}
use denote.Ref.{Bor}
use Rattle.std.specs.Cmp.Lexicographic.{pointwise}
use Rattle.std.specs.Option.{MatchOption, IsSomeAnd, unwrap_or}
use Rattle.std.specs.Prelude.{Option, Some, None}
use Rattle.std.proofs.Math.Bool.{and-true}
use Rattle.std.proofs.lemmas.Bool.{false≢true}
use borrow.Author.Tests.{lt-ltb, le-ltb, le-leb, lt-leb, leb-true, leb-false}
use Rattle.paper.specs.Sizes.{max_u32}
use Rattle.paper.specs.Lists.{all}
use Rattle.paper.specs.Text.Scalar.{between, plus_sign, minus_sign}
use Rattle.paper.specs.Numbers.Numeral.{digit_of, is_digit, value_after, Integer}
use Rattle.paper.specs.Computed.Numeral.{drop_plus, spelled_by, numeral, as_neg, as_pos, signed_numeral}
use Rattle.numeral.specs.declared.Signed.{Signed}
use Rattle.numeral.specs.Said.{said_number, said_signed}
use Rattle.numeral.specs.DigitLoop.{digit_loop, digits_after}

-- ---- runs of numbers

pub below : (lo hi c : ℕ) → c < lo → between lo hi c ≡ false
below lo hi c h = ap (λ x. x && leb c hi) (lt-leb lo c h)

pub above : (lo hi c : ℕ) → hi < c → between lo hi c ≡ false
above lo hi c h = go (leb lo c) (lt-leb c hi h)
  where
    go : (a : Bool) → leb c hi ≡ false → (a && leb c hi) ≡ false
    go true e = e
    go false e = refl

pub within : (lo hi c : ℕ) → lo ≤ c → c ≤ hi → between lo hi c ≡ true
within lo hi c h k = rw (le-leb lo c h, le-leb c hi k)

-- ---- a digit

module _ (b : ℕ) where
  pub decimal : (r : ℕ) → 48 ≤ b → b ≤ 57 → r ≡ b - 48 → r ≡ digit_of b
  unfolding digit_of
  decimal r h k e = rw (within 48 57 b h k) e

  pub upper : (r : ℕ) → 65 ≤ b → b ≤ 70 → r ≡ b - 55 → r ≡ digit_of b
  unfolding digit_of
  upper r h k e = rw (above 48 57 b (omega arith), within 65 70 b h k) e

  pub lower : (r : ℕ) → 97 ≤ b → b ≤ 102 → r ≡ b - 87 → r ≡ digit_of b
  unfolding digit_of
  lower r h k e = rw (above 48 57 b (omega arith), above 65 70 b (omega arith), within 97 102 b h k) e

  pub none_here : between 48 57 b ≡ false → between 65 70 b ≡ false → between 97 102 b ≡ false → 16 ≡ digit_of b
  unfolding digit_of
  none_here e f g = rw (e, f, g)

-- ---- the law

-- more digits give no smaller number
grows : (base v : ℕ) (ds : List ℕ) → 1 ≤ base → v ≤ value_after base v ds
unfolding value_after
grows base v [] h = omega arith
grows base v (d ∷ ds) h =
    let k : v ≤ v * base = le-mul_of_pos_right v h in
    let i : v * base + digit_of d ≤ value_after base (v * base + digit_of d) ds = grows base (v * base + digit_of d) ds h in
    omega arith

over : (base limit v : ℕ) (ds : List ℕ) → 1 ≤ base → limit < v → digits_after base limit v ds ≡ none
unfolding digits_after
over base limit v ds h k =
    let g = grows base v ds h in
    go (all (is_digit base) ds) (lt-leb (value_after base v ds) limit (omega arith))
  where
    go : (a : Bool) → leb (value_after base v ds) limit ≡ false
        → cond (a && leb (value_after base v ds) limit) (some (value_after base v ds)) none ≡ none
    go true e = rw e
    go false e = refl

loop_says : (base limit v : ℕ) (ds : List ℕ) → 1 ≤ base → v ≤ limit → digit_loop base limit v ds ≡ digits_after base limit v ds
unfolding digit_loop digits_after value_after
loop_says base limit v [] h k = rw (le-leb v limit k)
loop_says base limit v (d ∷ ds) h k = go (is_digit base d) (leb w limit) refl (λ m. loop_says base limit w ds h m)
  where
    w : ℕ
    w = v * base + digit_of d

    go : (a b : Bool) → leb w limit ≡ b → (w ≤ limit → digit_loop base limit w ds ≡ digits_after base limit w ds)
        → cond (a && b) (digit_loop base limit w ds) none
        ≡ cond ((a && all (is_digit base) ds) && leb (value_after base w ds) limit) (some (value_after base w ds)) none
    go true true e more = more (leb-true w limit e)
    go true false e more = sym (over base limit w ds h (leb-false w limit e))
    go false b e more = refl

-- one or more digits: the loop from 0 reads their value, and refuses exactly what is no digit or passes the limit
pub loop_reads : (base limit d : ℕ) (ds : List ℕ) → 1 ≤ base → digit_loop base limit 0 (d ∷ ds) ≡ spelled_by base limit (d ∷ ds)
unfolding spelled_by digits_after
loop_reads base limit d ds h = loop_says base limit 0 (d ∷ ds) h (omega arith)

-- ---- the loop's steps, at a place among the digits

pub no_digits : (base limit : ℕ) (l : List ℕ) → length l ≡ 0 → none ≡ spelled_by base limit l
unfolding spelled_by
no_digits base limit [] h = refl
no_digits base limit (d ∷ l) h = absurd (omega arith)

pub began : (base limit : ℕ) (l : List ℕ) → 1 ≤ base → 0 < length l → spelled_by base limit l ≡ digit_loop base limit 0 l
began base limit [] b h = absurd (omega arith)
began base limit (d ∷ l) b h = sym (loop_reads base limit d l b)

module _ (l : List ℕ) (base limit at : ℕ) (h : at < length l) where
  here : drop at l ≡ get_or l at 0 ∷ drop (at + 1) l
  here = drop-cons l at 0 h ∙ ap (λ n. get_or l at 0 ∷ drop n l) (sym (add-one at))

  pub digit : (v d : ℕ) → d ≡ digit_of (get_or l at 0) → d < base → v * base + d ≤ limit
      → digit_loop base limit v (drop at l) ≡ digit_loop base limit (v * base + d) (drop (at + 1) l)
  unfolding digit_loop is_digit
  digit v d e m f = rw (here, ← e, lt-ltb d base m, le-leb (v * base + d) limit f)

  pub not_digit : (v d : ℕ) → d ≡ digit_of (get_or l at 0) → base ≤ d → digit_loop base limit v (drop at l) ≡ none
  unfolding digit_loop is_digit
  not_digit v d e m = rw (here, ← e, le-ltb d base m)

  pub too_great : (v d : ℕ) → d ≡ digit_of (get_or l at 0) → d < base → limit < v * base + d → digit_loop base limit v (drop at l) ≡ none
  unfolding digit_loop is_digit
  too_great v d e m f = rw (here, ← e, lt-ltb d base m, lt-leb (v * base + d) limit f)

pub digits_ended : (base limit v : ℕ) (l : List ℕ) (at : ℕ) → length l ≤ at → digit_loop base limit v (drop at l) ≡ some v
unfolding digit_loop
digits_ended base limit v l at h = rw (drop_of_length-le l h)

-- ---- the sign

-- what stands behind a byte in front, if the byte stands there
abbrev pub Behind : ℕ → List ℕ → Option (Bor (List ℕ)) → Type 0
Behind c s r = MatchOption r (pointwise eqb (take 1 s) (c ∷ []) ≡ false) (λ x. (pointwise eqb (take 1 s) (c ∷ []) ≡ true) × (x.now ≡ drop 1 s) × (length x.now + 1 ≡ length s))

plus_dropped : (s : List ℕ) (d : Bor (List ℕ)) → d.now ≡ s → (r : Option (Bor (List ℕ))) → Behind plus_sign s r → (unwrap_or r d).now ≡ drop_plus s
plus_dropped [] d e None h = e
plus_dropped [] d e (Some x) h = absurd (false≢true h.0)
plus_dropped (a ∷ s) d e None h = e ∙ sym (ap (λ b. cond b s (a ∷ s)) (sym (and-true (eqb a plus_sign)) ∙ h))
plus_dropped (a ∷ s) d e (Some x) h = h.1 ∙ sym (ap (λ b. cond b s (a ∷ s)) (sym (and-true (eqb a plus_sign)) ∙ h.0))

pub plus_taken : (base limit : ℕ) (s : List ℕ) (d : Bor (List ℕ)) → d.now ≡ s → (r : Option (Bor (List ℕ))) → Behind plus_sign s r
    → spelled_by base limit (unwrap_or r d).now ≡ numeral base limit s
unfolding numeral
plus_taken base limit s d e r h = ap (spelled_by base limit) (plus_dropped s d e r h)

module _ (base top low : ℕ) where
  pub negative : (s rest : List ℕ) → pointwise eqb (take 1 s) (minus_sign ∷ []) ≡ true → rest ≡ drop 1 s
      → as_neg (spelled_by base low rest) ≡ signed_numeral base top low s
  unfolding signed_numeral
  negative [] rest h e = absurd (false≢true h)
  negative (a ∷ s) rest h e =
      ap (λ l. as_neg (spelled_by base low l)) e
      ∙ sym (ap (λ b. cond b (as_neg (spelled_by base low s)) (as_pos (numeral base top (a ∷ s)))) (sym (and-true (eqb a minus_sign)) ∙ h))

  pub positive : (s : List ℕ) → pointwise eqb (take 1 s) (minus_sign ∷ []) ≡ false → as_pos (numeral base top s) ≡ signed_numeral base top low s
  unfolding signed_numeral numeral
  positive [] h = ap as_pos (sym (no_digits base top [] refl))
  positive (a ∷ s) h =
      sym (ap (λ b. cond b (as_neg (spelled_by base low s)) (as_pos (numeral base top (a ∷ s)))) (sym (and-true (eqb a minus_sign)) ∙ h))

-- the sign of what was read
pub signed_by : (sign : ℕ → Signed) (say : math.Option ℕ → math.Option Integer) → none ≡ say none → ((n : ℕ) → said_signed (Some (sign n)) ≡ say (some n))
    → (o : Option ℕ) (r : Option Signed) (Gives : ℕ → Signed → Type 0) → MatchOption o (r ≡ None) (λ n. IsSomeAnd r (Gives n))
    → ((n : ℕ) (y : Signed) → Gives n y → y ≡ sign n) → said_signed r ≡ say (said_number o)
signed_by sign say e f None r Gives m g = ap said_signed m ∙ e
signed_by sign say e f (Some n) None Gives m g = absurd m
signed_by sign say e f (Some n) (Some y) Gives m g = ap (λ z. said_signed (Some z)) (g n y m) ∙ f n

-- ---- room for the next value

-- the product fits in 64 bits
pub small : (v base limit : ℕ) → v ≤ limit → limit ≤ max_u32 → base ≤ 16 → v * base ≤ 0xF_FFFF_FFF0
small v base limit h k m = mul-le-mul (le_trans h k) m
