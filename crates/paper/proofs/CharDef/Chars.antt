-- Which characters are which: separators are White_Space, neither is `#` or `x`, and digits are characters of names and of fields.
-- Assumes nothing.
use Prim.Native.Nat.{ℕ, ◌≤◌}
use mathlib.Core.Path.{refl}
use mathlib.Core.Logic.{◌⊎◌, inl, inr}
use mathlib.Core.Bool.{Bool, true, false, not, ◌||◌}
use lib.Dec.{T, eqb, eqb→eq}
use mir.Facts.{and_yes, yes_and, or_yes}
use Rattle.paper.specs.Text.Scalar.{is_white, is_sep, tab, form_feed, cr, space, hash, letter_x}
use Rattle.paper.specs.Numbers.Numeral.{hexadecimal, no_digit, is_digit}
use Rattle.paper.specs.CharDef.Line.{is_hash, is_name_char, is_field_char}
use Rattle.paper.proofs.Lists.Facts.{apart, from_below, un}
use Rattle.paper.proofs.Numbers.Read.{past_digits, digit_small, digit_hex}

-- p's characters are q's, as a test
abbrev imp : (ℕ → Bool) → (ℕ → Bool) → ℕ → Bool
imp p q c = not (p c) || q c

use_imp : (a b : Bool) → T (not a || b) → T a → T b
use_imp true b t h = t
use_imp false b t h = absurd h

pub sep_white : (c : ℕ) → T (is_sep c) → T (is_white c)
unfolding is_sep is_white
sep_white c t = go (or_yes (eqb c tab || eqb c form_feed || eqb c cr) (eqb c space) t)
  where
    at : (k : ℕ) → T (is_white k) → T (eqb c k) → T (is_white c)
    at k w e = rw (eqb→eq c k e) w

    go₂ : T (eqb c tab) ⊎ T (eqb c form_feed) → T (is_white c)
    go₂ (inl e) = at tab tt e
    go₂ (inr e) = at form_feed tt e

    go₁ : T (eqb c tab || eqb c form_feed) ⊎ T (eqb c cr) → T (is_white c)
    go₁ (inl e) = go₂ (or_yes (eqb c tab) (eqb c form_feed) e)
    go₁ (inr e) = at cr tt e

    go : T (eqb c tab || eqb c form_feed || eqb c cr) ⊎ T (eqb c space) → T (is_white c)
    go (inl e) = go₁ (or_yes (eqb c tab || eqb c form_feed) (eqb c cr) e)
    go (inr e) = at space tt e

pub white_no_hash : (c : ℕ) → T (is_white c) → T (un is_hash c)
unfolding is_white
white_no_hash = apart is_white hash refl

pub sep_no_hash : (c : ℕ) → T (is_sep c) → T (un is_hash c)
unfolding is_sep
sep_no_hash = apart is_sep hash refl

pub white_no_x : (c : ℕ) → T (is_white c) → T (not (eqb c letter_x))
unfolding is_white
white_no_x = apart is_white letter_x refl

pub sep_no_x : (c : ℕ) → T (is_sep c) → T (not (eqb c letter_x))
unfolding is_sep
sep_no_x = apart is_sep letter_x refl

pub name_char : (c : ℕ) → T (un is_white c) → T (un is_hash c) → T (is_name_char c)
unfolding is_name_char
name_char c a b = yes_and (un is_white c) (un is_hash c) a b

pub name_no_hash : (c : ℕ) → T (is_name_char c) → T (un is_hash c)
unfolding is_name_char
name_no_hash c t = (and_yes (not (is_white c)) (not (is_hash c)) t).1

pub name_no_white : (c : ℕ) → T (is_name_char c) → T (un is_white c)
unfolding is_name_char
name_no_white c t = (and_yes (not (is_white c)) (not (is_hash c)) t).0

pub field_char : (c : ℕ) → T (un is_sep c) → T (un is_hash c) → T (is_field_char c)
unfolding is_field_char
field_char c a b = yes_and (un is_sep c) (un is_hash c) a b

pub field_no_hash : (c : ℕ) → T (is_field_char c) → T (un is_hash c)
unfolding is_field_char
field_no_hash c t = (and_yes (not (is_sep c)) (not (is_hash c)) t).1

pub field_no_sep : (c : ℕ) → T (is_field_char c) → T (un is_sep c)
unfolding is_field_char
field_no_sep c t = (and_yes (not (is_sep c)) (not (is_hash c)) t).0

pub digit_name : (base : ℕ) → base ≤ no_digit → (c : ℕ) → T (is_digit base c) → T (is_name_char c)
unfolding is_digit is_name_char
digit_name base b c t =
    use_imp (is_digit hexadecimal c) (is_name_char c) (from_below (imp (is_digit hexadecimal) is_name_char) past_digits tt c (digit_small base c b t)) (digit_hex base c b t)

pub digit_field : (base : ℕ) → base ≤ no_digit → (c : ℕ) → T (is_digit base c) → T (is_field_char c)
unfolding is_digit is_field_char
digit_field base b c t =
    use_imp (is_digit hexadecimal c) (is_field_char c) (from_below (imp (is_digit hexadecimal) is_field_char) past_digits tt c (digit_small base c b t)) (digit_hex base c b t)
