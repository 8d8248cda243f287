-- What each public function promises, `said answer ≡ what the paper computes`, is that the answer fits the paper's relation:
-- accepted exactly when some number fits, with that number, and refused by the number whose reason holds. So two answers that
-- a promise allows coincide.
-- Assumes nothing.
use Prim.Native.Nat.{ℕ, ◌≤◌}
use native.Mathlib.Omega.{arith}
use mathlib.Core.Path.{◌≡◌, refl, sym, ap, ◌∙◌, subst}
use mathlib.Core.Logic.{◌↔◌, ◌≢◌, ◌⊎◌, inl, inr}
use mathlib.Core.Bool.{Bool, true, false}
use mathlib.Core.Option.{Option, none, some}
use mathlib.Core.List.{List}
use lib.Dec.{eqb}
use borrow.Author.Tests.{eqb-true, eqb-false, ne_eqb}
use Rattle.paper.specs.Sizes.{max_u16, max_u32, max_i32, low_i32}
use Rattle.paper.specs.Refusals.{bound_unreadable, bound_mark}
use Rattle.paper.specs.Numbers.Numeral.{Numeral, Integer, pos, neg, SignedNumeral, decimal, hexadecimal, no_digit}
use Rattle.paper.specs.CharDef.Line.{stands_for}
use Rattle.paper.specs.CharDef.Line as line
use Rattle.paper.specs.CharDef.BadLine.{Hex16}
use Rattle.paper.specs.Computed.Numeral.{numeral, signed_numeral}
use Rattle.paper.specs.Computed.ReadText.{bound_is, no_bound, strip0x, checked_bound, bound_of}
use Rattle.paper.proofs.Apart.{zero_one, none_some}
use Rattle.paper.proofs.Numbers.Read.{decimal_small}
use Rattle.paper.proofs.Numbers.Laws as laws
use Rattle.paper.proofs.CharDef.Bounds.{hex_read, hex_found}
use Rattle.numeral.specs.declared.Signed.{Signed}
use Rattle.numeral.specs.declared.Signed.TheVariants as signed
use Rattle.numeral.specs.Said.{said_number, said_signed, said_bound}
use Rattle.numeral.specs.Fits.{NumberFits, SignedFits, Marked, CodeFits, unreadable, mark, BoundFits}
use Rattle.std.specs.Prelude.{Err, None, Ok, Result, Some}
use Rattle.std.specs.Prelude as code

-- ---- an answer is what it says

pub said_number_lem : (r s : code.Option ℕ) → said_number r ≡ said_number s → r ≡ s
said_number_lem (Some m) (Some n) e = cc
said_number_lem (Some m) None e = none_some (sym e)
said_number_lem None (Some n) e = none_some e
said_number_lem None None e = refl

pub said_signed_lem : (r s : code.Option Signed) → said_signed r ≡ said_signed s → r ≡ s
said_signed_lem (Some (signed.Plus m)) (Some (signed.Plus n)) e = cc
said_signed_lem (Some (signed.Plus m)) (Some (signed.Minus n)) e = zero_one (cc)
said_signed_lem (Some (signed.Plus m)) None e = none_some (sym e)
said_signed_lem (Some (signed.Minus m)) (Some (signed.Plus n)) e = zero_one (cc)
said_signed_lem (Some (signed.Minus m)) (Some (signed.Minus n)) e = cc
said_signed_lem (Some (signed.Minus m)) None e = none_some (sym e)
said_signed_lem None (Some (signed.Plus n)) e = none_some e
said_signed_lem None (Some (signed.Minus n)) e = none_some e
said_signed_lem None None e = refl

pub said_bound_lem : (r s : Result ℕ ℕ) → said_bound r ≡ said_bound s → r ≡ s
said_bound_lem (Ok m) (Ok n) e = cc
said_bound_lem (Ok m) (Err n) e = zero_one (cc)
said_bound_lem (Err m) (Ok n) e = zero_one (cc)
said_bound_lem (Err m) (Err n) e = cc

-- ---- numerals, over base and limit

-- a computed answer that is some exactly where a relation holds is none exactly where it holds of nothing
module _ {A : Type 0} {Fits : A → Type 0} (o : Option A) (law : (x : A) → (o ≡ some x) ↔ Fits x) where
  some_fits : (x : A) → (some x ≡ o) ↔ Fits x
  some_fits x = (λ e. (law x).0 (sym e), λ f. sym ((law x).1 f))

  none_fits : (none ≡ o) ↔ ((x : A) → Fits x → ⊥)
  none_fits = (λ e x f. none_some (e ∙ (law x).1 f), λ never. go never o refl)
    where
      go : ((x : A) → Fits x → ⊥) → (p : Option A) → o ≡ p → none ≡ o
      go never none e = sym e
      go never (some x) e = absurd (never x ((law x).0 e))

module _ (base limit : ℕ) (b16 : base ≤ no_digit) (cs : List ℕ) where
  pub number_fits : (r : code.Option ℕ) → (said_number r ≡ numeral base limit cs) ↔ NumberFits base limit cs r
  number_fits (Some n) = some_fits (numeral base limit cs) (laws.unsigned base limit b16 cs) n
  number_fits None = none_fits (numeral base limit cs) (laws.unsigned base limit b16 cs)

  pub number_one : (r s : code.Option ℕ) → NumberFits base limit cs r → NumberFits base limit cs s → r ≡ s
  number_one r s f g = said_number_lem r s ((number_fits r).1 f ∙ sym ((number_fits s).1 g))

  -- accepted exactly when some number fits, and with that one
  pub number_read : (r : code.Option ℕ) → NumberFits base limit cs r → (n : ℕ) → (r ≡ Some n) ↔ Numeral base limit cs n
  number_read r f n = (λ e. subst (NumberFits base limit cs) e f, λ g. number_one r (Some n) f g)

module _ (base top low : ℕ) (b16 : base ≤ no_digit) (cs : List ℕ) where
  pub signed_fits : (r : code.Option Signed) → (said_signed r ≡ signed_numeral base top low cs) ↔ SignedFits base top low cs r
  signed_fits (Some (signed.Plus n)) = some_fits (signed_numeral base top low cs) (laws.signed base top low b16 cs) (pos n)
  signed_fits (Some (signed.Minus n)) = some_fits (signed_numeral base top low cs) (laws.signed base top low b16 cs) (neg n)
  signed_fits None = none_fits (signed_numeral base top low cs) (laws.signed base top low b16 cs)

  pub signed_one : (r s : code.Option Signed) → SignedFits base top low cs r → SignedFits base top low cs s → r ≡ s
  signed_one r s f g = said_signed_lem r s ((signed_fits r).1 f ∙ sym ((signed_fits s).1 g))

  pub signed_read : (r : code.Option Signed) → SignedFits base top low cs r → (i : Integer) → (said_signed r ≡ some i) ↔ SignedNumeral base top low cs i
  signed_read r f i =
      let e = (signed_fits r).1 f in
      let law = laws.signed base top low b16 cs i in
      (λ g. law.0 (sym e ∙ g), λ g. e ∙ law.1 g)

-- ---- codes

neither : (code : ℕ) → code ≢ 0xFEFF → code ≢ 0xFFFE → checked_bound (some code) ≡ bound_is (stands_for code)
unfolding checked_bound
neither code f g = rw (ne_eqb code 0xFEFF f, ne_eqb code 0xFFFE g)

marked : (code : ℕ) → Marked code → checked_bound (some code) ≡ no_bound bound_mark
unfolding checked_bound
marked code (inl e) = rw e
marked code (inr e) = rw e

which : (code : ℕ) → Marked code ⊎ ((code ≢ 0xFEFF) × (code ≢ 0xFFFE))
which code = go (eqb code 0xFEFF) (eqb code 0xFFFE) refl refl
  where
    go : (x y : Bool) → eqb code 0xFEFF ≡ x → eqb code 0xFFFE ≡ y → Marked code ⊎ ((code ≢ 0xFEFF) × (code ≢ 0xFFFE))
    go true y e f = inl (inl (eqb-true code 0xFEFF e))
    go false true e f = inl (inr (eqb-true code 0xFFFE f))
    go false false e f = inr (eqb-false code 0xFEFF e, eqb-false code 0xFFFE f)

pub ucs2_to_unicode_fits : (code : ℕ) (r : Result ℕ ℕ) → (said_bound r ≡ checked_bound (some code)) ↔ CodeFits code r
ucs2_to_unicode_fits code (Ok b) = (λ e. there e (which code), λ f. ap bound_is f.2 ∙ sym (neither code f.0 f.1))
  where
    there : bound_is b ≡ checked_bound (some code) → Marked code ⊎ ((code ≢ 0xFEFF) × (code ≢ 0xFFFE)) → CodeFits code (Ok b)
    there e (inl m) = let c : bound_is b ≡ no_bound bound_mark = e ∙ marked code m in zero_one (cc)
    there e (inr n) = let c : bound_is b ≡ bound_is (stands_for code) = e ∙ neither code n.0 n.1 in (n.0, n.1, cc)
ucs2_to_unicode_fits code (Err k) = (λ e. there e (which code), λ f. ap no_bound f.1 ∙ sym (marked code f.0))
  where
    there : no_bound k ≡ checked_bound (some code) → Marked code ⊎ ((code ≢ 0xFEFF) × (code ≢ 0xFFFE)) → CodeFits code (Err k)
    there e (inl m) = let c : no_bound k ≡ no_bound bound_mark = e ∙ marked code m in (m, cc)
    there e (inr n) = let c : no_bound k ≡ bound_is (stands_for code) = e ∙ neither code n.0 n.1 in zero_one (cc)

pub ucs2_to_unicode_one : (code : ℕ) (r s : Result ℕ ℕ) → CodeFits code r → CodeFits code s → r ≡ s
ucs2_to_unicode_one code r s f g = said_bound_lem r s ((ucs2_to_unicode_fits code r).1 f ∙ sym ((ucs2_to_unicode_fits code s).1 g))

-- ---- bounds

pub hex_code : (cs : List ℕ) (code : ℕ) → (numeral hexadecimal max_u16 (strip0x cs) ≡ some code) ↔ Hex16 cs code
hex_code cs code = (hex_found cs code, hex_read)

module _ (cs : List ℕ) where
  of_code : (code : ℕ) → Hex16 cs code → bound_of cs ≡ checked_bound (some code)
  unfolding bound_of
  of_code code h = ap checked_bound ((hex_code cs code).1 h)

  of_none : ((code : ℕ) → Hex16 cs code → ⊥) → bound_of cs ≡ no_bound bound_unreadable
  unfolding bound_of checked_bound
  of_none never = ap checked_bound (sym ((none_fits (numeral hexadecimal max_u16 (strip0x cs)) (hex_code cs)).1 never))

  has_code : ((code : ℕ) × Hex16 cs code) ⊎ ((code : ℕ) → Hex16 cs code → ⊥)
  has_code = go (numeral hexadecimal max_u16 (strip0x cs)) refl
    where
      go : (o : Option ℕ) → numeral hexadecimal max_u16 (strip0x cs) ≡ o → ((code : ℕ) × Hex16 cs code) ⊎ ((code : ℕ) → Hex16 cs code → ⊥)
      go none e = inr ((none_fits (numeral hexadecimal max_u16 (strip0x cs)) (hex_code cs)).0 (sym e))
      go (some code) e = inl (code, (hex_code cs code).0 e)

  pub parse_hex_codepoint_fits : (r : Result ℕ ℕ) → (said_bound r ≡ bound_of cs) ↔ BoundFits cs r
  parse_hex_codepoint_fits (Ok b) = (λ e. there e has_code, back)
    where
      there : bound_is b ≡ bound_of cs → ((code : ℕ) × Hex16 cs code) ⊎ ((code : ℕ) → Hex16 cs code → ⊥) → BoundFits cs (Ok b)
      there e (inl (code, h)) =
          let f = (ucs2_to_unicode_fits code (Ok b)).0 (e ∙ of_code code h) in
          record {
            times = h.times;
            numeral = h.numeral;
            code = code;
            whole = h.whole;
            enough = omega arith;
            number = h.number;
            no_mark = f.0;
            no_swap = f.1;
            says = f.2;
          }
      there e (inr never) = let c : bound_is b ≡ no_bound bound_unreadable = e ∙ of_none never in zero_one (cc)

      back : BoundFits cs (Ok b) → bound_is b ≡ bound_of cs
      back f =
          let h : Hex16 cs f.code = record { times = f.times; numeral = f.numeral; whole = f.whole; number = f.number } in
          (ucs2_to_unicode_fits f.code (Ok b)).1 (f.no_mark, f.no_swap, f.says) ∙ sym (of_code f.code h)
  parse_hex_codepoint_fits (Err k) = (λ e. there e has_code, back)
    where
      there : no_bound k ≡ bound_of cs → ((code : ℕ) × Hex16 cs code) ⊎ ((code : ℕ) → Hex16 cs code → ⊥) → BoundFits cs (Err k)
      there e (inl (code, h)) = let f = (ucs2_to_unicode_fits code (Err k)).0 (e ∙ of_code code h) in mark code h f.0 f.1
      there e (inr never) = let c : no_bound k ≡ no_bound bound_unreadable = e ∙ of_none never in unreadable never (cc)

      back : BoundFits cs (Err k) → no_bound k ≡ bound_of cs
      back (unreadable never e) = ap no_bound e ∙ sym (of_none never)
      back (mark code h m e) = (ucs2_to_unicode_fits code (Err k)).1 (m, e) ∙ sym (of_code code h)

  pub parse_hex_codepoint_one : (r s : Result ℕ ℕ) → BoundFits cs r → BoundFits cs s → r ≡ s
  parse_hex_codepoint_one r s f g = said_bound_lem r s ((parse_hex_codepoint_fits r).1 f ∙ sym ((parse_hex_codepoint_fits s).1 g))

  pub parse_hex_codepoint_read : (r : Result ℕ ℕ) → BoundFits cs r → (b : ℕ) → (r ≡ Ok b) ↔ line.Bound 0 cs b
  parse_hex_codepoint_read r f b = (λ e. subst (BoundFits cs) e f, λ g. parse_hex_codepoint_one r (Ok b) f g)

-- ---- u32 and i32

pub parse_u32_fits : (cs : List ℕ) (r : code.Option ℕ) → (said_number r ≡ numeral decimal max_u32 cs) ↔ NumberFits decimal max_u32 cs r
parse_u32_fits cs = number_fits decimal max_u32 decimal_small cs

pub parse_i32_fits : (cs : List ℕ) (r : code.Option Signed) → (said_signed r ≡ signed_numeral decimal max_i32 low_i32 cs) ↔ SignedFits decimal max_i32 low_i32 cs r
parse_i32_fits cs = signed_fits decimal max_i32 low_i32 decimal_small cs

-- two answers that a promise allows coincide
pub parse_u32_one : (cs : List ℕ) (r s : code.Option ℕ) → NumberFits decimal max_u32 cs r → NumberFits decimal max_u32 cs s → r ≡ s
parse_u32_one cs = number_one decimal max_u32 decimal_small cs

pub parse_i32_one : (cs : List ℕ) (r s : code.Option Signed) → SignedFits decimal max_i32 low_i32 cs r → SignedFits decimal max_i32 low_i32 cs s → r ≡ s
parse_i32_one cs = signed_one decimal max_i32 low_i32 decimal_small cs

-- accepted exactly when some number fits, and with that one
pub parse_u32_read : (cs : List ℕ) (r : code.Option ℕ) → NumberFits decimal max_u32 cs r → (n : ℕ) → (r ≡ Some n) ↔ Numeral decimal max_u32 cs n
parse_u32_read cs = number_read decimal max_u32 decimal_small cs

pub parse_i32_read : (cs : List ℕ) (r : code.Option Signed) → SignedFits decimal max_i32 low_i32 cs r
    → (i : Integer) → (said_signed r ≡ some i) ↔ SignedNumeral decimal max_i32 low_i32 cs i
parse_i32_read cs = signed_read decimal max_i32 low_i32 decimal_small cs
