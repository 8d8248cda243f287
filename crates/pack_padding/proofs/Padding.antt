-- The padding: fewer than eight bits, all of them zero; read as one number they are 0.
-- Assumes nothing.
use Prim.Native.Nat.{ℕ, zero, suc, ◌+◌, ◌-◌, ◌*◌, ◌/◌, ◌%◌, ◌≤◌, ◌<◌}
use native.Mathlib.Omega.{arith}
use mathlib.Core.Path.{◌≡◌, refl, sym, ap, ◌∙◌}
use mathlib.Core.Bool.{Bool, true, false, ◌&&◌}
use mathlib.Core.List.{List, [], ◌∷◌}
use lib.Dec.{eqb}
use lib.ListN.{length, drop_of_length-le, length-drop}
use borrow.Author.Tests.{lt-ltb, le-ltb, ne_eqb}
use Rattle.paper.specs.Lists.{all}
use Rattle.paper.specs.Pack.Fields.{byte_width, bits_of}
use Rattle.paper.specs.Computed.ReadPack.{take_number, taken, gave, broke, is_padding}
use Rattle.paper.proofs.Apart.{broke_gave, short_taken}
use Rattle.std.specs.Prelude.{Err, Ok, Result}
use Rattle.std.specs.Result.{MatchResult}
use Rattle.paper.specs.declared.Refusal.{Refusal}
use Rattle.field.specs.declared.BitCursor.{BitCursor}
use Rattle.field.specs.Cursor.{rest, said, field_at}
use Rattle.field.proofs.Bridge.{unpack_size, field_there}
use Rattle.field.proofs.Promise.{field_took, field_on}
use Rattle.pack_field.specs.Parts.{max_place}

zero_step : (high b : ℕ) → eqb 0 (high * 2 + b) ≡ (eqb 0 high && eqb 0 b)
zero_step zero zero = refl
zero_step zero (suc b) = ne_eqb 0 (0 * 2 + suc b) (λ e. omega arith) ∙ sym (ne_eqb 0 (suc b) (λ e. omega arith))
zero_step (suc high) b = ne_eqb 0 (suc high * 2 + b) (λ e. omega arith) ∙ sym (ap (λ x. x && eqb 0 b) (ne_eqb 0 (suc high) (λ e. omega arith)))

and_assoc : (a b c : Bool) → ((a && b) && c) ≡ (a && (b && c))
and_assoc true b c = refl
and_assoc false b c = refl

and_true : (a : Bool) → (a && true) ≡ a
and_true true = refl
and_true false = refl

-- a number is 0 exactly where all its bits are
zero_bits : (w high : ℕ) (s : List ℕ) (v : ℕ) → take_number w high s ≡ taken v [] → eqb 0 v ≡ (eqb 0 high && all (eqb 0) s)
zero_bits zero high s v e =
    let a : high ≡ v = cc in
    let b : s ≡ [] = cc in
    ap (eqb 0) (sym a) ∙ sym (ap (λ l. eqb 0 high && all (eqb 0) l) b ∙ and_true (eqb 0 high))
zero_bits (suc w) high [] v e = short_taken e
zero_bits (suc w) high (b ∷ s) v e =
    zero_bits w (high * 2 + b) s v e ∙ ap (λ x. x && all (eqb 0) s) (zero_step high b) ∙ and_assoc (eqb 0 high) (eqb 0 b) (all (eqb 0) s)

eqb_sym : (n : ℕ) → eqb n 0 ≡ eqb 0 n
eqb_sym zero = refl
eqb_sym (suc n) = ne_eqb (suc n) 0 (λ e. omega arith) ∙ sym (ne_eqb 0 (suc n) (λ e. omega arith))

module _ (p : List ℕ) (at : ℕ) where
  rest_size : length (rest p at) ≡ length p * 8 - at
  unfolding rest
  rest_size = length-drop at (bits_of p) ∙ ap (λ n. n - at) (unpack_size p)

  pub nothing_left : length p ≤ at / 8 → true ≡ is_padding (rest p at)
  unfolding rest
  nothing_left h =
      let z = unpack_size p in
      let l : length (bits_of p) ≤ at = omega arith in
      sym (ap is_padding (drop_of_length-le (bits_of p) l))

  too_many : byte_width ≤ length (rest p at) → false ≡ is_padding (rest p at)
  too_many h = sym (ap (λ b. b && all (eqb 0) (rest p at)) (le-ltb (length (rest p at)) byte_width h))

  pub whole_byte : at % 8 ≡ 0 → at / 8 < length p → false ≡ is_padding (rest p at)
  whole_byte e h = let z = rest_size in too_many (omega arith)

  pub bytes_over : at / 8 + 1 < length p → false ≡ is_padding (rest p at)
  bytes_over h = let z = rest_size in too_many (omega arith)

  module _ (near : at ≤ max_place) (some : 0 < at % 8) (here : at / 8 < length p) (last : length p ≤ at / 8 + 1) where
    never_cut : {n q : ℕ} → broke n q ≡ field_at p at (8 - at % 8) → false ≡ is_padding (rest p at)
    never_cut e =
        broke_gave (e ∙ sym (field_there p at (8 - at % 8) _ (omega arith) (omega arith) (record { inside = omega arith; counted = omega arith }) refl))

    last_bits : {v to : ℕ} → gave v to (rest p to) ≡ field_at p at (8 - at % 8) → eqb v 0 ≡ is_padding (rest p at)
    unfolding rest
    last_bits {v} {to} e =
        let z = rest_size in
        let y = unpack_size p in
        let o = field_on p at (8 - at % 8) v to (rest p to) e in
        let few : length (rest p at) < byte_width = omega arith in
        let none : rest p to ≡ [] = (let l : length (bits_of p) ≤ to = omega arith in drop_of_length-le (bits_of p) l) in
        let took : take_number (8 - at % 8) 0 (rest p at) ≡ taken v [] = field_took p at (8 - at % 8) v to (rest p to) e ∙ ap (taken v) none in
        eqb_sym v ∙ zero_bits (8 - at % 8) 0 (rest p at) v took ∙ sym (ap (λ b. b && all (eqb 0) (rest p at)) (lt-ltb (length (rest p at)) byte_width few))

    -- the test in the code: a field that was read is 0
    pub last_or_cut : (b : Bool) (r : Result (ℕ × BitCursor) Refusal) → said p r ≡ field_at p at (8 - at % 8)
        → MatchResult r (λ x. b ≡ eqb x.0 0) (λ _. b ≡ false) → b ≡ is_padding (rest p at)
    last_or_cut b (Ok (v, c)) e h = h ∙ last_bits e
    last_or_cut b (Err r) e h = h ∙ never_cut e
