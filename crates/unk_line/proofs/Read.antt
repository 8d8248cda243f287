-- A line's entry from its fields and numbers: what the answer says is what the paper reads. Assumes nothing.
use Prim.Native.Nat.{ℕ, ◌+◌, ◌%◌, ◌≤◌, ◌<◌}
use native.Mathlib.Omega.{arith}
use mathlib.Core.Path.{◌≡◌, refl, sym, ap, ap₂, ◌∙◌}
use mathlib.Core.Option.{Option, none, some}
use mathlib.Core.List.{List, [], ◌∷◌}
use lib.ListN.{length, take, drop, length-take}
use Rattle.paper.specs.Sizes.{max_u32, max_i32, low_i32, line_fields}
use Rattle.paper.specs.Refusals.{unk_fields, unk_number}
use Rattle.paper.specs.Lists.{cut, is, join_with}
use Rattle.paper.specs.Text.Scalar.{comma}
use Rattle.paper.specs.Numbers.Numeral.{Integer, decimal, modulus16, wrap16}
use Rattle.paper.specs.Unk.Entry.{nul}
use Rattle.paper.specs.Computed.Numeral.{numeral, signed_numeral}
use Rattle.paper.specs.Computed.ReadUnk.{UnkFound, entry, no_entry, from_unk_numbers, from_fields, unk_line_of}
use Rattle.paper.proofs.Apart.{zero_one}
use Rattle.numeral.specs.Asked.{Least}
use Rattle.numeral.specs.Said.{said_signed}
use Rattle.numeral.specs.declared.Signed.{Signed}
use Rattle.unk_line.specs.Line.{SaysLine, joined_fields}
use Rattle.unk_line.specs.Asked.{FourAre, FieldsAre, kept_cost}
use Rattle.unk_line.specs.declared.FourFields.{FourFields}
use Rattle.unk_line.proofs.Scan.{cut_at_end}
use Rattle.std.specs.Prelude.{Err, None, Ok, Some}

-- ---- under four

pub few_fields : (fs : List (List ℕ)) → length fs < line_fields → from_fields fs ≡ no_entry unk_fields
unfolding from_fields
few_fields [] h = refl
few_fields (a ∷ []) h = refl
few_fields (a ∷ b ∷ []) h = refl
few_fields (a ∷ b ∷ c ∷ []) h = refl
few_fields (a ∷ b ∷ c ∷ d ∷ fs) h = absurd (omega arith)

pub says_short : (text : List ℕ) (start end : ℕ) {stop : ℕ} → Least end (length text) stop → FieldsAre text start stop None
    → SaysLine text start end (unk_line_of (drop start (take end text))) (Err unk_fields)
unfolding unk_line_of
says_short text start end {stop} l h =
    ap (λ t. from_fields (cut (is comma) (drop start t))) (sym (cut_at_end text end l)) ∙ few_fields (cut (is comma) (drop start (take stop text))) h

-- ---- four and more

module _ (text : List ℕ) (start end stop : ℕ) (w : Least end (length text) stop) (f : FourFields) (h : FourAre text start stop f) where
  found : UnkFound
  found = unk_line_of (drop start (take end text))

  abbrev name_of : List ℕ
  name_of = drop start (take f.first text)

  reads : found
      ≡ from_unk_numbers name_of (numeral decimal max_u32 (drop (f.first + 1) (take f.second text))) (numeral decimal max_u32 (drop (f.second + 1) (take f.third text)))
      (signed_numeral decimal max_i32 low_i32 (drop (f.third + 1) (take f.fourth text))) h.behind
  unfolding unk_line_of from_fields found
  reads = ap (λ t. from_fields (cut (is comma) (drop start t))) (sym (cut_at_end text end w)) ∙ ap from_fields h.are

  joined_is : join_with nul h.behind ≡ joined_fields (drop f.more (take end text))
  joined_is = h.joined ∙ ap (λ t. joined_fields (drop f.more t)) (cut_at_end text end w)

  inside : stop ≤ length (take end text)
  inside = let a = w.first in let b = w.second in simp length-take (omega arith)

  by_numbers : {l r : Option ℕ} {i : Option Integer}
      → numeral decimal max_u32 (drop (f.first + 1) (take f.second text)) ≡ l
      → numeral decimal max_u32 (drop (f.second + 1) (take f.third text)) ≡ r
      → signed_numeral decimal max_i32 low_i32 (drop (f.third + 1) (take f.fourth text)) ≡ i
      → found ≡ from_unk_numbers name_of l r i h.behind
  by_numbers {l} {r} p q t =
      reads ∙ ap₂ (λ x y. from_unk_numbers name_of x y (signed_numeral decimal max_i32 low_i32 (drop (f.third + 1) (take f.fourth text))) h.behind) p q
      ∙ ap (λ z. from_unk_numbers name_of l r z h.behind) t

  pub says_no_left : numeral decimal max_u32 (drop (f.first + 1) (take f.second text)) ≡ none → SaysLine text start end (unk_line_of (drop start (take end text))) (Err unk_number)
  unfolding found
  says_no_left p = by_numbers p refl refl

  module _ {l : ℕ} (p : numeral decimal max_u32 (drop (f.first + 1) (take f.second text)) ≡ some l) where
    pub says_no_right : numeral decimal max_u32 (drop (f.second + 1) (take f.third text)) ≡ none → SaysLine text start end (unk_line_of (drop start (take end text))) (Err unk_number)
    unfolding found
    says_no_right q = by_numbers p q refl

    module _ {r : ℕ} (q : numeral decimal max_u32 (drop (f.second + 1) (take f.third text)) ≡ some r) where
      pub says_no_cost : signed_numeral decimal max_i32 low_i32 (drop (f.third + 1) (take f.fourth text)) ≡ none
          → SaysLine text start end (unk_line_of (drop start (take end text))) (Err unk_number)
      unfolding found
      says_no_cost t = by_numbers p q t

      pub says_four : (i : Signed) {n : ℕ} → signed_numeral decimal max_i32 low_i32 (drop (f.third + 1) (take f.fourth text)) ≡ said_signed (Some i)
          → some n ≡ kept_cost (said_signed (Some i))
          → SaysLine text start end (unk_line_of (drop start (take end text)))
          (Ok (record { surface = f.first; left = l % modulus16; right = r % modulus16; cost = n; details = f.more }))
      unfolding found
      says_four i {n} t k = go (said_signed (Some i)) t k
        where
          go : (x : Option Integer) → signed_numeral decimal max_i32 low_i32 (drop (f.third + 1) (take f.fourth text)) ≡ x → some n ≡ kept_cost x
              → SaysLine text start end found (Ok (record { surface = f.first; left = l % modulus16; right = r % modulus16; cost = n; details = f.more }))
          go none t k = zero_one (cc)
          go (some i) t k =
              let m : wrap16 i ≡ n = cc in
              let a = h.one in
              let b = h.two in
              let d = h.three in
              let g = h.four in
              let j = h.rest in
              record {
                is = by_numbers p q t ∙ ap₂ (λ (x : ℕ) (y : List ℕ). entry (record { category = name_of; left = l % modulus16; right = r % modulus16; cost = x; details = y })) m joined_is;
                from = h.from;
                surface_inside = omega (arith, inside);
                details_inside = omega (arith, inside);
              }
