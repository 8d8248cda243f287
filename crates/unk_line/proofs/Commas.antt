-- The fields of a line by the places of its commas. What a cut leaves behind its first piece is the cut of what stands behind the separator.
-- Assumes nothing.
use Prim.Native.Nat.{ℕ, suc, ◌+◌, ◌-◌, ◌≤◌, ◌<◌}
use native.Mathlib.Omega.{arith}
use native.Mathlib.Decide.{dec_le}
use mathlib.Core.Path.{◌≡◌, refl, sym, ap, ap₂, ◌∙◌}
use mathlib.Core.Bool.{Bool, true, false, cond}
use mathlib.Core.List.{List, [], ◌∷◌}
use lib.ListN.{length, take, drop}
use lib.Seq.{drop-drop, take-take}
use Rattle.paper.specs.Sizes.{line_fields}
use Rattle.paper.specs.Lists.{until, is, cut, push, join_with}
use Rattle.paper.specs.Text.Scalar.{comma}
use Rattle.paper.specs.Unk.Entry.{nul}
use Rattle.paper.proofs.Lists.Parts.{nothing, part_length, take_part}
use Rattle.numeral.specs.Asked.{Least}
use Rattle.unk_line.specs.Line.{joined_fields}
use Rattle.unk_line.specs.Asked.{comma_at, FourAre}

-- ---- cuts

module _ {A : Type 0} (p : A → Bool) where
  pub cut_at : (l : List A) → length (until p l) < length l → cut p l ≡ take (length (until p l)) l ∷ cut p (drop (suc (length (until p l))) l)
  cut_at [] h = absurd (omega arith)
  cut_at (x ∷ l) h = go (p x) h (cut_at l)
    where
      go : (b : Bool) → length (cond b [] (x ∷ until p l)) < suc (length l)
          → (length (until p l) < length l → cut p l ≡ take (length (until p l)) l ∷ cut p (drop (suc (length (until p l))) l))
          → cond b ([] ∷ cut p l) (push x (cut p l))
          ≡ take (length (cond b [] (x ∷ until p l))) (x ∷ l) ∷ cut p (drop (length (cond b [] (x ∷ until p l))) l)
      go true h ih = refl
      go false h ih = ap (push x) (ih (omega arith))

  pub cut_none : (l : List A) → length l ≤ length (until p l) → cut p l ≡ l ∷ []
  cut_none [] h = refl
  cut_none (x ∷ l) h = go (p x) h (cut_none l)
    where
      go : (b : Bool) → suc (length l) ≤ length (cond b [] (x ∷ until p l)) → (length l ≤ length (until p l) → cut p l ≡ l ∷ [])
          → cond b ([] ∷ cut p l) (push x (cut p l)) ≡ (x ∷ l) ∷ []
      go true h ih = absurd (omega arith)
      go false h ih = ap (push x) (ih (omega arith))

  pub until_length : (l : List A) → length (until p l) ≤ length l
  until_length [] = omega arith
  until_length (x ∷ l) = go (p x) (until_length l)
    where
      go : (b : Bool) → length (until p l) ≤ length l → length (cond b [] (x ∷ until p l)) ≤ suc (length l)
      go true h = omega arith
      go false h = omega arith

-- ---- by places

module _ (byte : ℕ) (text : List ℕ) (start end at : ℕ) (within : end ≤ length text) (e : at ≡ start + length (until (is byte) (drop start (take end text)))) where
  pub piece_from : start ≤ at
  piece_from = omega arith

  -- the scan ends in the part
  pub piece_upto : start ≤ end → at ≤ end
  piece_upto h =
      let a = until_length (is byte) (drop start (take end text)) in
      let b = part_length text start end within in
      omega arith

  pub piece_first : at < end → cut (is byte) (drop start (take end text)) ≡ drop start (take at text) ∷ cut (is byte) (drop (at + 1) (take end text))
  piece_first h =
      let n = length (until (is byte) (drop start (take end text))) in
      let b = part_length text start end within in
      let k : start + suc (length (until (is byte) (drop start (take end text)))) ≡ at + 1 = omega arith in
      cut_at (is byte) (drop start (take end text)) (omega arith)
      ∙ ap₂ (λ (x y : List ℕ). x ∷ cut (is byte) y)
      (take_part start (length (until (is byte) (drop start (take end text)))) (take end text) ∙ ap (λ m. drop start (take m (take end text))) (sym e)
      ∙ ap (drop start) (take-take at end text (omega arith)))
      (drop-drop (suc (length (until (is byte) (drop start (take end text))))) start (take end text) ∙ ap (λ m. drop m (take end text)) k)

  pub piece_last : end ≤ at → cut (is byte) (drop start (take end text)) ≡ drop start (take end text) ∷ []
  piece_last h =
      let b = part_length text start end within in
      cut_none (is byte) (drop start (take end text)) (omega arith)

-- ---- four of them

module _ (text : List ℕ) (start end first : ℕ) (within : end ≤ length text) (e₁ : first ≡ comma_at text start end) where
  pub one_field : end ≤ first → length (cut (is comma) (drop start (take end text))) < line_fields
  one_field h = let a = ap length (piece_last comma text start end first within e₁ h) in omega arith

  module _ (h₁ : first < end) (second : ℕ) (e₂ : second ≡ comma_at text (first + 1) end) where
    pub two_fields : end ≤ second → length (cut (is comma) (drop start (take end text))) < line_fields
    two_fields h =
        let a = ap length (piece_first comma text start end first within e₁ h₁) in
        let b = ap length (piece_last comma text (first + 1) end second within e₂ h) in
        omega arith

    module _ (h₂ : second < end) (third : ℕ) (e₃ : third ≡ comma_at text (second + 1) end) where
      pub three_fields : end ≤ third → length (cut (is comma) (drop start (take end text))) < line_fields
      three_fields h =
          let a = ap length (piece_first comma text start end first within e₁ h₁) in
          let b = ap length (piece_first comma text (first + 1) end second within e₂ h₂) in
          let d = ap length (piece_last comma text (second + 1) end third within e₃ h) in
          omega arith

      module _ (h₃ : third < end) (fourth : ℕ) (e₄ : fourth ≡ comma_at text (third + 1) end) where
        front : (rest : List (List ℕ)) → cut (is comma) (drop (third + 1) (take end text)) ≡ drop (third + 1) (take fourth text) ∷ rest
            → cut (is comma) (drop start (take end text))
            ≡ drop start (take first text) ∷ drop (first + 1) (take second text) ∷ drop (second + 1) (take third text) ∷ drop (third + 1) (take fourth text) ∷ rest
        front rest e =
            piece_first comma text start end first within e₁ h₁
            ∙ ap (λ (l : List (List ℕ)). drop start (take first text) ∷ l) (piece_first comma text (first + 1) end second within e₂ h₂
            ∙ ap (λ (l : List (List ℕ)). drop (first + 1) (take second text) ∷ l) (piece_first comma text (second + 1) end third within e₃ h₃
            ∙ ap (λ (l : List (List ℕ)). drop (second + 1) (take third text) ∷ l) e))

        pub four_fields : (k : ℕ) → Least fourth (end - 1) k
            → FourAre text start end (record { first = first; second = second; third = third; fourth = fourth; more = k + 1 })
        four_fields k l = elim (dec_le end fourth) [
          | yes h ↦ none_behind h
          | no h ↦ some_behind (omega arith)
        ]
          where
            from_four : (behind : List (List ℕ)) → cut (is comma) (drop (third + 1) (take end text)) ≡ drop (third + 1) (take fourth text) ∷ behind
                → join_with nul behind ≡ joined_fields (drop (k + 1) (take end text)) → FourAre text start end (record { first = first; second = second; third = third; fourth = fourth; more = k + 1 })
            from_four behind c j =
                let a = piece_upto comma text (third + 1) end fourth within e₄ (omega arith) in
                let b = l.second in
                record {
                  behind = behind;
                  are = front behind c;
                  joined = j;
                  from = omega arith;
                  one = omega arith;
                  two = omega arith;
                  three = omega arith;
                  four = a;
                  rest = omega arith;
                }

            none_behind : end ≤ fourth → FourAre text start end (record { first = first; second = second; third = third; fourth = fourth; more = k + 1 })
            none_behind h =
                let a = piece_upto comma text (third + 1) end fourth within e₄ (omega arith) in
                let q : end ≡ fourth = omega arith in
                let m : k ≡ end - 1 = l.one (omega arith) in
                let n : end ≤ k + 1 = omega arith in
                from_four []
                (piece_last comma text (third + 1) end fourth within e₄ h ∙ ap (λ j. drop (third + 1) (take j text) ∷ []) q)
                (sym (ap joined_fields (nothing text (k + 1) end n)))

            some_behind : fourth < end → FourAre text start end (record { first = first; second = second; third = third; fourth = fourth; more = k + 1 })
            some_behind h =
                let m : k ≡ fourth = l.other (omega arith) in
                from_four (cut (is comma) (drop (fourth + 1) (take end text)))
                (piece_first comma text (third + 1) end fourth within e₄ h)
                (ap (λ j. joined_fields (drop (j + 1) (take end text))) (sym m))
