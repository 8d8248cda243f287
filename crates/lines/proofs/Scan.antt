-- Where a line ends, and the lines that are left behind it: a text's lines from a place on are the bytes up to the next LF, and the lines from
-- behind it.
-- Assumes nothing.
use Prim.Native.Nat.{ℕ, suc, ◌+◌, ◌-◌, ◌≤◌, ◌<◌}
use native.Mathlib.Omega.{arith}
use mathlib.Core.Path.{◌≡◌, refl, sym, ap, ap₂, ◌∙◌}
use mathlib.Core.Bool.{Bool, true, false, cond}
use mathlib.Core.List.{List, [], ◌∷◌}
use lib.Dec.{ltb}
use lib.ListN.{length, take, drop, length-drop}
use lib.Seq.{drop-drop}
use borrow.Author.Tests.{le-leb, lt-leb, ltb-true, ltb-false}
use Rattle.paper.specs.Lists.{until, cut, push}
use Rattle.paper.specs.CharDef.Reading.{is_lf}
use Rattle.paper.proofs.Lists.Parts.{take_part}
use Rattle.std.specs.Prelude.{Option, Some, None}
use Rattle.std.specs.Option.{unwrap_or}
use Rattle.std.specs.List.{position_or_len}
use Rattle.std.proofs.lemmas.Slice.{between_to_end}
use Rattle.std.proofs.lemmas.List.Recursion.{is_position_or_len}
use Rattle.entry.proofs.Inside.{until_length}
use Rattle.lines.specs.Lines.{lines_from}

-- ---- the scan

-- how many stand before the first is its position
until_is : (p : ℕ → Bool) (l : List ℕ) → length (until p l) ≡ position_or_len p l
until_is p = is_position_or_len (λ (l : List ℕ). length (until p l)) p refl (λ x xs. go x xs (p x))
  where
    go : (x : ℕ) (xs : List ℕ) (b : Bool) → length (cond b [] (x ∷ until p xs)) ≡ cond b 0 (1 + length (until p xs))
    go x xs true = refl
    go x xs false = omega arith

pub found_or_end : (p : ℕ → Bool) (l : List ℕ) {r : Option ℕ} → r ≡ cond (ltb (position_or_len p l) (length l)) (Some (position_or_len p l)) None
    → unwrap_or r (length l) ≡ length (until p l)
found_or_end p l e = ap (λ o. unwrap_or o (length l)) e ∙ go (ltb (position_or_len p l) (length l)) refl
  where
    go : (b : Bool) → ltb (position_or_len p l) (length l) ≡ b → unwrap_or (cond b (Some (position_or_len p l)) None) (length l) ≡ length (until p l)
    go true e = sym (until_is p l)
    go false e = let h = ltb-false (position_or_len p l) (length l) e in omega (arith, until_is p l, until_length p l)

-- the line that begins at a place ends in the text
pub line_ends : (text : List ℕ) (at : ℕ) {n : ℕ} → n ≡ length (until is_lf (take (length text - at) (drop at text))) → at + n ≡ at + length (until is_lf (drop at text))
line_ends text at e = ap (λ k. at + k) (e ∙ ap (λ l. length (until is_lf l)) (between_to_end text at (length text) (omega arith)))

-- ---- the pieces of a cut

module _ {A : Type 0} (p : A → Bool) where
  -- the pieces behind the first
  abbrev rest : List A → List (List A)
  rest [] = []
  rest (x ∷ xs) = let r = rest xs in cond (p x) (cut p xs) r

  cut_first : (l : List A) → cut p l ≡ until p l ∷ rest l
  cut_first [] = refl
  cut_first (x ∷ xs) = go (p x) (cut_first xs)
    where
      go : (b : Bool) → cut p xs ≡ until p xs ∷ rest xs
          → cond b ([] ∷ cut p xs) (push x (cut p xs)) ≡ cond b [] (x ∷ until p xs) ∷ cond b (cut p xs) (rest xs)
      go true h = refl
      go false h = ap (push x) h

  rest_more : (l : List A) → length (until p l) < length l → rest l ≡ cut p (drop (suc (length (until p l))) l)
  rest_more [] h = absurd (omega arith)
  rest_more (x ∷ xs) h = go (p x) h (rest_more xs)
    where
      go : (b : Bool) → length (cond b [] (x ∷ until p xs)) < suc (length xs) → (length (until p xs) < length xs → rest xs ≡ cut p (drop (suc (length (until p xs))) xs))
          → cond b (cut p xs) (rest xs) ≡ cut p (drop (length (cond b [] (x ∷ until p xs))) xs)
      go true h ih = refl
      go false h ih = ih (omega arith)

  rest_none : (l : List A) → length l ≤ length (until p l) → rest l ≡ []
  rest_none [] h = refl
  rest_none (x ∷ xs) h = go (p x) h (rest_none xs)
    where
      go : (b : Bool) → suc (length xs) ≤ length (cond b [] (x ∷ until p xs)) → (length xs ≤ length (until p xs) → rest xs ≡ []) → cond b (cut p xs) (rest xs) ≡ []
      go true h ih = absurd (omega arith)
      go false h ih = ih (omega arith)

  until_take : (l : List A) → until p l ≡ take (length (until p l)) l
  until_take [] = refl
  until_take (x ∷ xs) = go (p x) (until_take xs)
    where
      go : (b : Bool) → until p xs ≡ take (length (until p xs)) xs → cond b [] (x ∷ until p xs) ≡ take (length (cond b [] (x ∷ until p xs))) (x ∷ xs)
      go true h = refl
      go false h = ap (λ l. x ∷ l) h

-- ---- the lines from a place on

pub lines_all : (text : List ℕ) → lines_from 0 text ≡ cut is_lf text
unfolding lines_from
lines_all text = rw (le-leb 0 (length text) (omega arith))

pub lines_none : (text : List ℕ) (at : ℕ) → length text < at → lines_from at text ≡ []
unfolding lines_from
lines_none text at h = rw (lt-leb at (length text) h)

lines_some : (text : List ℕ) (at : ℕ) → at ≤ length text → lines_from at text ≡ cut is_lf (drop at text)
unfolding lines_from
lines_some text at h = rw (le-leb at (length text) h)

-- an end lies in the text
pub end_inside : (text : List ℕ) (at end : ℕ) → at ≤ length text → end ≡ at + length (until is_lf (drop at text)) → end ≤ length text
end_inside text at end h e =
    let a : length (until is_lf (drop at text)) ≤ length (drop at text) = until_length is_lf (drop at text) in
    let b : length (drop at text) ≡ length text - at = length-drop at text in
    omega arith

pub lines_next : (text : List ℕ) (at end : ℕ) → at ≤ length text → end ≡ at + length (until is_lf (drop at text))
    → lines_from at text ≡ drop at (take end text) ∷ lines_from (end + 1) text
lines_next text at end h e =
    lines_some text at h ∙ cut_first is_lf (drop at text) ∙ ap₂ (λ l ls. l ∷ ls) line (go (ltb end (length text)) refl)
  where
    line : until is_lf (drop at text) ≡ drop at (take end text)
    line = until_take is_lf (drop at text) ∙ take_part at (length (until is_lf (drop at text))) text ∙ ap (λ k. drop at (take k text)) (sym e)

    go : (b : Bool) → ltb end (length text) ≡ b → rest is_lf (drop at text) ≡ lines_from (end + 1) text
    go true t =
        let l : end < length text = ltb-true end (length text) t in
        let d : length (drop at text) ≡ length text - at = length-drop at text in
        let k : at + suc (length (until is_lf (drop at text))) ≡ end + 1 = omega arith in
        rest_more is_lf (drop at text) (omega arith)
        ∙ ap (cut is_lf) (drop-drop (suc (length (until is_lf (drop at text)))) at text ∙ ap (λ n. drop n text) k)
        ∙ sym (lines_some text (end + 1) (omega arith))
    go false t =
        let l : length text ≤ end = ltb-false end (length text) t in
        let d : length (drop at text) ≡ length text - at = length-drop at text in
        rest_none is_lf (drop at text) (omega arith) ∙ sym (lines_none text (end + 1) (omega arith))
