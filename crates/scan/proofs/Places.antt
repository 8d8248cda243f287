-- Where the words and the body of a line stand, and how a word counts among the words: what those who call `next_word` and `body_of` use.
-- Their promises leave nothing open.
-- Assumes nothing.
use Prim.Native.Nat.{ℕ, suc, ◌+◌, ◌≤◌, ◌<◌}
use mathlib.Core.Path.{◌≡◌, refl, sym, ap, ◌∙◌}
use mathlib.Core.Bool.{Bool}
use mathlib.Core.List.{List, [], ◌∷◌}
use lib.ListN.{length, take, drop}
use Rattle.paper.proofs.Lists.Parts.{nothing, uncons}
use Rattle.scan.specs.declared.Part.{Part}
use Rattle.scan.specs.Marks.{gap_width, words_bytes}
use Rattle.scan.specs.Answer.{word_run, solid, word_and, part, bytes_of, NextWord, Body, word_part, body_part}

-- the words of a part
abbrev pub words_in : Bool → List ℕ → ℕ → ℕ → List (List ℕ)
words_in white l start end = words_bytes (gap_width white) (drop start (take end l))

-- ---- the next word

module _ {l : List ℕ} {start end : ℕ} {white : Bool} {w : Part} (n : NextWord l start end white w) where
  pub no_word : w.end ≤ w.start → words_in white l start end ≡ []
  no_word h = n.words ∙ ap (λ s. word_and s (words_in white l w.end end)) (nothing l w.start w.end h)

  pub a_word : w.start < w.end → {ws : List (List ℕ)} → words_in white l w.end end ≡ ws → words_in white l start end ≡ bytes_of l w ∷ ws
  a_word h e =
      let u = uncons l w.start w.end h (n.inside h) in
      let ws = words_in white l w.end end in
      n.words ∙ ap (λ s. word_and s ws) u ∙ ap (λ s. s ∷ ws) (sym u) ∙ ap (λ vs. bytes_of l w ∷ vs) e

  pub count_none : w.end ≤ w.start → length (words_in white l start end) ≡ 0
  count_none h = ap length (no_word h)

  pub count_one : w.start < w.end → length (words_in white l start end) ≡ suc (length (words_in white l w.end end))
  count_one h = ap length (a_word h refl)

  pub word_place : w ≡ word_part white l start end
  word_place =
      let e = n.size ∙ ap (λ s. s + length (word_run white (drop s (take end l)))) n.place in
      λ i. part (n.place i) (e i)

-- ---- the body

module _ {l : List ℕ} {start end : ℕ} {b : Part} (n : Body l start end b) where
  pub body_place : b ≡ body_part l start end
  body_place =
      let e = n.size ∙ ap (λ s. s + length (solid (drop s (take end l)))) n.place in
      λ i. part (n.place i) (e i)

-- ---- one answer

pub one_word : {text : List ℕ} {start end : ℕ} {white : Bool} (v w : Part) → NextWord text start end white v → NextWord text start end white w → v ≡ w
one_word v w m n = word_place m ∙ sym (word_place n)

pub one_body : {text : List ℕ} {start end : ℕ} (v w : Part) → Body text start end v → Body text start end w → v ≡ w
one_body v w m n = body_place m ∙ sym (body_place n)
