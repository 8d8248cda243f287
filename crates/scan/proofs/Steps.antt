-- Words and bodies at places of a text, whose ends may lie past it.
-- Assumes nothing.
use Prim.Native.Nat.{ℕ, ◌+◌, ◌≤◌, ◌<◌}
use native.Mathlib.Omega.{arith}
use mathlib.Core.Path.{◌≡◌, sym, ap, ap₂, ◌∙◌}
use mathlib.Core.Bool.{Bool, true}
use mathlib.Core.List.{List, []}
use lib.ListN.{length, take, drop}
use lib.Seq.{take-take, length-take-le}
use Rattle.paper.proofs.Lists.Parts.{nothing, clamp}
use Rattle.numeral.specs.Asked.{Least}
use Rattle.scan.specs.Marks.{gap_width, words_bytes, body_bytes}
use Rattle.scan.specs.Answer.{gap_run, word_run, solid, word_and, NextWord, Body}
use Rattle.scan.proofs.Scan.{skip_end, word_stop_end}
use Rattle.scan.proofs.Runs.{from_le, to_le, word_law, body_law, body_within, words_none, body_none}

module _ (l : List ℕ) (end stop : ℕ) (m : Least end (length l) stop) where
  same : take stop l ≡ take end l
  same = clamp l end stop m.one m.other m.first

  long : length (take stop l) ≡ stop
  long = length-take-le stop l m.second

  module _ (start : ℕ) (white : Bool) (h : stop < start) where
    none : drop start (take end l) ≡ []
    none = ap (drop start) (sym same) ∙ nothing l start stop (omega arith)

    here : drop start (take start l) ≡ []
    here = nothing l start start (omega arith)

    zero_gap : length (gap_run white (drop start (take end l))) ≡ 0
    zero_gap = ap (λ t. length (gap_run white (drop start t))) (sym same) ∙ skip_end l start stop white (omega arith)

    zero_word : length (word_run white (drop start (take end l))) ≡ 0
    zero_word = ap (λ t. length (word_run white (drop start t))) (sym same) ∙ word_stop_end l start stop white (omega arith)

    within : start ≤ end → start ≤ end
    within k = k

    pub no_next : NextWord l start end white (record { start = start; end = start })
    no_next = record {
      from = omega arith;
      order = omega arith;
      within = within;
      inside = λ k. omega arith;
      place = omega (arith, zero_gap);
      size = omega (arith, zero_word);
      words = ap (words_bytes (gap_width white)) none ∙ words_none (gap_width white) ∙ ap (λ w. word_and w (words_bytes (gap_width white) (drop start (take end l)))) (sym here);
    }

    zero_solid : length (solid (drop start (take end l))) ≡ 0
    zero_solid = ap (λ t. length (solid t)) none ∙ ap length solid_none
      where
        solid_none : solid [] ≡ []
        solid_none = body_none.0

    pub no_body : white ≡ true → Body l start end (record { start = start; end = start })
    no_body w = record {
      from = omega arith;
      order = omega arith;
      within = within;
      inside = λ k. omega arith;
      place = omega (arith, ap (λ b. length (gap_run b (drop start (take end l)))) (sym w) ∙ zero_gap);
      size = omega (arith, zero_solid);
      bytes = here ∙ sym (ap body_bytes none ∙ body_none.1);
    }

  module _ (start from to : ℕ) (white : Bool) (h : start ≤ stop) (e : from ≡ start + length (gap_run white (drop start (take stop l)))) where
    pub from_in : from ≤ stop
    unfolding gap_run
    from_in = let k : start ≤ length (take stop l) = omega (arith, long) in omega (arith, long, from_le (gap_width white) (take stop l) start from to e k)

    pub next_is : to ≡ from + length (word_run white (drop from (take stop l))) → NextWord l start end white (record { start = from; end = to })
    unfolding gap_run word_run
    next_is d =
        let a : from ≤ stop = from_in in
        let k : from ≤ length (take stop l) = omega (arith, long) in
        let b : to ≤ stop = omega (arith, long, to_le (gap_width white) (take stop l) start from to e d k) in
        record {
          from = omega arith;
          order = omega arith;
          within = λ q. omega (arith, m.first);
          inside = λ q. omega (arith, m.second);
          place = e ∙ ap (λ t. start + length (gap_run white (drop start t))) same;
          size = d ∙ ap (λ t. from + length (word_run white (drop from t))) same;
          words =
              ap (λ t. words_bytes (gap_width white) (drop start t)) (sym same)
              ∙ word_law (gap_width white) (take stop l) start from to e d
              ∙ ap₂ (λ x y. word_and (drop from x) (words_bytes (gap_width white) (drop to y))) (take-take to stop l b) same;
        }

    pub body_is : white ≡ true → to ≡ from + length (solid (drop from (take stop l))) → Body l start end (record { start = from; end = to })
    body_is w d =
        let a : from ≤ stop = from_in in
        let k : from ≤ length (take stop l) = omega (arith, long) in
        let f : from ≡ start + length (gap_run true (drop start (take stop l))) = e ∙ ap (λ b. start + length (gap_run b (drop start (take stop l)))) w in
        let b : to ≤ stop = omega (arith, long, body_within (take stop l) start from to f d k) in
        record {
          from = omega arith;
          order = omega arith;
          within = λ q. omega (arith, m.first);
          inside = λ q. omega (arith, m.second);
          place = f ∙ ap (λ t. start + length (gap_run true (drop start t))) same;
          size = d ∙ ap (λ t. from + length (solid (drop from t))) same;
          bytes =
              ap (drop from) (sym (take-take to stop l b))
              ∙ body_law (take stop l) start from to f d
              ∙ ap (λ t. body_bytes (drop start t)) same;
        }
