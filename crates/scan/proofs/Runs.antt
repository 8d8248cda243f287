-- From the lengths of runs to words and bodies: what is left behind a run, and the bytes of a run.
-- Assumes nothing.
use Rattle.text.specs.Answers.{white_width}
use Rattle.scan.specs.Marks.{Mark, byte, in_gap, hash_mark, marks_from, marks, gap_width, words_bytes, body_bytes}
use Rattle.scan.proofs.Bridge.{marks_nil}
use Prim.Native.Nat.{ℕ, zero, suc, ◌+◌, ◌-◌, ◌≤◌, ◌<◌}
use native.Mathlib.Omega.{arith}
use mathlib.Core.Path.{◌≡◌, refl, sym, ap, ◌∙◌, subst}
use mathlib.Core.Bool.{Bool, true, false, not, cond, ◌&&◌}
use mathlib.Core.List.{List, [], ◌∷◌, ◌++◌, map}
use lib.Dec.{T, ltb}
use lib.ListN.{length, take, drop, length-map, length-take, length-drop, length-append}
use lib.Seq.{drop-drop, take-take, take-nil}
use borrow.Author.Tests.{lt-ltb}
use Rattle.paper.specs.Lists.{all, nothing_or, empty, until, trim_start, trim_end, words}
use Rattle.paper.proofs.Lists.Facts.{un, words_word, words_run}
use Rattle.paper.proofs.Lists.Parts.{take_part}
use Rattle.scan.specs.Answer.{gap_run, solid, word_and}

-- ---- runs are fronts

module _ {A : Type 0} (p : A → Bool) where
  until_take : (m : List A) → until p m ≡ take (length (until p m)) m
  until_take [] = refl
  until_take (x ∷ m) = go (p x) (until_take m)
    where
      go : (b : Bool) → until p m ≡ take (length (until p m)) m → cond b [] (x ∷ until p m) ≡ take (length (cond b [] (x ∷ until p m))) (x ∷ m)
      go true e = refl
      go false e = ap (λ l. x ∷ l) e

  trim_end_take : (m : List A) → trim_end p m ≡ take (length (trim_end p m)) m
  trim_end_take [] = refl
  trim_end_take (x ∷ m) = go (p x && empty (trim_end p m)) (trim_end_take m)
    where
      go : (b : Bool) → trim_end p m ≡ take (length (trim_end p m)) m → cond b [] (x ∷ trim_end p m) ≡ take (length (cond b [] (x ∷ trim_end p m))) (x ∷ m)
      go true e = refl
      go false e = ap (λ l. x ∷ l) e

  until_split : (m : List A) → m ≡ until p m ++ trim_start (un p) m
  until_split [] = refl
  until_split (x ∷ m) = go (p x) (until_split m)
    where
      go : (b : Bool) → m ≡ until p m ++ trim_start (un p) m → x ∷ m ≡ cond b [] (x ∷ until p m) ++ cond (not b) (trim_start (un p) m) (x ∷ m)
      go true e = refl
      go false e = ap (λ l. x ∷ l) e

  until_all : (m : List A) → T (all (un p) (until p m))
  until_all [] = tt
  until_all (x ∷ m) = go (p x) refl (until_all m)
    where
      go : (b : Bool) → p x ≡ b → T (all (un p) (until p m)) → T (all (un p) (cond b [] (x ∷ until p m)))
      go true e a = tt
      go false e a = rw e a

  trim_edge : (m : List A) → T (nothing_or p (trim_start (un p) m))
  trim_edge [] = tt
  trim_edge (x ∷ m) = go (p x) refl (trim_edge m)
    where
      go : (b : Bool) → p x ≡ b → T (nothing_or p (trim_start (un p) m)) → T (nothing_or p (cond (not b) (trim_start (un p) m) (x ∷ m)))
      go true e a = rw e tt
      go false e a = a

  words_trim : (m : List A) → words p m ≡ words p (trim_start p m)
  words_trim [] = refl
  words_trim (x ∷ m) = go (p x) refl (words_trim m)
    where
      go : (b : Bool) → p x ≡ b → words p m ≡ words p (trim_start p m) → words p (x ∷ m) ≡ words p (cond b (trim_start p m) (x ∷ m))
      go true e i = words_run p (x ∷ []) m (rw e tt) ∙ i
      go false e i = refl

  -- a list that begins with a word
  words_first : (m : List A) (y : A) (t : List A) → until p m ≡ y ∷ t → words p m ≡ (y ∷ t) ∷ words p (trim_start (un p) m)
  words_first m y t e =
      ap (words p) (until_split m ∙ ap (λ l. l ++ trim_start (un p) m) e)
      ∙ words_word p (y ∷ t) (trim_start (un p) m) (subst (λ l. T (all (un p) l)) e (until_all m)) (trim_edge m)

  -- after a gap there is a word, or nothing
  until_trim : (m : List A) → until p (trim_start p m) ≡ [] → trim_start p m ≡ []
  until_trim [] e = refl
  until_trim (x ∷ m) f = go (p x) refl (until_trim m) f
    where
      go : (b : Bool) → p x ≡ b → (until p (trim_start p m) ≡ [] → trim_start p m ≡ [])
          → until p (cond b (trim_start p m) (x ∷ m)) ≡ [] → cond b (trim_start p m) (x ∷ m) ≡ []
      go true e i f = i f
      go false e i f = absurd (clash (rw e at f))
        where
          clash : x ∷ until p m ≡ [] → ⊥
          clash q = let z : ◌≡◌ {A = ℕ} 0 1 = cc in omega arith

-- ---- marks

map_take : {A B : Type 0} (f : A → B) (n : ℕ) (l : List A) → map f (take n l) ≡ take n (map f l)
map_take f n [] = ap (map f) (take-nil n) ∙ sym (take-nil n)
map_take f zero (x ∷ l) = refl
map_take f (suc n) (x ∷ l) = ap (λ k. f x ∷ k) (map_take f n l)

module _ (g : List ℕ → ℕ) where
  from_bytes : (skip : ℕ) (s : List ℕ) → map byte (marks_from g skip s) ≡ s
  unfolding marks_from
  from_bytes skip [] = refl
  from_bytes zero (b ∷ s) = ap (λ k. b ∷ k) (from_bytes (g (b ∷ s) - 1) s)
  from_bytes (suc skip) (b ∷ s) = ap (λ k. b ∷ k) (from_bytes skip s)

  pub marks_bytes : (s : List ℕ) → map byte (marks g s) ≡ s
  unfolding marks
  marks_bytes s = from_bytes 0 s

  gap_head : (b : ℕ) (s : List ℕ) → 0 < g (b ∷ s) → marks_from g 0 (b ∷ s) ≡ (b, true) ∷ marks_from g (g (b ∷ s) - 1) s
  unfolding marks_from
  gap_head b s h = ap (λ x. (b, x) ∷ marks_from g (g (b ∷ s) - 1) s) (lt-ltb 0 (g (b ∷ s)) h)

  solid_head : (b : ℕ) (s : List ℕ) → g (b ∷ s) ≡ 0 → marks_from g 0 (b ∷ s) ≡ (b, false) ∷ marks_from g 0 s
  unfolding marks_from
  solid_head b s h = ap (λ n. (b, ltb 0 n) ∷ marks_from g (n - 1) s) h

  after_gap : (skip : ℕ) (s : List ℕ) → marks_from g 0 (drop (length (until (un in_gap) (marks_from g skip s))) s) ≡ trim_start in_gap (marks_from g skip s)
  unfolding marks_from
  after_gap skip [] = refl
  after_gap (suc skip) (b ∷ s) = after_gap skip s
  after_gap zero (b ∷ s) = go (g (b ∷ s)) refl (after_gap (g (b ∷ s) - 1) s)
    where
      go : (w : ℕ) → g (b ∷ s) ≡ w
          → marks_from g 0 (drop (length (until (un in_gap) (marks_from g (g (b ∷ s) - 1) s))) s) ≡ trim_start in_gap (marks_from g (g (b ∷ s) - 1) s)
          → marks_from g 0 (drop (length (until (un in_gap) (marks_from g 0 (b ∷ s)))) (b ∷ s)) ≡ trim_start in_gap (marks_from g 0 (b ∷ s))
      go zero e i =
          ap (λ m. marks_from g 0 (drop (length (until (un in_gap) m)) (b ∷ s))) (solid_head b s e) ∙ solid_head b s e ∙ ap (trim_start in_gap) (sym (solid_head b s e))
      go (suc n) e i =
          let h : 0 < g (b ∷ s) = omega arith in
          ap (λ m. marks_from g 0 (drop (length (until (un in_gap) m)) (b ∷ s))) (gap_head b s h) ∙ i ∙ ap (trim_start in_gap) (sym (gap_head b s h))

  pub rest_gap : (s : List ℕ) → marks g (drop (length (until (un in_gap) (marks g s))) s) ≡ trim_start in_gap (marks g s)
  unfolding marks
  rest_gap s = after_gap 0 s

  after_word : (s : List ℕ) → marks_from g 0 (drop (length (until in_gap (marks_from g 0 s))) s) ≡ trim_start (un in_gap) (marks_from g 0 s)
  unfolding marks_from
  after_word [] = refl
  after_word (b ∷ s) = go (g (b ∷ s)) refl (after_word s)
    where
      go : (w : ℕ) → g (b ∷ s) ≡ w
          → marks_from g 0 (drop (length (until in_gap (marks_from g 0 s))) s) ≡ trim_start (un in_gap) (marks_from g 0 s)
          → marks_from g 0 (drop (length (until in_gap (marks_from g 0 (b ∷ s)))) (b ∷ s)) ≡ trim_start (un in_gap) (marks_from g 0 (b ∷ s))
      go zero e i =
          ap (λ m. marks_from g 0 (drop (length (until in_gap m)) (b ∷ s))) (solid_head b s e) ∙ i ∙ ap (trim_start (un in_gap)) (sym (solid_head b s e))
      go (suc n) e i =
          let h : 0 < g (b ∷ s) = omega arith in
          ap (λ m. marks_from g 0 (drop (length (until in_gap m)) (b ∷ s))) (gap_head b s h) ∙ gap_head b s h ∙ ap (trim_start (un in_gap)) (sym (gap_head b s h))

  pub rest_word : (s : List ℕ) → marks g (drop (length (until in_gap (marks g s))) s) ≡ trim_start (un in_gap) (marks g s)
  unfolding marks
  rest_word s = after_word s

  -- the bytes of a word
  word_bytes : (s : List ℕ) → map byte (until in_gap (marks g s)) ≡ take (length (until in_gap (marks g s))) s
  word_bytes s =
      let n = length (until in_gap (marks g s)) in
      ap (map byte) (until_take in_gap (marks g s)) ∙ map_take byte n (marks g s) ∙ ap (take n) (marks_bytes s)

  marks_length : (s : List ℕ) → length (marks g s) ≡ length s
  marks_length s = sym (length-map (marks g s) byte) ∙ ap length (marks_bytes s)

-- ---- a word, and a body, at places of a list

until_le : {A : Type 0} (p : A → Bool) (m : List A) → length (until p m) ≤ length m
until_le p m = let e = ap length (until_split p m) ∙ length-append (until p m) (trim_start (un p) m) in omega arith

trim_end_le : {A : Type 0} (p : A → Bool) (m : List A) → length (trim_end p m) ≤ length m
trim_end_le p m = let e = ap length (trim_end_take p m) ∙ length-take (length (trim_end p m)) m in omega arith

module _ (g : List ℕ → ℕ) (L : List ℕ) (start from to : ℕ)
    (e : from ≡ start + length (until (un in_gap) (marks g (drop start L)))) where
  behind : marks g (drop from L) ≡ trim_start in_gap (marks g (drop start L))
  behind =
      ap (λ n. marks g (drop n L)) e
      ∙ ap (marks g) (sym (drop-drop (length (until (un in_gap) (marks g (drop start L)))) start L))
      ∙ rest_gap g (drop start L)

  pub from_le : start ≤ length L → from ≤ length L
  from_le h =
      let u = until_le (un in_gap) (marks g (drop start L)) in
      omega (arith, marks_length g (drop start L), length-drop start L)

  module _ (d : to ≡ from + length (until in_gap (marks g (drop from L)))) where
    pub to_le : from ≤ length L → to ≤ length L
    to_le h =
        let u = until_le in_gap (marks g (drop from L)) in
        omega (arith, marks_length g (drop from L), length-drop from L)

    word_part_lem : map byte (until in_gap (marks g (drop from L))) ≡ drop from (take to L)
    word_part_lem = word_bytes g (drop from L) ∙ take_part from (length (until in_gap (marks g (drop from L)))) L ∙ ap (λ n. drop from (take n L)) (sym d)

    beyond : marks g (drop to L) ≡ trim_start (un in_gap) (marks g (drop from L))
    beyond =
        ap (λ n. marks g (drop n L)) d
        ∙ ap (marks g) (sym (drop-drop (length (until in_gap (marks g (drop from L)))) from L))
        ∙ rest_word g (drop from L)

    pub word_law : words_bytes g (drop start L) ≡ word_and (drop from (take to L)) (words_bytes g (drop to L))
    unfolding words_bytes
    word_law =
        ap (map (map byte)) (words_trim in_gap (marks g (drop start L)) ∙ ap (words in_gap) (sym behind)) ∙ go (until in_gap (marks g (drop from L))) refl
      where
        go : (w : List Mark) → until in_gap (marks g (drop from L)) ≡ w
            → map (map byte) (words in_gap (marks g (drop from L))) ≡ word_and (drop from (take to L)) (words_bytes g (drop to L))
        go [] f =
            let n : marks g (drop from L) ≡ [] = behind ∙ until_trim in_gap (marks g (drop start L)) (ap (until in_gap) (sym behind) ∙ f) in
            ap (λ m. map (map byte) (words in_gap m)) n ∙ ap (λ w. word_and w (words_bytes g (drop to L))) (sym (ap (map byte) f) ∙ word_part_lem)
        go (y ∷ t) f =
            ap (map (map byte)) (words_first in_gap (marks g (drop from L)) y t f)
            ∙ ap (λ m. map byte (y ∷ t) ∷ map (map byte) (words in_gap m)) (sym beyond)
            ∙ ap (λ w. word_and w (words_bytes g (drop to L))) (sym (ap (map byte) f) ∙ word_part_lem)

module _ (L : List ℕ) (start from to : ℕ)
    (e : from ≡ start + length (gap_run true (drop start L)))
    (d : to ≡ from + length (solid (drop from L))) where
  solid_le : length (solid (drop from L)) ≤ length (drop from L)
  unfolding solid
  solid_le =
      let m = marks white_width (drop from L) in
      let a = trim_end_le in_gap (until hash_mark m) in
      let b = until_le hash_mark m in
      omega (arith, marks_length white_width (drop from L))

  solid_take : solid (drop from L) ≡ take (length (solid (drop from L))) (marks white_width (drop from L))
  unfolding solid
  solid_take =
      let m = marks white_width (drop from L) in
      let n = length (trim_end in_gap (until hash_mark m)) in
      trim_end_take in_gap (until hash_mark m) ∙ ap (take n) (until_take hash_mark m)
      ∙ take-take n (length (until hash_mark m)) m (trim_end_le in_gap (until hash_mark m))

  pub body_law : drop from (take to L) ≡ body_bytes (drop start L)
  unfolding body_bytes solid gap_run gap_width
  body_law =
      let n = length (solid (drop from L)) in
      ap (λ k. drop from (take k L)) d
      ∙ sym (take_part from n L)
      ∙ ap (take n) (sym (marks_bytes white_width (drop from L)))
      ∙ sym (map_take byte n (marks white_width (drop from L)))
      ∙ ap (map byte) (sym solid_take)
      ∙ ap (λ m. map byte (trim_end in_gap (until hash_mark m))) (behind white_width L start from to e)

  pub body_within : from ≤ length L → to ≤ length L
  body_within h = let a = solid_le in omega (arith, length-drop from L)

pub words_none : (g : List ℕ → ℕ) → words_bytes g [] ≡ []
unfolding words_bytes
words_none g = ap (λ m. map (map byte) (words in_gap m)) (marks_nil g)

pub body_none : (solid [] ≡ []) × (body_bytes [] ≡ [])
unfolding solid body_bytes
body_none =
    (ap (λ m. trim_end in_gap (until hash_mark m)) (marks_nil white_width), ap (λ m. map byte (trim_end in_gap (until hash_mark (trim_start in_gap m)))) (marks_nil white_width))
