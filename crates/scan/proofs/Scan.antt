-- The scans of a line: what a byte or a gap in front does to the runs, at places of a text.
-- Assumes nothing.
use Rattle.scan.proofs.Spread.{until_run, until_stop, trim_end_gone, trim_end_stay}
use Rattle.text.specs.Answers.{white_width}
use Rattle.scan.specs.Marks.{Mark, in_gap, hash_mark, marks, gap_width, gap_byte}
use Rattle.scan.proofs.Widths.{white_le, white_none, gap_le, gap_ascii, gap_high}
use Rattle.scan.proofs.Bridge.{tag, marks_gap, marks_solid, marks_nil}
use Prim.Native.Nat.{ℕ, zero, suc, ◌+◌, ◌-◌, ◌≤◌, ◌<◌}
use native.Mathlib.Omega.{arith}
use mathlib.Core.Path.{◌≡◌, refl, sym, ap, ap₂, ◌∙◌}
use mathlib.Core.Logic.{◌⊎◌}
use mathlib.Core.Bool.{Bool, true, false, not, cond, ◌&&◌}
use mathlib.Core.List.{List, [], ◌∷◌, ◌++◌}
use lib.Dec.{T, eqb}
use lib.ListN.{length, take, drop, get_or, length-append, take-append-drop}
use lib.Seq.{drop-drop, length-take-le}
use borrow.Author.Tests.{ne_eqb}
use Rattle.paper.specs.Text.Scalar.{is_white, hash}
use Rattle.paper.specs.Lists.{all, full, empty, until, trim_end}
use Rattle.paper.proofs.Lists.Facts.{un}
use Rattle.paper.proofs.Lists.Parts.{nothing, uncons, part_length}
use Rattle.scan.specs.Answer.{gap_run, word_run, solid}

-- ---- what stands in front of the marks

tag_length : (w : Bool) (s : List ℕ) → length (tag w s) ≡ length s
tag_length w [] = refl
tag_length w (b ∷ s) = ap suc (tag_length w s)

tag_gap : (s : List ℕ) → T (all in_gap (tag true s))
tag_gap [] = tt
tag_gap (b ∷ s) = tag_gap s

tag_un : (s : List ℕ) → T (all (un (un in_gap)) (tag true s))
tag_un [] = tt
tag_un (b ∷ s) = tag_un s

tag_hash : (s : List ℕ) → T (all (un hash_mark) (tag true s))
tag_hash [] = tt
tag_hash (b ∷ s) = go (eqb b hash) (tag_hash s)
  where
    go : (x : Bool) → T (all (un hash_mark) (tag true s)) → T (not (x && false) && all (un hash_mark) (tag true s))
    go true t = t
    go false t = t

module _ (g : List ℕ → ℕ) where
  pub gap_front : (s : List ℕ) → g s ≤ length s → 0 < g s → marks g s ≡ tag true (take (g s) s) ++ marks g (drop (g s) s)
  gap_front [] h k = absurd (let z : g [] ≤ 0 = h in omega arith)
  gap_front (b ∷ t) h k = go (g (b ∷ t)) refl h k
    where
      go : (w : ℕ) → g (b ∷ t) ≡ w → w ≤ length (b ∷ t) → 0 < w → marks g (b ∷ t) ≡ tag true (take w (b ∷ t)) ++ marks g (drop w (b ∷ t))
      go zero e h k = absurd (omega arith)
      go (suc n) e h k =
          let m : n ≤ length t = omega arith in
          let f : b ∷ (take n t ++ drop n t) ≡ b ∷ t = ap (λ l. b ∷ l) (take-append-drop n t) in
          ap (marks g) (sym f) ∙ marks_gap g b (take n t) (drop n t) (ap g f ∙ e ∙ ap suc (sym (length-take-le n t m)))

-- ---- the runs, by what is in front

module _ (white : Bool) (s : List ℕ) where
  gaps : 0 < gap_width white s → marks (gap_width white) s ≡ tag true (take (gap_width white s) s) ++ marks (gap_width white) (drop (gap_width white s) s)
  gaps h = gap_front (gap_width white) s (gap_le white s) h

  front_length : length (tag true (take (gap_width white s) s)) ≡ gap_width white s
  front_length = tag_length true (take (gap_width white s) s) ∙ length-take-le (gap_width white s) s (gap_le white s)

  gap_run_on : 0 < gap_width white s → length (gap_run white s) ≡ gap_width white s + length (gap_run white (drop (gap_width white s) s))
  unfolding gap_run
  gap_run_on h =
      let w = gap_width white s in
      ap (λ m. length (until (un in_gap) m)) (gaps h)
      ∙ ap length (until_run (un in_gap) (tag true (take w s)) (marks (gap_width white) (drop w s)) (tag_un (take w s)))
      ∙ length-append (tag true (take w s)) (until (un in_gap) (marks (gap_width white) (drop w s)))
      ∙ ap (λ n. n + length (until (un in_gap) (marks (gap_width white) (drop w s)))) front_length

  some_tag : 0 < gap_width white s → T (full in_gap (tag true (take (gap_width white s) s)))
  some_tag h = go (take (gap_width white s) s) (length-take-le (gap_width white s) s (gap_le white s))
    where
      go : (u : List ℕ) → length u ≡ gap_width white s → T (full in_gap (tag true u))
      go [] e = absurd (omega arith)
      go (b ∷ u) e = tag_gap u

  word_run_stop : 0 < gap_width white s → length (word_run white s) ≡ 0
  unfolding word_run
  word_run_stop h =
      let w = gap_width white s in
      ap (λ m. length (until in_gap m)) (gaps h) ∙ ap length (until_stop in_gap (tag true (take w s)) (marks (gap_width white) (drop w s)) (some_tag h))

module _ (white : Bool) (b : ℕ) (t : List ℕ) (h : gap_width white (b ∷ t) ≡ 0) where
  gap_run_stop : length (gap_run white (b ∷ t)) ≡ 0
  unfolding gap_run
  gap_run_stop = ap (λ m. length (until (un in_gap) m)) (marks_solid (gap_width white) b t h)

  word_run_on : length (word_run white (b ∷ t)) ≡ suc (length (word_run white t))
  unfolding word_run
  word_run_on = ap (λ m. length (until in_gap m)) (marks_solid (gap_width white) b t h)

gap_run_nil : (white : Bool) → length (gap_run white []) ≡ 0
unfolding gap_run
gap_run_nil white = ap (λ m. length (until (un in_gap) m)) (marks_nil (gap_width white))

word_run_nil : (white : Bool) → length (word_run white []) ≡ 0
unfolding word_run
word_run_nil white = ap (λ m. length (until in_gap m)) (marks_nil (gap_width white))

-- ---- the same at places of a text

module _ (l : List ℕ) (at end : ℕ) (white : Bool) where
  pub skip_end : end ≤ at → length (gap_run white (drop at (take end l))) ≡ 0
  skip_end h = ap (λ s. length (gap_run white s)) (nothing l at end h) ∙ gap_run_nil white

  pub word_stop_end : end ≤ at → length (word_run white (drop at (take end l))) ≡ 0
  word_stop_end h = ap (λ s. length (word_run white s)) (nothing l at end h) ∙ word_run_nil white

module _ (l : List ℕ) (at end : ℕ) (white : Bool) (w : ℕ) (e : w ≡ gap_width white (drop at (take end l))) (k : end ≤ length l) where
  pub skip_within : w ≤ end - at
  skip_within = let h = gap_le white (drop at (take end l)) in omega (arith, part_length l at end k)

  pub skip_on : 0 < w → length (gap_run white (drop at (take end l))) ≡ w + length (gap_run white (drop (at + w) (take end l)))
  skip_on h =
      let z : 0 < gap_width white (drop at (take end l)) = omega arith in
      gap_run_on white (drop at (take end l)) z
      ∙ ap (λ n. n + length (gap_run white (drop n (drop at (take end l))))) (sym e)
      ∙ ap (λ s. w + length (gap_run white s)) (drop-drop w at (take end l))

  pub skip_stop : at < end → w ≡ 0 → length (gap_run white (drop at (take end l))) ≡ 0
  skip_stop h z =
      let u = uncons l at end h k in
      let d = get_or l at 0 in
      let r = drop (at + 1) (take end l) in
      ap (λ s. length (gap_run white s)) u ∙ gap_run_stop white d r (ap (gap_width white) (sym u) ∙ sym e ∙ z)

  pub word_stop : 0 < w → length (word_run white (drop at (take end l))) ≡ 0
  word_stop h = let z : 0 < gap_width white (drop at (take end l)) = omega arith in word_run_stop white (drop at (take end l)) z

  pub word_on : at < end → w ≡ 0 → length (word_run white (drop at (take end l))) ≡ suc (length (word_run white (drop (at + 1) (take end l))))
  word_on h z =
      let u = uncons l at end h k in
      let d = get_or l at 0 in
      let r = drop (at + 1) (take end l) in
      ap (λ s. length (word_run white s)) u ∙ word_run_on white d r (ap (gap_width white) (sym u) ∙ sym e ∙ z)

-- ---- the end of the body

-- where what is kept ends: at the last place, or past what is kept still
unfoldable pub end_of : ℕ → ℕ → List Mark → ℕ
end_of last at t = cond (empty t) last (at + length t)

pub end_start : (at : ℕ) (t : List Mark) → at + length t ≡ end_of at at t
unfolding end_of
end_start at [] = omega arith
end_start at (x ∷ t) = refl

solid_nil : solid [] ≡ []
unfolding solid
solid_nil = ap (λ m. trim_end in_gap (until hash_mark m)) (marks_nil white_width)

solid_hash : (t : List ℕ) (b : ℕ) → b ≡ hash → white_width (b ∷ t) ≡ 0 → solid (b ∷ t) ≡ []
unfolding solid
solid_hash t b e z = ap (λ m. trim_end in_gap (until hash_mark m)) (marks_solid white_width b t z) ∙ rw e

solid_on : (t : List ℕ) (b : ℕ) → (b ≡ hash → ⊥) → white_width (b ∷ t) ≡ 0 → solid (b ∷ t) ≡ (b, false) ∷ solid t
unfolding solid
solid_on t b n z = ap (λ m. trim_end in_gap (until hash_mark m)) (marks_solid white_width b t z) ∙ rw (ne_eqb b hash n)

solid_gap : (s : List ℕ) → 0 < white_width s
    → solid s ≡ trim_end in_gap (tag true (take (white_width s) s) ++ until hash_mark (marks white_width (drop (white_width s) s)))
unfolding solid
solid_gap s h =
    let w = white_width s in
    ap (λ m. trim_end in_gap (until hash_mark m)) (gap_front white_width s (white_le s) h)
    ∙ ap (trim_end in_gap) (until_run hash_mark (tag true (take w s)) (marks white_width (drop w s)) (tag_hash (take w s)))

-- a gap in front of what is kept counts, one in front of nothing does not
gap_end : (last at w : ℕ) (u : List Mark) (r : List Mark) → length u ≡ w → T (all in_gap u)
    → end_of last at (trim_end in_gap (u ++ r)) ≡ end_of last (at + w) (trim_end in_gap r)
unfolding end_of
gap_end last at w u r e a = go (trim_end in_gap r) refl
  where
    go : (t : List Mark) → trim_end in_gap r ≡ t → end_of last at (trim_end in_gap (u ++ r)) ≡ end_of last (at + w) (trim_end in_gap r)
    go [] f = ap (end_of last at) (trim_end_gone in_gap u r a f) ∙ ap (end_of last (at + w)) (sym f)
    go (x ∷ t) f =
        ap (end_of last at) (trim_end_stay in_gap u r t x f) ∙ kept u e ∙ ap (end_of last (at + w)) (sym f)
      where
        kept : (u : List Mark) → length u ≡ w → end_of last at (u ++ (x ∷ t)) ≡ at + w + length (x ∷ t)
        kept [] e = omega arith
        kept (y ∷ u) e = let q = length-append u (x ∷ t) in omega arith

module _ (l : List ℕ) (at end last : ℕ) where
  pub solid_end : end ≤ at → end_of last at (solid (drop at (take end l))) ≡ last
  unfolding end_of
  solid_end h = ap (λ s. end_of last at (solid s)) (nothing l at end h) ∙ ap (end_of last at) solid_nil

  module _ (w : ℕ) (g : w ≡ gap_width true (drop at (take end l))) (k : end ≤ length l) where
    e : w ≡ white_width (drop at (take end l))
    unfolding gap_width
    e = g

    pub white_within : w ≤ end - at
    white_within = let f = e in let h = white_le (drop at (take end l)) in omega (arith, part_length l at end k)

    pub solid_skip : 0 < w → end_of last at (solid (drop at (take end l))) ≡ end_of last (at + w) (solid (drop (at + w) (take end l)))
    unfolding solid
    solid_skip h =
        let s = drop at (take end l) in
        let z : 0 < white_width s = omega (arith, e) in
        let m : length (tag true (take (white_width s) s)) ≡ w = tag_length true (take (white_width s) s) ∙ length-take-le (white_width s) s (white_le s) ∙ sym e in
        ap (end_of last at) (solid_gap s z)
        ∙ gap_end last at w (tag true (take (white_width s) s)) (until hash_mark (marks white_width (drop (white_width s) s))) m (tag_gap (take (white_width s) s))
        ∙ ap (λ n. end_of last (at + w) (solid (drop n s))) (sym e)
        ∙ ap (λ t. end_of last (at + w) (solid t)) (drop-drop w at (take end l))

    module _ (h : at < end) (z : w ≡ 0) where
      zero_here : white_width (get_or l at 0 ∷ drop (at + 1) (take end l)) ≡ 0
      zero_here = ap white_width (sym (uncons l at end h k)) ∙ sym e ∙ z

      pub solid_stop : get_or l at 0 ≡ hash → end_of last at (solid (drop at (take end l))) ≡ last
      unfolding end_of
      solid_stop q =
          ap (λ s. end_of last at (solid s)) (uncons l at end h k)
          ∙ ap (end_of last at) (solid_hash (drop (at + 1) (take end l)) (get_or l at 0) q zero_here)

      pub solid_step : (get_or l at 0 ≡ hash → ⊥) → end_of last at (solid (drop at (take end l))) ≡ end_of (at + 1) (at + 1) (solid (drop (at + 1) (take end l)))
      unfolding end_of
      solid_step q =
          let t = solid (drop (at + 1) (take end l)) in
          let m : at + suc (length t) ≡ at + 1 + length t = omega arith in
          ap (λ s. end_of last at (solid s)) (uncons l at end h k)
          ∙ ap (end_of last at) (solid_on (drop (at + 1) (take end l)) (get_or l at 0) q zero_here) ∙ m ∙ end_start (at + 1) t

-- ---- the width of a gap at a place

module _ (l : List ℕ) (at end : ℕ) (white : Bool) where
  module _ (h : at < end) (k : end ≤ length l) where
    pub width_ascii : get_or l at 0 < 0x80 → {x y : Bool} → x ≡ gap_byte white (get_or l at 0) → x ≡ y → cond y 1 0 ≡ gap_width white (drop at (take end l))
    width_ascii m {x} {y} e f =
        let q : get_or l at 0 ≤ 0x7F = omega arith in
        ap (λ b. cond b 1 0) (sym f ∙ e) ∙ sym (gap_ascii white (get_or l at 0) (drop (at + 1) (take end l)) q)
        ∙ ap (gap_width white) (sym (uncons l at end h k))

    pub width_other : 0x80 ≤ get_or l at 0 → (get_or l at 0 ≡ 0xC2 → ⊥) → (get_or l at 0 < 0xE1) ⊎ (0xE3 < get_or l at 0) → white ≡ true
        → 0 ≡ gap_width white (drop at (take end l))
    unfolding gap_width
    width_other m f g e = sym (ap₂ gap_width e (uncons l at end h k) ∙ white_none (get_or l at 0) (drop (at + 1) (take end l)) m f g)

    pub width_none : 0x80 ≤ get_or l at 0 → white ≡ false → 0 ≡ gap_width white (drop at (take end l))
    width_none m e =
        sym
        (ap₂ gap_width e (uncons l at end h k) ∙ gap_high (get_or l at 0) (drop (at + 1) (take end l)) m)

  pub width_white : white ≡ true → {w : ℕ} → w ≡ white_width (drop at (take end l)) → w ≡ gap_width white (drop at (take end l))
  unfolding gap_width
  width_white e f = f ∙ ap (λ b. gap_width b (drop at (take end l))) (sym e)

pub width_hash : (l : List ℕ) (at end : ℕ) → at < end → end ≤ length l → get_or l at 0 ≡ hash → 0 ≡ gap_width true (drop at (take end l))
unfolding is_white
width_hash l at end h k e =
    let q : get_or l at 0 ≤ 0x7F = omega arith in
    sym
    (ap (gap_width true) (uncons l at end h k) ∙ gap_ascii true (get_or l at 0) (drop (at + 1) (take end l)) q ∙ ap (λ b. cond (is_white b) 1 0) e)
