-- The places of a line's answer lie in the text, and a step on bytes is the paper's step on characters.
-- Assumes nothing.
use Prim.Native.Nat.{ℕ, zero, suc, ◌+◌, ◌-◌, ◌≤◌}
use native.Mathlib.Omega.{arith}
use mathlib.Core.Path.{◌≡◌, refl, sym, ap, ◌∙◌, subst}
use mathlib.Core.Bool.{Bool, true, false, not, cond, ◌&&◌}
use mathlib.Core.List.{List, [], ◌∷◌, map}
use lib.ListN.{length, take, drop, length-map}
use lib.Dec.{leb, ltb}
use Rattle.paper.proofs.Lists.Parts.{part_length}
use Rattle.paper.specs.Lists.{empty, until, trim_end}
use Rattle.paper.specs.Sizes.{max_ranges, max_references}
use Rattle.paper.specs.Refusals.{ranges_full, references_full}
use Rattle.paper.specs.Text.Scalar.{utf8}
use Rattle.paper.specs.CharDef.Line.{blank, category, range}
use Rattle.paper.specs.CharDef.Reading.{Reading, references}
use Rattle.paper.specs.Computed.ReadText.{Found, found, wrong, Step, stop, go_on, enter, enter_found, line_of, verdict, intern, add_range}
use Rattle.text.specs.Answers.{white_width}
use Rattle.scan.specs.declared.Part.{Part}
use Rattle.scan.specs.Marks.{marks, marks_from, gap_width, in_gap, hash_mark}
use Rattle.scan.specs.Answer.{gap_run, word_run, solid, word_part, body_part}
use Rattle.scan.specs.Asked.{Inside}
use Rattle.line.specs.Bytes.{line_bytes, in_bytes}
use Rattle.line.proofs.LineBridge.{line_bridge}
use Rattle.category_line.specs.Answer.{Says}
use Rattle.category_line.specs.declared.CategoryLine.{CategoryLine}
use Rattle.category_line.specs.declared.RangeLine.{RangeLine}
use Rattle.category_line.specs.declared.Line.TheVariants.{Blank, Category, Range}
use Rattle.paper.specs.declared.Counts.{Counts}
use Rattle.entry.specs.Steps.{words_of, enter_bytes, enter_found_bytes, Memory, Stepped}
use Rattle.std.specs.Prelude.{Err, Ok, Result}
use Rattle.category_line.specs.declared.Line.{Line}

module _ {A : Type 0} (p : A → Bool) where
  pub until_length : (l : List A) → length (until p l) ≤ length l
  until_length [] = omega arith
  until_length (x ∷ l) = go (p x) (until_length l)
    where
      go : (b : Bool) → length (until p l) ≤ length l → length (cond b [] (x ∷ until p l)) ≤ suc (length l)
      go true h = omega arith
      go false h = omega arith

  trim_length : (l : List A) → length (trim_end p l) ≤ length l
  trim_length [] = omega arith
  trim_length (x ∷ l) = go (p x && empty (trim_end p l)) (trim_length l)
    where
      go : (b : Bool) → length (trim_end p l) ≤ length l → length (cond b [] (x ∷ trim_end p l)) ≤ suc (length l)
      go true h = omega arith
      go false h = omega arith

marks_from_length : (g : List ℕ → ℕ) (skip : ℕ) (s : List ℕ) → length (marks_from g skip s) ≡ length s
unfolding marks_from
marks_from_length g skip [] = refl
marks_from_length g zero (b ∷ s) = ap suc (marks_from_length g (g (b ∷ s) - 1) s)
marks_from_length g (suc skip) (b ∷ s) = ap suc (marks_from_length g skip s)

marks_length : (g : List ℕ → ℕ) (s : List ℕ) → length (marks g s) ≡ length s
unfolding marks
marks_length g s = marks_from_length g 0 s

gap_length : (white : Bool) (s : List ℕ) → length (gap_run white s) ≤ length s
unfolding gap_run
gap_length white s = let a = until_length (λ m. not (in_gap m)) (marks (gap_width white) s) in let b = marks_length (gap_width white) s in omega arith

word_length : (white : Bool) (s : List ℕ) → length (word_run white s) ≤ length s
unfolding word_run
word_length white s = let a = until_length in_gap (marks (gap_width white) s) in let b = marks_length (gap_width white) s in omega arith

solid_length : (s : List ℕ) → length (solid s) ≤ length s
unfolding solid
solid_length s =
    let a = trim_length in_gap (until hash_mark (marks white_width s)) in
    let b = until_length hash_mark (marks white_width s) in
    let c = marks_length white_width s in
    omega arith

pub body_inside : (text : List ℕ) (start end : ℕ) → Inside text start end → Inside text (body_part text start end).start (body_part text start end).end
body_inside text start end z =
    let o = z.order in
    let w = z.within in
    let a = part_length text start end w in
    let b = gap_length true (drop start (take end text)) in
    let from : ℕ = start + length (gap_run true (drop start (take end text))) in
    let c = part_length text (start + length (gap_run true (drop start (take end text)))) end w in
    let d = solid_length (drop (start + length (gap_run true (drop start (take end text)))) (take end text)) in
    record { order = omega arith; within = omega arith }

pub record WordIn (text : List ℕ) (start end : ℕ) (p : Part) : Type 0 where
  pub order : p.start ≤ p.end
  pub upto : p.end ≤ end
  pub within : end ≤ length text

pub word_inside : (white : Bool) (text : List ℕ) (start end : ℕ) → Inside text start end → WordIn text start end (word_part white text start end)
word_inside white text start end z =
    let o = z.order in
    let w = z.within in
    let a = part_length text start end w in
    let b = gap_length white (drop start (take end text)) in
    let c = part_length text (start + length (gap_run white (drop start (take end text)))) end w in
    let d = word_length white (drop (start + length (gap_run white (drop start (take end text)))) (take end text)) in
    record { order = omega arith; upto = omega arith; within = w }

pub name_inside : (text : List ℕ) (start end : ℕ) (p : Part) → Inside text start end
    → p ≡ word_part false text (body_part text start end).start (body_part text start end).end → Inside text p.start p.end
name_inside text start end p z e =
    let b = word_inside false text _ _ (body_inside text start end z) in
    subst (λ (q : Part). Inside text q.start q.end) (sym e) (record { order = b.order; within = let u = b.upto in let w = b.within in omega arith })

pub names_inside : (text : List ℕ) (start end : ℕ) (p : Part) → Inside text start end
    → p ≡ record { start = (word_part true text (body_part text start end).start (body_part text start end).end).end; end = (body_part text start end).end } → Inside text p.start p.end
names_inside text start end p z e =
    let b = word_inside true text _ _ (body_inside text start end z) in
    subst (λ (q : Part). Inside text q.start q.end) (sym e) (record { order = b.upto; within = b.within })

-- ---- the step on bytes is the paper's on characters

found_bytes : (r : Reading) (f : Found) → enter_found_bytes r (in_bytes f) ≡ enter_found r f
unfolding enter_bytes enter
found_bytes r (wrong n) = refl
found_bytes r (found blank) = refl
found_bytes r (found (category name invoke group len)) = refl
found_bytes r (found (range lower upper names)) =
    ap (λ k. cond (leb max_ranges (length r.ranges)) (stop ranges_full)
    (cond (ltb max_references (references r.ranges + k)) (stop references_full) (add_range (intern (map utf8 names) r.names) r lower upper (map utf8 names))))
    (length-map names utf8)

pub verdict_bytes : (r : Reading) (cs : List ℕ) → enter_found_bytes r (line_bytes (utf8 cs)) ≡ verdict r cs
unfolding verdict
verdict_bytes r cs = ap (enter_found_bytes r) (line_bridge cs) ∙ found_bytes r (line_of cs)

-- ---- what the answer's cases do

pub says_as : {text : List ℕ} {b : Part} {f : Found} {r : Result Line ℕ} (s : Result Line ℕ) → r ≡ s → Says text b f r → Says text b f s
says_as {text} {b} {f} s e h = subst (λ (x : Result Line ℕ). Says text b f x) e h

pub does_refuse : {text : List ℕ} {b : Part} {f : Found} (k : ℕ) → Says text b f (Err k) → (r : Reading) → enter_found_bytes r f ≡ stop k
does_refuse k h r = ap (enter_found_bytes r) (sym h.says)

pub does_nothing : {text : List ℕ} {b : Part} {f : Found} → Says text b f (Ok Blank) → (r : Reading) → enter_found_bytes r f ≡ go_on r
unfolding enter_bytes
does_nothing h r = ap (enter_found_bytes r) (sym h.says)

stepped_as : (f g : Reading → Step) → ((x : Reading) → f x ≡ g x) → (m : Memory) (c : Counts) (m' : Memory) (s : Result Counts ℕ) → Stepped f m c m' s → Stepped g m c m' s
stepped_as f g e m c m' (Ok d) h = λ r z. let w = h r z in record { after = w.after; goes = sym (e r) ∙ w.goes; held = w.held }
stepped_as f g e m c m' (Err k) h = λ r z. sym (e r) ∙ h r z

pub does_category : (text : List ℕ) (b : Part) (f : Found) (l : CategoryLine) → Says text b f (Ok (Category l))
    → (m : Memory) (c : Counts) (m' : Memory) (s : Result Counts ℕ)
    → Stepped (λ x. enter_bytes x (category (drop l.name.start (take l.name.end text)) l.invoke l.group l.length)) m c m' s
    → Stepped (λ x. enter_found_bytes x f) m c m' s
does_category text b f l h m c m' s =
    stepped_as (λ x. enter_bytes x (category (drop l.name.start (take l.name.end text)) l.invoke l.group l.length)) (λ x. enter_found_bytes x f)
    (λ x. ap (enter_found_bytes x) h.says) m c m' s

pub does_range : (text : List ℕ) (b : Part) (f : Found) (l : RangeLine) → Says text b f (Ok (Range l))
    → (m : Memory) (c : Counts) (m' : Memory) (s : Result Counts ℕ)
    → Stepped (λ x. enter_bytes x (range l.lower l.upper (words_of (drop l.names.start (take l.names.end text))))) m c m' s
    → Stepped (λ x. enter_found_bytes x f) m c m' s
unfolding words_of
does_range text b f l h m c m' s =
    stepped_as (λ x. enter_bytes x (range l.lower l.upper (words_of (drop l.names.start (take l.names.end text))))) (λ x. enter_found_bytes x f)
    (λ x. ap (enter_found_bytes x) h.says) m c m' s
