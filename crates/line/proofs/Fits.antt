-- What `read_line` promises is that its answer fits the line's characters by the paper's relations: it answers a line exactly where a line
-- fits them, with the names at their places, and a number exactly where they are no line for that reason. And the promises leave nothing
-- open: two answers that one allows coincide.
-- Assumes nothing.
use Prim.Native.Nat.{ℕ}
use mathlib.Core.Path.{◌≡◌, refl, sym, ap, ◌∙◌, subst}
use mathlib.Core.Logic.{◌↔◌}
use mathlib.Core.Bool.{true}
use mathlib.Core.List.{List, map}
use lib.ListN.{take, drop}
use Rattle.paper.specs.Text.Scalar.{utf8}
use Rattle.paper.specs.CharDef.Line.{LineFits, blank, category, range}
use Rattle.paper.specs.CharDef.Line as paper
use Rattle.paper.specs.CharDef.BadLine.{Misfit}
use Rattle.paper.specs.Computed.ReadText.{Found, found, wrong, line_of}
use Rattle.paper.proofs.Apart.{zero_one}
use Rattle.paper.proofs.CharDef.Sound.{line_sound}
use Rattle.paper.proofs.CharDef.Complete.{line_complete}
use Rattle.paper.proofs.CharDef.BadLine.{line_misfit}
use Rattle.scan.specs.declared.Part.{Part}
use Rattle.category_line.specs.declared.Line.{Line}
use Rattle.category_line.specs.declared.Line.TheVariants.{Blank, Category, Range}
use Rattle.scan.specs.Marks.{gap_width, words_bytes}
use Rattle.scan.specs.Answer.{bytes_of, body_part}
use Rattle.category_line.specs.Answer.{said, Placed, Says}
use Rattle.line.specs.Bytes.{line_bytes, in_bytes}
use Rattle.line.specs.Fits.{Reads, StandsFor, a_blank, a_category, a_range, AnswerFits, reads, refuses}
use Rattle.line.proofs.LineBridge.{line_bridge}
use Rattle.std.specs.Prelude.{Err, Ok, Result}

-- ---- an answer by the paper's relations

module _ (text cs : List ℕ) where
  stood : {l : Line} {line : paper.Line} → StandsFor text l line → said text (Ok l) ≡ in_bytes (found line)
  stood a_blank = refl
  stood (a_category {l = l} e) = ap (λ n. found (category n l.invoke l.group l.length)) e
  stood (a_range {l = l} e) = ap (λ ns. found (range l.lower l.upper ns)) e

  fits_said : {r : Result Line ℕ} → AnswerFits text cs r → said text r ≡ in_bytes (line_of cs)
  fits_said (reads {line = line} f s) = stood s ∙ ap in_bytes (sym (line_complete cs line f))
  fits_said (refuses {n = n} m) = ap in_bytes (sym ((line_misfit cs n).1 m))

  said_fits : (r : Result Line ℕ) → said text r ≡ in_bytes (line_of cs) → AnswerFits text cs r
  said_fits r h = go r (line_of cs) refl h
    where
      go : (r : Result Line ℕ) (f : Found) → line_of cs ≡ f → said text r ≡ in_bytes f → AnswerFits text cs r
      go (Err n) (wrong m) e h = let d : m ≡ n = cc in refuses ((line_misfit cs n).0 (e ∙ ap wrong d))
      go (Err n) (found blank) e h = zero_one (cc)
      go (Err n) (found (category a i g k)) e h = zero_one (cc)
      go (Err n) (found (range a b ns)) e h = zero_one (cc)
      go (Ok Blank) (wrong m) e h = zero_one (cc)
      go (Ok Blank) (found blank) e h = reads (line_sound cs blank e) a_blank
      go (Ok Blank) (found (category a i g k)) e h = zero_one (cc)
      go (Ok Blank) (found (range a b ns)) e h = zero_one (cc)
      go (Ok (Category l)) (wrong m) e h = zero_one (cc)
      go (Ok (Category l)) (found blank) e h = zero_one (cc)
      go (Ok (Category l)) (found (category a i g k)) e h =
          let d : bytes_of text l.name ≡ utf8 a = cc in
          let q : category a i g k ≡ category a l.invoke l.group l.length = cc in
          reads (line_sound cs _ (e ∙ ap found q)) (a_category d)
      go (Ok (Category l)) (found (range a b ns)) e h = zero_one (cc)
      go (Ok (Range l)) (wrong m) e h = zero_one (cc)
      go (Ok (Range l)) (found blank) e h = zero_one (cc)
      go (Ok (Range l)) (found (category a i g k)) e h = zero_one (cc)
      go (Ok (Range l)) (found (range a b ns)) e h =
          let d : words_bytes (gap_width true) (bytes_of text l.names) ≡ map utf8 ns = cc in
          let q : range a b ns ≡ range l.lower l.upper ns = cc in
          reads (line_sound cs _ (e ∙ ap found q)) (a_range d)

-- ---- of a line whose characters are cs

module _ (text : List ℕ) (start end : ℕ) (cs : List ℕ) (spelled : drop start (take end text) ≡ utf8 cs) where
  by_chars : line_bytes (drop start (take end text)) ≡ in_bytes (line_of cs)
  by_chars = ap line_bytes spelled ∙ line_bridge cs

  -- the promise is that the answer fits, and stands in its places
  pub line_fits : (r : Result Line ℕ) → Reads text start end r ↔ (AnswerFits text cs r × Placed text (body_part text start end) r)
  line_fits r = (
    (λ p. (said_fits text cs r (p.says ∙ by_chars), p.placed)),
    (λ q. record { says = fits_said text cs q.0 ∙ sym by_chars; placed = q.1 }),
  )

  module _ {r : Result Line ℕ} (p : Reads text start end r) where
    -- a line is answered exactly where a line fits, and it stands for that one
    pub reads_line : (line : paper.Line) → LineFits cs line → (l : Line) × ((r ≡ Ok l) × StandsFor text l line)
    reads_line line f = go r refl ((line_fits r).0 p).0
      where
        go : (s : Result Line ℕ) → r ≡ s → AnswerFits text cs s → (l : Line) × ((r ≡ Ok l) × StandsFor text l line)
        go (Ok l) e (reads {line = m} g q) =
            let a : line_of cs ≡ found m = line_complete cs m g in
            let b : line_of cs ≡ found line = line_complete cs line f in
            let d : m ≡ line = cc in
            (l, (e, subst (StandsFor text l) d q))
        go (Err n) e (refuses m) =
            let a : line_of cs ≡ wrong n = (line_misfit cs n).1 m in
            let b : line_of cs ≡ found line = line_complete cs line f in
            zero_one (cc)

    pub line_read : (l : Line) → r ≡ Ok l → (line : paper.Line) × (LineFits cs line × StandsFor text l line)
    line_read l e = go (subst (AnswerFits text cs) e ((line_fits r).0 p).0)
      where
        go : AnswerFits text cs (Ok l) → (line : paper.Line) × (LineFits cs line × StandsFor text l line)
        go (reads {line = line} f q) = (line, (f, q))

    -- and a number exactly where that is what is wrong with them
    pub refuses_line : (n : ℕ) → (r ≡ Err n) ↔ Misfit cs n
    refuses_line n = (λ e. misfit (subst (AnswerFits text cs) e ((line_fits r).0 p).0), λ m. go r refl ((line_fits r).0 p).0 m)
      where
        misfit : AnswerFits text cs (Err n) → Misfit cs n
        misfit (refuses m) = m

        go : (s : Result Line ℕ) → r ≡ s → AnswerFits text cs s → Misfit cs n → r ≡ Err n
        go (Ok l) e (reads {line = line} f q) m =
            let a : line_of cs ≡ wrong n = (line_misfit cs n).1 m in
            let b : line_of cs ≡ found line = line_complete cs line f in
            zero_one (cc)
        go (Err k) e (refuses j) m =
            let a : line_of cs ≡ wrong n = (line_misfit cs n).1 m in
            let b : line_of cs ≡ wrong k = (line_misfit cs k).1 j in
            let d : k ≡ n = cc in
            e ∙ ap Err d

-- ---- one answer

module _ (text : List ℕ) (b : Part) where
  -- what is said, and where, is all that an answer has
  same_answer : (r s : Result Line ℕ) → said text r ≡ said text s → Placed text b r → Placed text b s → r ≡ s
  same_answer (Err m) (Err n) e p q = let d : m ≡ n = cc in ap Err d
  same_answer (Err m) (Ok Blank) e p q = zero_one (cc)
  same_answer (Err m) (Ok (Category k)) e p q = zero_one (cc)
  same_answer (Err m) (Ok (Range k)) e p q = zero_one (cc)
  same_answer (Ok Blank) (Err n) e p q = zero_one (cc)
  same_answer (Ok Blank) (Ok Blank) e p q = refl
  same_answer (Ok Blank) (Ok (Category k)) e p q = zero_one (cc)
  same_answer (Ok Blank) (Ok (Range k)) e p q = zero_one (cc)
  same_answer (Ok (Category l)) (Err n) e p q = zero_one (cc)
  same_answer (Ok (Category l)) (Ok Blank) e p q = zero_one (cc)
  same_answer (Ok (Category l)) (Ok (Category k)) e p q =
      let i : l.invoke ≡ k.invoke = cc in
      let g : l.group ≡ k.group = cc in
      let n : l.length ≡ k.length = cc in
      let d : l.name ≡ k.name = p ∙ sym q in
      λ x. Ok (Category (record { invoke = i x; group = g x; length = n x; name = d x }))
  same_answer (Ok (Category l)) (Ok (Range k)) e p q = zero_one (cc)
  same_answer (Ok (Range l)) (Err n) e p q = zero_one (cc)
  same_answer (Ok (Range l)) (Ok Blank) e p q = zero_one (cc)
  same_answer (Ok (Range l)) (Ok (Category k)) e p q = zero_one (cc)
  same_answer (Ok (Range l)) (Ok (Range k)) e p q =
      let i : l.lower ≡ k.lower = cc in
      let u : l.upper ≡ k.upper = cc in
      let d : l.names ≡ k.names = p ∙ sym q in
      λ x. Ok (Range (record { lower = i x; upper = u x; names = d x }))

  pub one_answer : (f : Found) (r s : Result Line ℕ) → Says text b f r → Says text b f s → r ≡ s
  one_answer f r s p q = same_answer r s (p.says ∙ sym q.says) p.placed q.placed
