-- What `body_of` and `next_word` answer: where the body and the words of a line stand, by the runs of marked bytes.
-- Assumes nothing.
use Rattle.std.specs.Prelude.{ℕ, ◌+◌, ◌≤◌, ◌<◌, ◌≡◌, Bool, true, not, List, [], ◌∷◌, length, take, drop}
use Rattle.paper.specs.Lists.{until, trim_end}
use Rattle.text.specs.Answers.{white_width}
use Rattle.scan.specs.declared.Part.{Part}
use Rattle.scan.specs.Marks.{Mark, marks, in_gap, hash_mark, gap_width, words_bytes, body_bytes}

-- the marks of the gap, or of the word, in front
unfoldable pub gap_run : Bool → List ℕ → List Mark
unfolding marks gap_width
gap_run white s = until (λ m. not (in_gap m)) (marks (gap_width white) s)

unfoldable pub word_run : Bool → List ℕ → List Mark
unfolding marks gap_width
word_run white s = until in_gap (marks (gap_width white) s)

-- before a `#`, without White_Space at the end
unfoldable pub solid : List ℕ → List Mark
unfolding marks white_width
solid s = trim_end in_gap (until hash_mark (marks white_width s))

abbrev pub part : ℕ → ℕ → Part
part start end = record { start = start; end = end }

-- the bytes of a part
abbrev pub bytes_of : List ℕ → Part → List ℕ
bytes_of text p = drop p.start (take p.end text)

-- a word with those that follow; no word, none
abbrev pub word_and : List ℕ → List (List ℕ) → List (List ℕ)
word_and [] ws = []
word_and (b ∷ w) ws = (b ∷ w) ∷ ws

-- the next word of the part from `start` to `end`, and where it stands
pub record NextWord (text : List ℕ) (start end : ℕ) (white : Bool) (r : Part) : Type 0 where
  pub from : start ≤ r.start
  pub order : r.start ≤ r.end
  pub within : start ≤ end → r.end ≤ end
  pub inside : r.start < r.end → r.end ≤ length text
  pub place : r.start ≡ start + length (gap_run white (drop start (take end text)))
  pub size : r.end ≡ r.start + length (word_run white (drop r.start (take end text)))
  pub words : words_bytes (gap_width white) (drop start (take end text)) ≡ word_and (bytes_of text r) (words_bytes (gap_width white) (drop r.end (take end text)))

-- the body of the line from `start` to `end`, and where it stands
pub record Body (text : List ℕ) (start end : ℕ) (r : Part) : Type 0 where
  pub from : start ≤ r.start
  pub order : r.start ≤ r.end
  pub within : start ≤ end → r.end ≤ end
  pub inside : r.start < r.end → r.end ≤ length text
  pub place : r.start ≡ start + length (gap_run true (drop start (take end text)))
  pub size : r.end ≡ r.start + length (solid (drop r.start (take end text)))
  pub bytes : bytes_of text r ≡ body_bytes (drop start (take end text))

-- ---- where things stand

abbrev pub word_part : Bool → List ℕ → ℕ → ℕ → Part
word_part white text start end =
    let from = start + length (gap_run white (drop start (take end text))) in
    part from (from + length (word_run white (drop from (take end text))))

abbrev pub body_part : List ℕ → ℕ → ℕ → Part
body_part text start end =
    let from = start + length (gap_run true (drop start (take end text))) in
    part from (from + length (solid (drop from (take end text))))
