-- What walking the lines of a text promises, on bytes.
-- Assumes nothing.
use Rattle.std.specs.Prelude.{ℕ, suc, ◌≡◌, cond, List, [], ◌∷◌, leb, length, drop}
use Rattle.paper.specs.Lists.{cut}
use Rattle.paper.specs.CharDef.Reading.{Reading, Answer, accepted, refused, is_lf}
use Rattle.paper.specs.Computed.ReadText.{after_line, nothing_read}
use Rattle.paper.specs.declared.Counts.{Counts}
use Rattle.line.specs.Bytes.{line_bytes}
use Rattle.entry.specs.Steps.{Memory, Held, enter_found_bytes}
use Rattle.std.specs.Prelude.{Err, Ok, Result}
use Rattle.paper.specs.declared.Refusal.{Refusal}

-- lines as bytes, from line k, entered behind a reading
unfoldable pub read_bytes : ℕ → List (List ℕ) → Reading → Answer
read_bytes k [] r = accepted r
read_bytes k (s ∷ ss) r = after_line k (enter_found_bytes r (line_bytes s)) (λ r'. read_bytes (suc k) ss r')

-- the answer to all lines of a text
unfoldable pub read_all : List ℕ → Answer
unfolding read_bytes nothing_read
read_all text = read_bytes 1 (cut is_lf text) nothing_read

-- the lines that are left from a place on: none past the end
unfoldable pub lines_from : ℕ → List ℕ → List (List ℕ)
lines_from at text = cond (leb at (length text)) (cut is_lf (drop at text)) []

-- ---- the walk

-- the text was walked to its end, and memory holds its reading
pub record WalkEnded (a : Answer) (m : Memory) (c : Counts) : Type 0 where
  pub reading : Reading
  pub is : a ≡ accepted reading
  pub held : Held reading m c

abbrev pub Walked : Answer → Memory → Result Counts Refusal → Type 0
Walked a m (Ok c) = WalkEnded a m c
Walked a m (Err x) = a ≡ refused x.number x.place
