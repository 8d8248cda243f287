-- The promise of `read_line` by the paper's relations: which answer fits the characters of a line.
-- Assumes nothing.
use Rattle.std.specs.Prelude.{ℕ, ◌≡◌, true, List, map, take, drop}
use Rattle.paper.specs.Text.Scalar.{utf8}
use Rattle.paper.specs.CharDef.Line.{LineFits}
use Rattle.paper.specs.CharDef.Line as paper
use Rattle.paper.specs.CharDef.BadLine.{Misfit}
use Rattle.category_line.specs.declared.CategoryLine.{CategoryLine}
use Rattle.category_line.specs.declared.RangeLine.{RangeLine}
use Rattle.category_line.specs.declared.Line.{Line}
use Rattle.category_line.specs.declared.Line.TheVariants.{Blank, Category, Range}
use Rattle.scan.specs.Marks.{gap_width, words_bytes}
use Rattle.scan.specs.Answer.{bytes_of, body_part}
use Rattle.category_line.specs.Answer.{Says}
use Rattle.line.specs.Bytes.{line_bytes}
use Rattle.std.specs.Prelude.{Err, Ok, Result}

-- what `read_line` promises of the line from `start` to `end`
abbrev pub Reads : List ℕ → ℕ → ℕ → Result Line ℕ → Type 0
Reads text start end r = Says text (body_part text start end) (line_bytes (drop start (take end text))) r

-- an answer stands for the paper's line: the bytes at its places spell the names, which in a range line are the words there
pub data StandsFor (text : List ℕ) : Line → paper.Line → Type 0 where
  a_blank : StandsFor text Blank paper.blank
  a_category : {l : CategoryLine} {name : List ℕ} → bytes_of text l.name ≡ utf8 name
      → StandsFor text (Category l) (paper.category name l.invoke l.group l.length)
  a_range : {l : RangeLine} {names : List (List ℕ)} → words_bytes (gap_width true) (bytes_of text l.names) ≡ map utf8 names
      → StandsFor text (Range l) (paper.range l.lower l.upper names)

-- the characters cs say the line that is answered; or they say none, and the number is why
pub data AnswerFits (text cs : List ℕ) : Result Line ℕ → Type 0 where
  reads : {l : Line} {line : paper.Line} → LineFits cs line → StandsFor text l line → AnswerFits text cs (Ok l)
  refuses : {n : ℕ} → Misfit cs n → AnswerFits text cs (Err n)
