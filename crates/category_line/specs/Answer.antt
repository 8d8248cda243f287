-- What a line answers: what the paper says of its bytes, and where its names stand. A category line gives such an answer here, a range line
-- and `read_line` in crate `line`.
-- Assumes nothing.
use Rattle.std.specs.Prelude.{ℕ, ◌≡◌, true, false, List}
use Rattle.paper.specs.CharDef.Line.{blank, category, range}
use Rattle.paper.specs.Computed.ReadText.{Found, found, wrong}
use Rattle.scan.specs.declared.Part.{Part}
use Rattle.scan.specs.Marks.{gap_width, words_bytes}
use Rattle.scan.specs.Answer.{part, bytes_of, word_part}
use Rattle.category_line.specs.declared.Line.TheVariants.{Blank, Category, Range}
use Rattle.std.specs.Prelude.{Err, Ok, Result}
use Rattle.category_line.specs.declared.Line.{Line}

-- the line that an answer stands for: its places are read off the text
abbrev pub said : List ℕ → Result Line ℕ → Found
said text (Err n) = wrong n
said text (Ok Blank) = found blank
said text (Ok (Category l)) = found (category (bytes_of text l.name) l.invoke l.group l.length)
said text (Ok (Range l)) = found (range l.lower l.upper (words_bytes (gap_width true) (bytes_of text l.names)))

-- the places of an answer to a body: a name is its first word, the names of a range stand behind it
abbrev pub Placed : List ℕ → Part → Result Line ℕ → Type 0
Placed text b (Err n) = Unit {0}
Placed text b (Ok Blank) = Unit {0}
Placed text b (Ok (Category l)) = l.name ≡ word_part false text b.start b.end
Placed text b (Ok (Range l)) = l.names ≡ part (word_part true text b.start b.end).end b.end

-- an answer says this, of a body that stands there
pub record Says (text : List ℕ) (b : Part) (f : Found) (r : Result Line ℕ) : Type 0 where
  pub says : said text r ≡ f
  pub placed : Placed text b r
