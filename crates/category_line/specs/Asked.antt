-- What the functions inside this crate promise: the fields of a category line, and the answer that they give.
-- Assumes nothing.
use Rattle.std.specs.Prelude.{ℕ, ◌<◌, ◌≡◌, ◌≢◌, false, List, [], ◌∷◌, length, take, drop}
use Rattle.std.proofs.Math.Option.{none, some}
use Rattle.paper.specs.Sizes.{max_u32, line_fields}
use Rattle.paper.specs.Refusals.{category_number}
use Rattle.paper.specs.Numbers.Numeral.{decimal}
use Rattle.paper.specs.Computed.Numeral.{numeral}
use Rattle.scan.specs.declared.Part.{Part}
use Rattle.scan.specs.Marks.{gap_width, words_bytes}
use Rattle.scan.specs.Answer.{bytes_of, NextWord, word_part}
use Rattle.category_line.specs.declared.Four.{Four}
use Rattle.std.specs.Prelude.{Err, None, Ok, Option, Result, Some}

-- the next word, which is not empty; or there is none
abbrev pub WordIs : List ℕ → ℕ → ℕ → Option Part → Type 0
WordIs text start end (Some w) = NextWord text start end false w × (w.start < w.end)
WordIs text start end None = words_bytes (gap_width false) (drop start (take end text)) ≡ []

-- the words are these four, and the name is the first
pub record FourWords (text : List ℕ) (start end : ℕ) (f : Four) : Type 0 where
  pub words :
      words_bytes (gap_width false) (drop start (take end text))
      ≡ bytes_of text f.name ∷ bytes_of text f.invoke ∷ bytes_of text f.group ∷ bytes_of text f.length ∷ []
  pub name : f.name ≡ word_part false text start end

abbrev pub FieldsAre : List ℕ → ℕ → ℕ → Option Four → Type 0
FieldsAre text start end None = length (words_bytes (gap_width false) (drop start (take end text))) ≢ line_fields
FieldsAre text start end (Some f) = FourWords text start end f

-- the number that a field spells; or the refusal of a field that spells none
abbrev pub NumberIs : List ℕ → Part → Result ℕ ℕ → Type 0
NumberIs text p (Ok n) = numeral decimal max_u32 (bytes_of text p) ≡ some n
NumberIs text p (Err k) = (numeral decimal max_u32 (bytes_of text p) ≡ none) × (k ≡ category_number)
