-- unk.def's refusals in the words of "Refusals by number": what is wrong with a line, the first bad line of a text, and what is wrong with a
-- text before any line is looked at. "Order: .. 2; 3; then lines from the top .. Within an unk line 23, 24, 25."
-- Assumes nothing.
use Rattle.std.specs.Prelude.{ℕ, suc, ◌<◌, ◌≤◌, ◌≡◌, ◌⊎◌, List, ◌∷◌, ◌++◌, T, length}
use Rattle.paper.specs.Sizes.{max_text_bytes, max_unk_entries, line_fields}
use Rattle.paper.specs.Refusals.{text_long, text_ill_formed, unk_fields, unk_number, unk_entries_full}
use Rattle.paper.specs.Lists.{all, without, join_with}
use Rattle.paper.specs.Text.Scalar.{comma, WellFormed, LongestPrefix}
use Rattle.paper.specs.Numbers.Numeral.{NoU32, NoI32}
use Rattle.paper.specs.Unk.Entry.{Lines, Entry, UnkLine, EachUnk, Unk, UnkFits}

-- ---- a line

-- "unk line has under four fields": what stands between its commas, and a line with no comma is one field
pub record UnderFour (cs : List ℕ) : Type 0 where
  pub first : List ℕ
  pub more : List (List ℕ)
  pub whole : cs ≡ join_with comma (first ∷ more)
  pub parted : T (all (without comma) (first ∷ more))
  pub few : length (first ∷ more) < line_fields

-- "unk left, right or cost unreadable", in a line of four fields or more
pub record Unreadable (cs : List ℕ) : Type 0 where
  pub category : List ℕ
  pub left : List ℕ
  pub right : List ℕ
  pub cost : List ℕ
  pub more : List (List ℕ)
  pub whole : cs ≡ join_with comma (category ∷ left ∷ right ∷ cost ∷ more)
  pub parted : T (all (without comma) (category ∷ left ∷ right ∷ cost ∷ more))
  pub one_at_least : NoU32 left ⊎ (NoU32 right ⊎ NoI32 cost)

-- what is wrong with a line, where `before` entries stand before it; "unk entry 4,097" is a line that says an entry behind 4,096 entries
pub data BadUnkLine (before : ℕ) (cs : List ℕ) : ℕ → Type 0 where
  fields_short : UnderFour cs → BadUnkLine before cs unk_fields
  number_unreadable : Unreadable cs → BadUnkLine before cs unk_number
  entries_full : {e : Entry} → UnkLine cs e → before ≡ max_unk_entries → BadUnkLine before cs unk_entries_full

-- ---- a text

-- line `place`, from 1, is the first bad one: the lines before it are entries, no more than the limit, and n is what is wrong with it
pub record UnkFirstBad (n place : ℕ) (bytes : List ℕ) : Type 0 where
  pub lines : List (List ℕ)
  pub split : Lines bytes lines
  pub pre : List (List ℕ)
  pub bad : List ℕ
  pub post : List (List ℕ)
  pub whole : lines ≡ pre ++ (bad ∷ post)
  pub at : place ≡ suc (length pre)
  pub entries : List Entry
  pub before : EachUnk pre entries
  pub few : length pre ≤ max_unk_entries
  pub wrong : BadUnkLine (length pre) bad n

-- the number and the place of a refused text
pub data UnkRefused (bytes : List ℕ) : ℕ → ℕ → Type 0 where
  too_long : max_text_bytes < length bytes → UnkRefused bytes text_long 0
  ill_formed : {p : ℕ} → length bytes ≤ max_text_bytes → (WellFormed bytes → ⊥) → LongestPrefix p bytes → UnkRefused bytes text_ill_formed p
  bad_line : {n place : ℕ} → length bytes ≤ max_text_bytes → WellFormed bytes → UnkFirstBad n place bytes → UnkRefused bytes n place

-- ---- the answer to a text

pub data UnkAnswer : Type 0 where
  accepted : Unk → UnkAnswer
  -- number and place
  refused : ℕ → ℕ → UnkAnswer

pub data UnkAnswered (names : List (List ℕ)) (bytes : List ℕ) : UnkAnswer → Type 0 where
  fitting : {u : Unk} → UnkFits names bytes u → UnkAnswered names bytes (accepted u)
  refusing : {n place : ℕ} → UnkRefused bytes n place → UnkAnswered names bytes (refused n place)
