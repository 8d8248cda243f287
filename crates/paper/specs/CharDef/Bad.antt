-- The first bad line of a text, "A refused text names its first bad line", and what each answer to a text means: "Order: 2; 3; then lines
-- from the top".
-- Assumes nothing.
use Rattle.std.specs.Prelude.{ℕ, zero, suc, ◌<◌, ◌≤◌, ◌≡◌, List, [], ◌∷◌, ◌++◌, T, length, take}
use Rattle.paper.specs.Sizes.{max_text_bytes}
use Rattle.paper.specs.Refusals.{text_long, text_ill_formed}
use Rattle.paper.specs.Lists.{all, cut}
use Rattle.paper.specs.Text.Scalar.{is_scalar, utf8, lf, WellFormed, LongestPrefix}
use Rattle.paper.specs.CharDef.Reading.{Reading, Fits, join_lf, no_lf, is_lf, Answer, accepted, refused}
use Rattle.paper.specs.CharDef.BadLine.{BadLine}

-- ---- parts of a text

-- lines, each with its LF
abbrev pub ended : List (List ℕ) → List ℕ
ended [] = []
ended (l ∷ ls) = l ++ (lf ∷ ended ls)

-- the bytes up to and including the LF that ends the line before line `place`; none before line 1
unfoldable pub lines_before : ℕ → List ℕ → List ℕ
lines_before zero bytes = []
lines_before (suc k) bytes = ended (take k (cut is_lf bytes))

-- the bytes up to the end of line `place`, without its LF
unfoldable pub through_line : ℕ → List ℕ → List ℕ
through_line place bytes = join_lf (take place (cut is_lf bytes))

-- line `place` of a text is its first bad one, and n is what is wrong with it
pub record FirstBad (n place : ℕ) (bytes : List ℕ) : Type 0 where
  pub from_one : 1 ≤ place
  pub there : place ≤ length (cut is_lf bytes)
  -- the line's characters, without LF, stand behind the lines before it, and the text begins so
  pub line : List ℕ
  pub scalars : T (all is_scalar line)
  pub one_line : T (no_lf line)
  pub through : through_line place bytes ≡ lines_before place bytes ++ utf8 line
  pub rest : List ℕ
  pub whole : bytes ≡ through_line place bytes ++ rest
  -- the lines before it are accepted by themselves, and it is bad after their reading
  pub reading : Reading
  pub before : Fits (lines_before place bytes) reading
  pub wrong : BadLine reading line n

-- ---- answers

-- number and place of what is wrong with a text
pub data BadText : ℕ → ℕ → List ℕ → Type 0 where
  too_long : {bytes : List ℕ} → max_text_bytes < length bytes → BadText text_long 0 bytes
  ill_formed : {p : ℕ} {bytes : List ℕ} → length bytes ≤ max_text_bytes → (WellFormed bytes → ⊥) → LongestPrefix p bytes → BadText text_ill_formed p bytes
  bad_line : {n place : ℕ} {bytes : List ℕ} → length bytes ≤ max_text_bytes → WellFormed bytes → FirstBad n place bytes → BadText n place bytes

pub data Answered (bytes : List ℕ) : Answer → Type 0 where
  fitting : {r : Reading} → Fits bytes r → Answered bytes (accepted r)
  refusing : {n place : ℕ} → BadText n place bytes → Answered bytes (refused n place)
