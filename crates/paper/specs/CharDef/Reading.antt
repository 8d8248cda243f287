-- What a text of char.def says: its reading, the limits, and which texts a reading fits.
-- Assumes nothing.
use Rattle.std.specs.Prelude.{ℕ, ◌≤◌, ◌≡◌, Bool, not, List, [], ◌∷◌, map, T, length}
use Rattle.paper.specs.Sizes.{max_text_bytes, max_categories, max_name_bytes, max_category_lines, max_ranges, max_references}
use Rattle.paper.specs.Lists.{all, empty, joined, first_seen, position_of, same, sum, join_with, is, without}
use Rattle.paper.specs.Text.Scalar.{utf8, is_scalar, lf}
use Rattle.paper.specs.CharDef.Line.{Line, blank, category, range, LineFits}

pub record Definition : Type 0 where
  pub invoke : Bool
  pub group : Bool
  pub len : ℕ

pub record Range : Type 0 where
  pub lower : ℕ
  pub upper : ℕ
  pub categories : List ℕ

pub record Reading : Type 0 where
  pub names : List (List ℕ)
  pub definitions : List Definition
  pub ranges : List Range

-- ---- what lines say

-- the names of a line, as bytes, from the left
unfoldable pub names_of : Line → List (List ℕ)
unfolding utf8
names_of blank = []
names_of (category name invoke group length) = utf8 name ∷ []
names_of (range lower upper names) = map utf8 names

unfoldable pub definitions_of : Line → List Definition
definitions_of blank = []
definitions_of (category name invoke group length) = record { invoke = invoke; group = group; len = length } ∷ []
definitions_of (range lower upper names) = []

-- the range of a line, its names numbered by their places in `every_name`
unfoldable pub ranges_of : List (List ℕ) → Line → List Range
unfolding utf8
ranges_of every_name blank = []
ranges_of every_name (category name invoke group length) = []
ranges_of every_name (range lower upper names) =
    record { lower = lower; upper = upper; categories = map (λ n. position_of same n every_name) (map utf8 names) } ∷ []

unfoldable pub all_names : List Line → List (List ℕ)
unfolding names_of
all_names ls = first_seen same (joined (map names_of ls))

unfoldable pub reading_of : List Line → Reading
unfolding all_names definitions_of ranges_of
reading_of ls =
    record {
      names = all_names ls;
      definitions = joined (map definitions_of ls);
      ranges = joined (map (ranges_of (all_names ls)) ls);
    }

-- ---- limits

-- how many bytes names have in all, and how many categories ranges refer to
unfoldable pub name_bytes : List (List ℕ) → ℕ
name_bytes names = sum (map length names)

unfoldable pub references : List Range → ℕ
references ranges = sum (map (λ r. length r.categories) ranges)

pub record Within (r : Reading) : Type 0 where
  pub categories_fit : length r.names ≤ max_categories
  pub names_fit : name_bytes r.names ≤ max_name_bytes
  pub definitions_fit : length r.definitions ≤ max_category_lines
  pub ranges_fit : length r.ranges ≤ max_ranges
  pub references_fit : references r.ranges ≤ max_references

-- ---- texts

abbrev pub is_lf : ℕ → Bool
is_lf c = is lf c

-- lines with LF between them
abbrev pub join_lf : List (List ℕ) → List ℕ
join_lf ls = join_with lf ls

abbrev pub no_lf : List ℕ → Bool
no_lf cs = without lf cs

-- line by line
pub data EachFits : List (List ℕ) → List Line → Type 0 where
  done : EachFits [] []
  next : {cs : List ℕ} {l : Line} {css : List (List ℕ)} {ls : List Line} → LineFits cs l → EachFits css ls → EachFits (cs ∷ css) (l ∷ ls)

pub record Fits (bytes : List ℕ) (r : Reading) : Type 0 where
  pub chars : List ℕ
  pub texts : List (List ℕ)
  pub lines : List Line
  pub short : length bytes ≤ max_text_bytes
  pub encoded : bytes ≡ utf8 chars
  pub scalars : T (all is_scalar chars)
  pub split : chars ≡ join_lf texts
  pub some_line : T (not (empty texts))
  pub ended : T (all no_lf texts)
  pub each : EachFits texts lines
  pub says : r ≡ reading_of lines
  pub within : Within r

-- ---- the answer to a text

pub data Answer : Type 0 where
  accepted : Reading → Answer
  -- number and place
  refused : ℕ → ℕ → Answer
