-- "Given exactly when", for 4 to 13: the line that these characters are, without LF, is bad by a number, given the reading of the lines
-- before it. Bodies, fields and bounds in the words of "The lines of char.def"; what comes first in the words of "Order".
-- Assumes nothing.
use Rattle.std.specs.Prelude.{ℕ, ◌+◌, ◌<◌, ◌≤◌, ◌≡◌, ◌≢◌, ◌⊎◌, Bool, false, not, List, [], ◌∷◌, ◌++◌, T, length}
use Rattle.paper.specs.Sizes.{max_u16, max_categories, max_name_bytes, max_category_lines, max_ranges, max_references, line_fields}
use Rattle.paper.specs.Refusals.{range_parts, bound_unreadable, bound_mark, category_fields, category_number, ranges_full, references_full, category_lines_full, categories_full, name_bytes_full}
use Rattle.paper.specs.Lists.{all, full, any, same, without, fresh_after}
use Rattle.paper.specs.Text.Scalar.{is_white, is_sep, hash, dot, byte_order_mark, swapped_mark}
use Rattle.paper.specs.Numbers.Numeral.{Numeral, NoU32, hexadecimal}
use Rattle.paper.specs.CharDef.Line.{Line, category, range, LineFits, comment, begins0x, begins_white, zero_xs, Bound}
use Rattle.paper.specs.CharDef.Reading.{Reading, names_of, name_bytes, references}

-- ---- the body and its fields

abbrev pub ends_white : List ℕ → Bool
ends_white [] = false
ends_white (c ∷ []) = is_white c
ends_white (c ∷ d ∷ cs) = ends_white (d ∷ cs)

-- what stands before the first `#`, with White_Space trimmed at both ends
pub record Body (cs body : List ℕ) : Type 0 where
  pub before : List ℕ
  pub after : List ℕ
  pub rest : List ℕ
  pub whole : cs ≡ before ++ (body ++ (after ++ rest))
  pub white_before : T (all is_white before)
  pub no_hash : T (without hash body)
  pub opens : T (not (begins_white body))
  pub closes : T (not (ends_white body))
  pub white_after : T (all is_white after)
  pub is_comment : T (comment rest)

-- fields with separators between them
pub data Fields (separates : ℕ → Bool) : List ℕ → List (List ℕ) → Type 0 where
  last_field : {field : List ℕ} → T (full (λ c. not (separates c)) field) → Fields separates field (field ∷ [])
  more_fields : {cs field : List ℕ} {fields : List (List ℕ)} (gap rest : List ℕ) → cs ≡ field ++ (gap ++ rest)
      → T (full (λ c. not (separates c)) field) → T (full separates gap) → Fields separates rest fields → Fields separates cs (field ∷ fields)

-- a range line's body begins `0x`, and its fields are split at White_Space: the bounds, and names
pub record RangeFields (cs bounds : List ℕ) (names : List (List ℕ)) : Type 0 where
  pub body : List ℕ
  pub is_body : Body cs body
  pub opens0x : T (begins0x body)
  pub split : Fields is_white body (bounds ∷ names)

-- a category line's body does not begin so, and its fields are split at TAB, FF, CR and space only
pub record CategoryFields (cs : List ℕ) (fields : List (List ℕ)) : Type 0 where
  pub body : List ℕ
  pub is_body : Body cs body
  pub opens_no0x : T (not (begins0x body))
  pub split : Fields is_sep body fields

-- ---- bounds

-- no `..` in it
abbrev pub NoDots : List ℕ → Type 0
NoDots cs = (a b : List ℕ) → cs ≡ a ++ (dot ∷ dot ∷ b) → ⊥

-- split at each `..` found from the left: one part is both bounds, two are lower and upper. No `..` begins before the first one
pub data Parts (bounds lower upper : List ℕ) : Type 0 where
  one_part : NoDots bounds → lower ≡ bounds → upper ≡ bounds → Parts bounds lower upper
  two_parts : bounds ≡ lower ++ (dot ∷ dot ∷ upper) → NoDots (lower ++ (dot ∷ [])) → NoDots upper → Parts bounds lower upper

-- three or more: two `..` that do not overlap
pub record ThreeParts (bounds : List ℕ) : Type 0 where
  pub first : List ℕ
  pub second : List ℕ
  pub others : List ℕ
  pub whole : bounds ≡ first ++ (dot ∷ dot ∷ (second ++ (dot ∷ dot ∷ others)))

-- `0x` taken off, repeatedly, a 16-bit hex number remains
pub record Hex16 (part : List ℕ) (code : ℕ) : Type 0 where
  pub times : ℕ
  pub numeral : List ℕ
  pub whole : part ≡ zero_xs times ++ numeral
  pub number : Numeral hexadecimal max_u16 numeral code

pub data BadBound (part : List ℕ) : ℕ → Type 0 where
  -- 5: bound is no 16-bit hex number
  no_hex : ((code : ℕ) → Hex16 part code → ⊥) → BadBound part bound_unreadable
  -- 6: bound is FEFF or FFFE
  mark : Hex16 part byte_order_mark → BadBound part bound_mark
  swapped : Hex16 part swapped_mark → BadBound part bound_mark

-- ---- a line that fits nothing

-- "Within a range line 4, 5 or 6 for the lower bound, 5 or 6 for the upper". "Within a category line 7, 8"
pub data Misfit (cs : List ℕ) : ℕ → Type 0 where
  -- 4: range field has three or more parts
  many_parts : {bounds : List ℕ} {names : List (List ℕ)} → RangeFields cs bounds names → ThreeParts bounds → Misfit cs range_parts
  -- 5 or 6, of the lower bound; of the upper, where the lower is one
  lower_bad : {bounds lower upper : List ℕ} {names : List (List ℕ)} {n : ℕ}
      → RangeFields cs bounds names → Parts bounds lower upper → BadBound lower n → Misfit cs n
  upper_bad : {bounds lower upper : List ℕ} {names : List (List ℕ)} {n bound : ℕ}
      → RangeFields cs bounds names → Parts bounds lower upper → Bound 0 lower bound → BadBound upper n → Misfit cs n
  -- 7: category line has not four fields
  not_four : {fields : List (List ℕ)} → CategoryFields cs fields → length fields ≢ line_fields → Misfit cs category_fields
  -- 8: invoke, group or length is no u32
  no_number : {name invoke group len : List ℕ}
      → CategoryFields cs (name ∷ invoke ∷ group ∷ len ∷ []) → NoU32 invoke ⊎ (NoU32 group ⊎ NoU32 len) → Misfit cs category_number

-- ---- a line that fits, and passes a limit

-- a name that is not known yet, and no room for it: "12 before 13"
pub data NoRoom (known : List (List ℕ)) (name : List ℕ) : ℕ → Type 0 where
  -- 12: category 513
  too_many : T (not (any (same name) known)) → max_categories < length known + 1 → NoRoom known name categories_full
  -- 13: name bytes would pass 16,384
  too_many_bytes : T (not (any (same name) known)) → length known + 1 ≤ max_categories → max_name_bytes < name_bytes known + length name → NoRoom known name name_bytes_full

-- the names known, and behind them the new ones among others, each at its first sight
abbrev pub known_with : List (List ℕ) → List (List ℕ) → List (List ℕ)
known_with known names = known ++ fresh_after same known names

-- "names left to right": the first for which there is no room
pub record FirstOver (known names : List (List ℕ)) (n : ℕ) : Type 0 where
  pub earlier : List (List ℕ)
  pub name : List ℕ
  pub later : List (List ℕ)
  pub whole : names ≡ earlier ++ (name ∷ later)
  pub over : NoRoom (known_with known earlier) name n
  pub first : (a b : List (List ℕ)) (x : List ℕ) (m : ℕ) → earlier ≡ a ++ (x ∷ b) → NoRoom (known_with known a) x m → ⊥

-- "9, 10, then names left to right". "11, 12, 13"
pub data PastLimit (r : Reading) : Line → ℕ → Type 0 where
  -- 9: range 2,049
  range_over : {lower upper : ℕ} {names : List (List ℕ)} → max_ranges < length r.ranges + 1 → PastLimit r (range lower upper names) ranges_full
  -- 10: references would pass 8,192
  references_over : {lower upper : ℕ} {names : List (List ℕ)}
      → length r.ranges + 1 ≤ max_ranges → max_references < references r.ranges + length names
      → PastLimit r (range lower upper names) references_full
  -- 12 or 13, of one of its names
  range_name : {lower upper n : ℕ} {names : List (List ℕ)}
      → length r.ranges + 1 ≤ max_ranges → references r.ranges + length names ≤ max_references
      → FirstOver r.names (names_of (range lower upper names)) n → PastLimit r (range lower upper names) n
  -- 11: category line 513
  line_over : {name : List ℕ} {invoke group : Bool} {len : ℕ} → max_category_lines < length r.definitions + 1 → PastLimit r (category name invoke group len) category_lines_full
  -- 12 or 13, of its name
  category_name : {name : List ℕ} {invoke group : Bool} {len n : ℕ}
      → length r.definitions + 1 ≤ max_category_lines
      → FirstOver r.names (names_of (category name invoke group len)) n → PastLimit r (category name invoke group len) n

-- ---- a bad line

pub data BadLine (r : Reading) (cs : List ℕ) (n : ℕ) : Type 0 where
  misfit : Misfit cs n → BadLine r cs n
  past_limit : {line : Line} → LineFits cs line → PastLimit r line n → BadLine r cs n
