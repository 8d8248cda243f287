-- The answer to a text, computed: accepted with its reading, or refused with a number and a place.
-- The paper's words, step by step: cut at LF, before the first `#`, trimmed, split, and the refusals in their order.
-- Assumes nothing.
use Rattle.std.specs.Prelude.{ℕ, suc, ◌+◌, cond, ◌&&◌, ◌||◌, List, [], ◌∷◌, ◌++◌, map, leb, ltb, eqb, length}
use Rattle.std.proofs.Math.Option.{Option, none, some}
use Rattle.paper.specs.Sizes.{max_text_bytes, max_categories, max_name_bytes, max_category_lines, max_ranges, max_references, max_u16, max_u32}
use Rattle.paper.specs.Refusals.{text_long, text_ill_formed, range_parts, bound_unreadable, bound_mark, category_fields, category_number, ranges_full, references_full, category_lines_full, categories_full, name_bytes_full}
use Rattle.paper.specs.Lists.{any, cut, push, words, until, trim_start, trim_end, same, position_of}
use Rattle.paper.specs.Text.Scalar.{is_white, is_sep, utf8, dot, digit0, letter_x, byte_order_mark, swapped_mark}
use Rattle.paper.specs.Numbers.Numeral.{decimal, hexadecimal}
use Rattle.paper.specs.CharDef.Line.{Line, blank, category, range, begins0x, is_hash, stands_for}
use Rattle.paper.specs.CharDef.Reading.{Answer, accepted, refused, Definition, Reading, name_bytes, references, is_lf}
use Rattle.paper.specs.Computed.Decode.{Text, broken, chars, decode}
use Rattle.paper.specs.Computed.Numeral.{numeral}

-- ---- a line

pub data Found : Type 0 where
  found : Line → Found
  wrong : ℕ → Found

-- a bound, or the refusal 5 or 6
pub data BoundFound : Type 0 where
  bound_is : ℕ → BoundFound
  no_bound : ℕ → BoundFound

abbrev pub strip0x : List ℕ → List ℕ
strip0x [] = []
strip0x (c ∷ []) = c ∷ []
strip0x (c ∷ d ∷ cs) = let r = strip0x cs in cond (eqb c digit0 && eqb d letter_x) r (c ∷ d ∷ cs)

-- split at each `..` from the left
abbrev pub parts : List ℕ → List (List ℕ)
parts [] = [] ∷ []
parts (c ∷ []) = (c ∷ []) ∷ []
parts (c ∷ d ∷ cs) = let r = parts cs in let q = parts (d ∷ cs) in cond (eqb c dot && eqb d dot) ([] ∷ r) (push c q)

unfoldable pub checked_bound : Option ℕ → BoundFound
unfolding stands_for
checked_bound none = no_bound bound_unreadable
checked_bound (some c) = cond (eqb c byte_order_mark || eqb c swapped_mark) (no_bound bound_mark) (bound_is (stands_for c))

unfoldable pub bound_of : List ℕ → BoundFound
unfolding checked_bound numeral
bound_of cs = checked_bound (numeral hexadecimal max_u16 (strip0x cs))

abbrev pub from_bounds : BoundFound → BoundFound → List (List ℕ) → Found
from_bounds (no_bound n) e names = wrong n
from_bounds (bound_is lower) (no_bound n) names = wrong n
from_bounds (bound_is lower) (bound_is upper) names = found (range lower upper names)

unfoldable pub from_parts : List (List ℕ) → List (List ℕ) → Found
unfolding bound_of
from_parts [] names = wrong bound_unreadable
from_parts (a ∷ []) names = from_bounds (bound_of a) (bound_of a) names
from_parts (a ∷ b ∷ []) names = from_bounds (bound_of a) (bound_of b) names
from_parts (a ∷ b ∷ c ∷ r) names = wrong range_parts

unfoldable pub range_of : List (List ℕ) → Found
unfolding from_parts
range_of [] = wrong bound_unreadable
range_of (f ∷ names) = from_parts (parts f) names

abbrev pub from_numbers : List ℕ → Option ℕ → Option ℕ → Option ℕ → Found
from_numbers name none g l = wrong category_number
from_numbers name (some i) none l = wrong category_number
from_numbers name (some i) (some g) none = wrong category_number
from_numbers name (some i) (some g) (some l) = found (category name (eqb i 1) (eqb g 1) l)

unfoldable pub category_of : List (List ℕ) → Found
unfolding numeral
category_of [] = wrong category_fields
category_of (n ∷ []) = wrong category_fields
category_of (n ∷ i ∷ []) = wrong category_fields
category_of (n ∷ i ∷ g ∷ []) = wrong category_fields
category_of (n ∷ i ∷ g ∷ l ∷ []) = from_numbers n (numeral decimal max_u32 i) (numeral decimal max_u32 g) (numeral decimal max_u32 l)
category_of (n ∷ i ∷ g ∷ l ∷ m ∷ r) = wrong category_fields

unfoldable pub body : List ℕ → List ℕ
unfolding is_white
body cs = trim_end is_white (trim_start is_white (until is_hash cs))

unfoldable pub body_line : List ℕ → Found
unfolding range_of category_of is_white is_sep
body_line [] = found blank
body_line (c ∷ cs) = cond (begins0x (c ∷ cs)) (range_of (words is_white (c ∷ cs))) (category_of (words is_sep (c ∷ cs)))

-- the line that the characters say, or what is wrong with it by itself
unfoldable pub line_of : List ℕ → Found
unfolding body body_line
line_of cs = body_line (body cs)

-- ---- the limits, with the reading so far

pub data Step : Type 0 where
  go_on : Reading → Step
  stop : ℕ → Step

pub data Interned : Type 0 where
  names_are : List (List ℕ) → Interned
  full_at : ℕ → Interned

unfoldable pub intern_one : List (List ℕ) → List ℕ → Interned
unfolding name_bytes
intern_one names n =
    cond (any (same n) names) (names_are names)
    (cond (leb max_categories (length names)) (full_at categories_full)
    (cond (ltb max_name_bytes (name_bytes names + length n)) (full_at name_bytes_full)
    (names_are (names ++ (n ∷ [])))))

abbrev pub after_one : Interned → (List (List ℕ) → Interned) → Interned
after_one (full_at n) go = full_at n
after_one (names_are names) go = go names

unfoldable pub intern : List (List ℕ) → List (List ℕ) → Interned
unfolding intern_one
intern [] names = names_are names
intern (n ∷ ns) names = after_one (intern_one names n) (λ m. intern ns m)

abbrev pub add_range : Interned → Reading → ℕ → ℕ → List (List ℕ) → Step
add_range (full_at n) r lower upper ns = stop n
add_range (names_are names) r lower upper ns =
    go_on (record {
      names = names;
      definitions = r.definitions;
      ranges = r.ranges ++ (record { lower = lower; upper = upper; categories = map (λ n. position_of same n names) ns } ∷ []);
    })

abbrev pub add_definition : Interned → Reading → Definition → Step
add_definition (full_at n) r d = stop n
add_definition (names_are names) r d =
    go_on (record { names = names; definitions = r.definitions ++ (d ∷ []); ranges = r.ranges })

unfoldable pub enter : Reading → Line → Step
unfolding intern utf8 references
enter r blank = go_on r
enter r (category name invoke group len) =
    cond (leb max_category_lines (length r.definitions)) (stop category_lines_full)
    (add_definition (intern (utf8 name ∷ []) r.names) r (record { invoke = invoke; group = group; len = len }))
enter r (range lower upper names) =
    cond (leb max_ranges (length r.ranges)) (stop ranges_full)
    (cond (ltb max_references (references r.ranges + length names)) (stop references_full)
    (add_range (intern (map utf8 names) r.names) r lower upper (map utf8 names)))

abbrev pub enter_found : Reading → Found → Step
enter_found r (wrong n) = stop n
enter_found r (found l) = enter r l

-- the reading with this line, or the line's refusal
unfoldable pub verdict : Reading → List ℕ → Step
unfolding line_of enter
verdict r cs = enter_found r (line_of cs)

abbrev pub after_line : ℕ → Step → (Reading → Answer) → Answer
after_line k (stop n) go = refused n k
after_line k (go_on r) go = go r

unfoldable pub read_lines : ℕ → List (List ℕ) → Reading → Answer
unfolding verdict
read_lines k [] r = accepted r
read_lines k (cs ∷ css) r = after_line k (verdict r cs) (λ r'. read_lines (suc k) css r')

unfoldable pub nothing_read : Reading
nothing_read = record { names = []; definitions = []; ranges = [] }

unfoldable pub read_chars : Text → Answer
unfolding read_lines nothing_read
read_chars (broken at) = refused text_ill_formed at
read_chars (chars cs) = read_lines 1 (cut is_lf cs) nothing_read

unfoldable pub read_text : List ℕ → Answer
unfolding read_chars decode
read_text bytes = cond (ltb max_text_bytes (length bytes)) (refused text_long 0) (read_chars (decode bytes))
