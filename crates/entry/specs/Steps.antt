-- What entering names and lines promises, on bytes.
-- Assumes nothing.
use Rattle.std.specs.Prelude.{ℕ, ◌+◌, ◌*◌, ◌≤◌, ◌≡◌, true, cond, List, [], ◌∷◌, map, leb, ltb, length, take, drop}
use Rattle.paper.specs.Sizes.{max_categories, max_name_bytes, max_category_lines, max_ranges, max_references}
use Rattle.paper.specs.Refusals.{ranges_full, references_full, category_lines_full}
use Rattle.paper.specs.Lists.{same, position_of, joined}
use Rattle.paper.specs.CharDef.Line.{Line, blank, category, range}
use Rattle.paper.specs.CharDef.Reading.{Reading, references}
use Rattle.paper.specs.Computed.ReadText.{Found, found, wrong, Step, go_on, stop, intern, names_are, full_at, add_range, add_definition}
use Rattle.paper.specs.Numbers.Bytes.{le}
use Rattle.paper.specs.Tables.Layout.{definition_bytes, range_table, reference_table, definition_size, range_slot_size, reference_size}
use Rattle.paper.specs.Tables.Lent.{patch, padded}
use Rattle.paper.specs.declared.Counts.{Counts}
use Rattle.scan.specs.Marks.{words_bytes, gap_width}
use Rattle.slot.specs.Laid.{Laid}
use Rattle.std.specs.Prelude.{Err, Ok, Result}

-- a length, where a parameter is named so
abbrev pub long : List ℕ → ℕ
long l = length l

-- the words of a range line's rest
unfoldable pub words_of : List ℕ → List (List ℕ)
words_of s = words_bytes (gap_width true) s

-- a line entered, its names being bytes
unfoldable pub enter_bytes : Reading → Line → Step
unfolding intern references
enter_bytes r blank = go_on r
enter_bytes r (category name invoke group len) =
    cond (leb max_category_lines (length r.definitions)) (stop category_lines_full)
    (add_definition (intern (name ∷ []) r.names) r (record { invoke = invoke; group = group; len = len }))
enter_bytes r (range lower upper names) =
    cond (leb max_ranges (length r.ranges)) (stop ranges_full)
    (cond (ltb max_references (references r.ranges + length names)) (stop references_full)
    (add_range (intern names r.names) r lower upper names))

abbrev pub enter_found_bytes : Reading → Found → Step
enter_found_bytes r (wrong n) = stop n
enter_found_bytes r (found l) = enter_bytes r l

-- ---- names

-- names that stand in a part of the text can be entered, and their numbers have room behind the others
pub record Ready (store slots refs text : List ℕ) (c : Counts) (start end : ℕ) : Type 0 where
  pub store_long : max_name_bytes ≤ length store
  pub slots_long : max_categories ≤ length slots
  pub names : List (List ℕ)
  pub laid : Laid names store slots c.categories c.bytes
  pub order : start ≤ end
  pub within : end ≤ length text
  pub room : reference_size * (c.references + length (words_of (drop start (take end text)))) ≤ length refs
  pub few : c.references + length (words_of (drop start (take end text))) ≤ max_references

-- all these were entered, and their numbers stand in the reference table
pub record AllIn (names : List (List ℕ)) (ws : List (List ℕ)) (c : Counts) (refs₀ store slots refs : List ℕ) (d : Counts) : Type 0 where
  pub now_names : List (List ℕ)
  pub entered : intern ws names ≡ names_are now_names
  pub laid_now : Laid now_names store slots d.categories d.bytes
  pub references_are : d.references ≡ c.references + length ws
  pub definitions_stay : d.definitions ≡ c.definitions
  pub put : refs ≡ patch (reference_size * c.references) (joined (map (le reference_size) (map (λ w. position_of same w now_names) ws))) refs₀

abbrev pub EntersAll : (store₀ slots₀ refs₀ : List ℕ) (c : Counts) (ws : List (List ℕ)) (store₁ slots₁ refs₁ : List ℕ) → Result Counts ℕ → Type 0
EntersAll store₀ slots₀ refs₀ c ws store₁ slots₁ refs₁ (Ok d) =
    (names : List (List ℕ)) → Laid names store₀ slots₀ c.categories c.bytes → AllIn names ws c refs₀ store₁ slots₁ refs₁ d
EntersAll store₀ slots₀ refs₀ c ws store₁ slots₁ refs₁ (Err k) =
    (names : List (List ℕ)) → Laid names store₀ slots₀ c.categories c.bytes → intern ws names ≡ full_at k

-- ---- lines

-- what is lent while a text is read
pub record Memory : Type 0 where
  pub store : List ℕ
  pub slots : List ℕ
  pub definitions : List ℕ
  pub ranges : List ℕ
  pub references : List ℕ

-- it holds this reading, and zero after it
pub record Held (r : Reading) (m : Memory) (c : Counts) : Type 0 where
  pub names : Laid r.names m.store m.slots c.categories c.bytes
  pub definitions_few : c.definitions ≤ max_category_lines
  pub definitions_are : c.definitions ≡ length r.definitions
  pub in_definitions : m.definitions ≡ padded (definition_size * max_category_lines) (joined (map definition_bytes r.definitions))
  pub ranges_few : c.ranges ≤ max_ranges
  pub ranges_are : c.ranges ≡ length r.ranges
  pub in_ranges : m.ranges ≡ padded (range_slot_size * max_ranges) (range_table r.ranges)
  pub references_few : c.references ≤ max_references
  pub references_are : c.references ≡ references r.ranges
  pub in_references : m.references ≡ padded (reference_size * max_references) (reference_table r.ranges)

-- it holds some reading, and has the sizes
pub record Working (m : Memory) (c : Counts) : Type 0 where
  pub reading : Reading
  pub held : Held reading m c
  pub store_long : length m.store ≡ max_name_bytes
  pub slots_long : length m.slots ≡ max_categories
  pub definitions_long : length m.definitions ≡ definition_size * max_category_lines
  pub ranges_long : length m.ranges ≡ range_slot_size * max_ranges
  pub references_long : length m.references ≡ reference_size * max_references

pub record Went (s : Step) (m : Memory) (c : Counts) : Type 0 where
  pub after : Reading
  pub goes : s ≡ go_on after
  pub held : Held after m c

-- a line was entered as the paper enters it
abbrev pub Stepped : (Reading → Step) → Memory → Counts → Memory → Result Counts ℕ → Type 0
Stepped f m c m' (Ok d) = (r : Reading) → Held r m c → Went (f r) m' d
Stepped f m c m' (Err k) = (r : Reading) → Held r m c → f r ≡ stop k
