-- The answer to a pack, computed: accepted with its reading, or refused with a number and the bit offset of a field's start.
--
-- Fields are read one after another, most significant bit first, and the first broken one is named:
--   19 where fewer bits are left than the field has; this comes before the field's own rule, since its value is not there.
--   Version, 8 bits: 18 where it is not 1.
--   Head counts, 10, 10, 12 and 14 bits: 20 at a count over its limit, 512, 512, 2,048 or 8,192.
--   A name's length, 15 bits: 20 at it where it is 0, or takes the name bytes so far over 16,384.
--   A name's bytes, one field of 8 bits each: 20 at the first of them where they are ill-formed or an earlier name's.
--   A definition's invoke, group and length, 1, 1 and 32 bits, break no rule.
--   A bound, 16 bits: 20 at it where it is D800 to DFFF, FEFF or FFFE.
--   A range's count, 14 bits: 20 at it where it takes the references so far over the head's total, itself within 8,192.
--   A category number, 9 bits: 20 at it where it is not below the number of categories.
--   Behind the last range: 20 where the references fall short of the head's total, a field of no bits.
--   The padding with all after it, one field: 21 where a bit is set or eight bits or more are left.
-- Assumes nothing.
use Rattle.std.specs.Prelude.{ℕ, zero, suc, ◌+◌, ◌*◌, Bool, true, not, cond, ◌&&◌, List, [], ◌∷◌, leb, ltb, eqb, length}
use Rattle.paper.specs.Sizes.{max_categories, max_name_bytes, max_category_lines, max_ranges, max_references}
use Rattle.paper.specs.Refusals.{pack_version, pack_ends, pack_rule, pack_left_over}
use Rattle.paper.specs.Lists.{all, any, same}
use Rattle.paper.specs.CharDef.Reading.{Definition, Range, Reading, references, Answer, accepted, refused}
use Rattle.paper.specs.Pack.Fields.{version, version_width, categories_width, lines_width, ranges_width, references_width, name_length_width, byte_width, flag_width, length_width, bound_width, count_width, number_width, bits_of}
use Rattle.paper.specs.Pack.Rules.{is_bound}
use Rattle.paper.specs.Computed.Rules.{formed}

infixr 20 ◌▹◌
-- ---- a field's bits

-- what the first bits say, and the bits behind them; or there are too few
pub data Taken (A : Type 0) : Type 0 where
  short : Taken A
  taken : A → List ℕ → Taken A

-- the number that w bits spell, after `high`
abbrev pub take_number : ℕ → ℕ → List ℕ → Taken ℕ
take_number zero high s = taken high s
take_number (suc w) high [] = short
take_number (suc w) high (b ∷ s) = take_number w (high * 2 + b) s

abbrev pub cons_taken : ℕ → Taken (List ℕ) → Taken (List ℕ)
cons_taken b short = short
cons_taken b (taken bs s) = taken (b ∷ bs) s

abbrev pub after_byte : Taken ℕ → (List ℕ → Taken (List ℕ)) → Taken (List ℕ)
after_byte short go = short
after_byte (taken b s) go = cons_taken b (go s)

abbrev pub take_bytes : ℕ → List ℕ → Taken (List ℕ)
take_bytes zero s = taken [] s
take_bytes (suc n) s = after_byte (take_number byte_width 0 s) (λ t. take_bytes n t)

-- ---- readers

-- a value with the place behind it and the bits left, or the refusal's number and place
pub data FieldStep (A : Type 0) : Type 0 where
  gave : A → ℕ → List ℕ → FieldStep A
  broke : ℕ → ℕ → FieldStep A

-- from a place and the bits that stand there
abbrev pub Reader : Type 0 → Type 0
Reader A = ℕ → List ℕ → FieldStep A

unfoldable pub after_step : {A B : Type 0} → FieldStep A → (A → Reader B) → FieldStep B
after_step (broke n at) go = broke n at
after_step (gave a at s) go = go a at s

-- one reader, and what follows it from its value
unfoldable pub ◌▹◌ : {A B : Type 0} → Reader A → (A → Reader B) → Reader B
unfolding after_step
◌▹◌ p go at s = after_step (p at s) go

unfoldable pub give : {A : Type 0} → A → Reader A
give a at s = gave a at s

unfoldable pub settle : {A : Type 0} → ℕ → ℕ → ℕ → (A → Bool) → Taken A → FieldStep A
settle n w at ok short = broke pack_ends at
settle n w at ok (taken a s) = cond (ok a) (gave a (at + w) s) (broke n at)

-- a field of w bits, refused by n where it breaks its rule
unfoldable pub field_or : ℕ → ℕ → (ℕ → Bool) → Reader ℕ
unfolding settle
field_or n w ok at s = settle n w at ok (take_number w 0 s)

abbrev pub number : ℕ → (ℕ → Bool) → Reader ℕ
number w ok = field_or pack_rule w ok

abbrev pub free : ℕ → Bool
free n = true

-- n bytes as one field
unfoldable pub bytes_field : ℕ → (List ℕ → Bool) → Reader (List ℕ)
unfolding settle
bytes_field n ok at s = settle pack_rule (byte_width * n) at ok (take_bytes n s)

-- a rule on what was read
unfoldable pub demand : Bool → Reader (Unit {0})
demand b at s = cond b (gave tt at s) (broke pack_rule at)

-- zero bits, fewer than eight, and nothing behind them
abbrev pub is_padding : List ℕ → Bool
is_padding s = ltb (length s) byte_width && all (eqb 0) s

unfoldable pub padding : Reader (Unit {0})
padding at s = cond (is_padding s) (gave tt at []) (broke pack_left_over at)

unfoldable pub many : {A : Type 0} → ℕ → Reader A → Reader (List A)
many zero p = give []
many (suc n) p =
    p ▹ λ x.
    many n p ▹ λ xs.
    give (x ∷ xs)

-- ---- the parts of a pack

-- after names of `used` bytes in all, those in `before`
abbrev pub length_rule : ℕ → ℕ → Bool
length_rule used n = ltb 0 n && leb (used + n) max_name_bytes

unfoldable pub name_rule : List (List ℕ) → List ℕ → Bool
name_rule before n = formed n && not (any (same n) before)

unfoldable pub read_name : ℕ → List (List ℕ) → Reader (List ℕ)
read_name used before =
    number name_length_width (length_rule used) ▹ λ n.
    bytes_field n (name_rule before)

unfoldable pub read_names : ℕ → ℕ → List (List ℕ) → Reader (List (List ℕ))
read_names zero used before = give []
read_names (suc k) used before =
    read_name used before ▹ λ name.
    read_names k (used + length name) (name ∷ before) ▹ λ names.
    give (name ∷ names)

unfoldable pub read_definition : Reader Definition
read_definition =
    number flag_width free ▹ λ invoke.
    number flag_width free ▹ λ group.
    number length_width free ▹ λ len.
    give (record { invoke = eqb invoke 1; group = eqb group 1; len = len })

-- with `known` categories and `total` references, `used` of them so far
abbrev pub count_rule : ℕ → ℕ → ℕ → Bool
count_rule total used n = leb (used + n) total

unfoldable pub read_range : ℕ → ℕ → ℕ → Reader Range
read_range known total used =
    number bound_width is_bound ▹ λ lower.
    number bound_width is_bound ▹ λ upper.
    number count_width (count_rule total used) ▹ λ count.
    many count (number number_width (λ c. ltb c known)) ▹ λ categories.
    give (record { lower = lower; upper = upper; categories = categories })

unfoldable pub read_ranges : ℕ → ℕ → ℕ → ℕ → Reader (List Range)
read_ranges zero known total used = give []
read_ranges (suc k) known total used =
    read_range known total used ▹ λ g.
    read_ranges k known total (used + length g.categories) ▹ λ gs.
    give (g ∷ gs)

abbrev pub up_to : ℕ → ℕ → Bool
up_to limit n = leb n limit

unfoldable pub read_body : ℕ → ℕ → ℕ → ℕ → Reader Reading
read_body categories lines ranges total =
    read_names categories 0 [] ▹ λ names.
    many lines read_definition ▹ λ definitions.
    read_ranges ranges categories total 0 ▹ λ gs.
    demand (eqb (references gs) total) ▹ λ whole.
    give (record { names = names; definitions = definitions; ranges = gs })

-- what stands behind the version
unfoldable pub read_counted : Reader Reading
read_counted =
    number categories_width (up_to max_categories) ▹ λ categories.
    number lines_width (up_to max_category_lines) ▹ λ lines.
    number ranges_width (up_to max_ranges) ▹ λ ranges.
    number references_width (up_to max_references) ▹ λ total.
    read_body categories lines ranges total

unfoldable pub read_fields : Reader Reading
read_fields =
    field_or pack_version version_width (eqb version) ▹ λ one.
    read_counted

unfoldable pub read_all : Reader Reading
read_all =
    read_fields ▹ λ r.
    padding ▹ λ end.
    give r

abbrev pub answer : FieldStep Reading → Answer
answer (gave r at s) = accepted r
answer (broke n at) = refused n at

unfoldable pub read_pack : List ℕ → Answer
unfolding read_all read_fields read_counted read_body read_names read_name name_rule read_definition read_ranges read_range many padding demand bytes_field field_or give ◌▹◌ formed is_bound references
read_pack bytes = answer (read_all 0 (bits_of bytes))
