-- "The pack" and refusals 18 to 21, "given exactly when": the first broken field in reading order, and the bit at which it starts.
-- A pack is one field behind another. Which field is next, how wide it is and which rule it has follows from the fields before it.
-- Assumes nothing.
use Rattle.std.specs.Prelude.{ℕ, zero, suc, ◌+◌, ◌*◌, ◌^◌, ◌≤◌, ◌<◌, ◌≡◌, ◌≢◌, not, List, [], ◌∷◌, ◌++◌, T, eqb, length}
use Rattle.paper.specs.Sizes.{max_categories, max_name_bytes, max_category_lines, max_ranges, max_references}
use Rattle.paper.specs.Refusals.{pack_version, pack_ends, pack_rule, pack_left_over}
use Rattle.paper.specs.Lists.{all, any, same}
use Rattle.paper.specs.Text.Scalar.{WellFormed}
use Rattle.paper.specs.CharDef.Reading.{Reading, name_bytes}
use Rattle.paper.specs.Pack.Fields.{version, version_width, categories_width, lines_width, ranges_width, references_width, name_length_width, byte_width, flag_width, length_width, bound_width, count_width, number_width, Field, field, bits, spell, bits_of, bytes_of, pack_bytes}
use Rattle.paper.specs.Pack.Rules.{is_bound, PackRules}

-- ---- fields in order

-- what the head says
pub record Head : Type 0 where
  pub categories : ℕ
  pub lines : ℕ
  pub ranges : ℕ
  pub references : ℕ

-- a field that is due, with what the fields before it have said as far as it matters; so many entries of its kind are `left` behind its own
pub data Due : Type 0 where
  -- head
  version_field : Due
  categories_field : Due
  lines_field : (categories : ℕ) → Due
  ranges_field : (categories lines : ℕ) → Due
  references_field : (categories lines ranges : ℕ) → Due
  -- each category, behind these names, the nearest first: its length, then its bytes
  name_length_field : Head → (left : ℕ) → (names : List (List ℕ)) → Due
  name_field : Head → (left : ℕ) → (names : List (List ℕ)) → (len : ℕ) → Due
  -- each definition
  invoke_field : Head → (left : ℕ) → Due
  group_field : Head → (left : ℕ) → Due
  length_field : Head → (left : ℕ) → Due
  -- each range, behind ranges with so many references; then each of its category numbers, with so many `more`, the count being among the references
  lower_field : Head → (left references : ℕ) → Due
  upper_field : Head → (left references : ℕ) → Due
  count_field : Head → (left references : ℕ) → Due
  number_field : Head → (left references : ℕ) → (more : ℕ) → Due

-- a field is next; or there is none, behind ranges with so many references in all where the head says `total`
pub data Next : Type 0 where
  due : Due → Next
  end : (references total : ℕ) → Next

-- below, c, l and g are numbers of categories, category lines and ranges, h the head, k `left`, ns `names`, u `references` and j `more`

-- a field's width in bits, and the number by which breaking its rule is refused
abbrev pub form : Due → ℕ × ℕ
form version_field = (version_width, pack_version)
form categories_field = (categories_width, pack_rule)
form (lines_field c) = (lines_width, pack_rule)
form (ranges_field c l) = (ranges_width, pack_rule)
form (references_field c l g) = (references_width, pack_rule)
form (name_length_field h k ns) = (name_length_width, pack_rule)
form (name_field h k ns n) = (byte_width * n, pack_rule)
form (invoke_field h k) = (flag_width, pack_rule)
form (group_field h k) = (flag_width, pack_rule)
form (length_field h k) = (length_width, pack_rule)
form (lower_field h k u) = (bound_width, pack_rule)
form (upper_field h k u) = (bound_width, pack_rule)
form (count_field h k u) = (count_width, pack_rule)
form (number_field h k u j) = (number_width, pack_rule)

abbrev pub width : Due → ℕ
width x = (form x).0

abbrev pub refusal : Due → ℕ
refusal x = (form x).1

-- a value keeps its field's rule
abbrev pub Keeps : Due → ℕ → Type 0
Keeps version_field v = v ≡ version
Keeps categories_field c = c ≤ max_categories
Keeps (lines_field c) l = l ≤ max_category_lines
Keeps (ranges_field c l) g = g ≤ max_ranges
Keeps (references_field c l g) n = n ≤ max_references
Keeps (name_length_field h k ns) n = (1 ≤ n) × (name_bytes ns + n ≤ max_name_bytes)
Keeps (name_field h k ns n) v = WellFormed (bytes_of n v) × T (not (any (same (bytes_of n v)) ns))
Keeps (invoke_field h k) v = Unit {0}
Keeps (group_field h k) v = Unit {0}
Keeps (length_field h k) v = Unit {0}
Keeps (lower_field h k u) b = T (is_bound b)
Keeps (upper_field h k u) b = T (is_bound b)
Keeps (count_field h k u) n = u + n ≤ h.references
Keeps (number_field h k u j) c = c < h.categories

-- ---- what stands behind a field

-- the next entry, where so many are left
abbrev pub ranges_left : Head → ℕ → ℕ → Next
ranges_left h zero u = end u h.references
ranges_left h (suc k) u = due (lower_field h k u)

abbrev pub numbers_left : Head → ℕ → ℕ → ℕ → Next
numbers_left h k u zero = ranges_left h k u
numbers_left h k u (suc j) = due (number_field h k u j)

abbrev pub definitions_left : Head → ℕ → Next
definitions_left h zero = ranges_left h h.ranges 0
definitions_left h (suc k) = due (invoke_field h k)

abbrev pub names_left : Head → ℕ → List (List ℕ) → Next
names_left h zero ns = definitions_left h h.lines
names_left h (suc k) ns = due (name_length_field h k ns)

-- behind a field with this value
abbrev pub after : Due → ℕ → Next
after version_field v = due categories_field
after categories_field c = due (lines_field c)
after (lines_field c) l = due (ranges_field c l)
after (ranges_field c l) g = due (references_field c l g)
after (references_field c l g) n = names_left (record { categories = c; lines = l; ranges = g; references = n }) c []
after (name_length_field h k ns) n = due (name_field h k ns n)
after (name_field h k ns n) v = names_left h k (bytes_of n v ∷ ns)
after (invoke_field h k) v = due (group_field h k)
after (group_field h k) v = due (length_field h k)
after (length_field h k) v = definitions_left h k
after (lower_field h k u) b = due (upper_field h k u)
after (upper_field h k u) b = due (count_field h k u)
after (count_field h k u) n = numbers_left h k (u + n) n
after (number_field h k u j) c = numbers_left h k u j

-- fields that keep their rules, and what is next behind them
pub data Begins : List Field → Next → Type 0 where
  nothing_yet : Begins [] (due version_field)
  one_more : {fs : List Field} {x : Due} (v : ℕ) → Begins fs (due x) → v < 2 ^ width x → Keeps x v
      → Begins (fs ++ (field (width x) v ∷ [])) (after x v)

-- ---- the first broken field

-- the bits of a pack up to a place are fields that keep their rules; there x is next, and the rest stands there
pub record Reaches (pack : List ℕ) (place : ℕ) (x : Next) (rest : List ℕ) : Type 0 where
  pub fields : List Field
  pub begins : Begins fields x
  pub whole : bits_of pack ≡ spell fields ++ rest
  pub starts : length (spell fields) ≡ place

-- zero bits fill the last byte, and nothing stands behind them
pub record Fills (rest : List ℕ) : Type 0 where
  pub few : length rest < byte_width
  pub zeros : T (all (eqb 0) rest)

-- the first broken field, by its number, at its start
pub data Broken (pack : List ℕ) : ℕ → ℕ → Type 0 where
  -- 19: pack ends inside a field
  ends : {place : ℕ} {x : Due} {rest : List ℕ} → Reaches pack place (due x) rest → length rest < width x → Broken pack pack_ends place
  -- 18: pack version is not 1; 20: pack field breaks its rule
  breaks : {place : ℕ} {x : Due} (v : ℕ) (rest : List ℕ) → Reaches pack place (due x) (bits (width x) v ++ rest) → v < 2 ^ width x
      → (Keeps x v → ⊥) → Broken pack (refusal x) place
  -- a wrong reference total is 20, before any 21, placed after the last range
  adds_up_wrong : {place n total : ℕ} {rest : List ℕ} → Reaches pack place (end n total) rest → n ≢ total → Broken pack pack_rule place
  -- 21: pad bit set or bytes left over
  left_over : {place total : ℕ} {rest : List ℕ} → Reaches pack place (end total total) rest → (Fills rest → ⊥) → Broken pack pack_left_over place

-- ---- every pack is the one or the other

-- it is the pack of a reading that keeps the rules, and of no other, and no field is broken
pub record OnePack (pack : List ℕ) (r : Reading) : Type 0 where
  pub rules : PackRules r
  pub written : pack_bytes r ≡ pack
  pub only : (q : Reading) → PackRules q → pack_bytes q ≡ pack → q ≡ r
  pub unbroken : (n place : ℕ) → Broken pack n place → ⊥

-- it is broken at one place by one number, and no reading that keeps the rules has this pack
pub record OneBroken (pack : List ℕ) (n place : ℕ) : Type 0 where
  pub broken : Broken pack n place
  pub only : (m at : ℕ) → Broken pack m at → (m ≡ n) × (at ≡ place)
  pub no_pack : (q : Reading) → PackRules q → pack_bytes q ≡ pack → ⊥
