-- No place that a pack is refused at lies beyond 324,150 bits. Idea: each field leaves room for all that can still follow it; the limits bound the whole.
-- Assumes nothing.
use Prim.Native.Nat.{ℕ, zero, suc, ◌+◌, ◌-◌, ◌*◌, ◌≤◌, ◌<◌}
use native.Mathlib.Nat.{le_refl}
use native.Mathlib.Omega.{arith}
use mathlib.Core.Path.{◌≡◌, ap, ◌∙◌}
use mathlib.Core.List.{List, [], ◌∷◌, ◌++◌, append-nil}
use lib.ListN.{length, length-append}
use Rattle.paper.specs.Sizes.{max_categories, max_name_bytes, max_category_lines, max_ranges, max_references}
use Rattle.paper.specs.CharDef.Reading.{name_bytes}
use Rattle.paper.specs.Pack.Fields.{version_width, categories_width, lines_width, ranges_width, references_width, name_length_width, byte_width, flag_width, length_width, bound_width, count_width, number_width, definition_width, range_width, Field, field, bits, spell, bytes_of}
use Rattle.paper.specs.Pack.Broken.{Head, Due, version_field, categories_field, lines_field, ranges_field, references_field, name_length_field, name_field, invoke_field, group_field, length_field, lower_field, upper_field, count_field, number_field, Next, due, end, width, Keeps, ranges_left, numbers_left, definitions_left, names_left, after, Begins, nothing_yet, one_more, Reaches, Broken, ends, breaks, adds_up_wrong, left_over}
use Rattle.paper.proofs.Pack.Bits.{spell_append, bytes_of_length}
use Rattle.paper.proofs.Pack.Size.{bits_length}

-- ---- the bits that can still follow

ranges_bits_lem : Head → ℕ → ℕ → ℕ
ranges_bits_lem h k u = range_width * k + number_width * (h.references - u)

definitions_bits_lem : Head → ℕ → ℕ
definitions_bits_lem h k = definition_width * k + (range_width * h.ranges + number_width * h.references)

names_bits_lem : Head → ℕ → ℕ → ℕ
names_bits_lem h k used = name_length_width * k + byte_width * (max_name_bytes - used) + (definition_width * h.lines + (range_width * h.ranges + number_width * h.references))

-- behind c categories, l lines and g ranges of the head
counted : ℕ → ℕ → ℕ → ℕ
counted c l g = name_length_width * c + byte_width * max_name_bytes + (definition_width * l + (range_width * g + number_width * max_references))

of_due : Due → ℕ
of_due version_field = version_width + categories_width + lines_width + ranges_width + references_width + counted max_categories max_category_lines max_ranges
of_due categories_field = categories_width + lines_width + ranges_width + references_width + counted max_categories max_category_lines max_ranges
of_due (lines_field c) = lines_width + ranges_width + references_width + counted c max_category_lines max_ranges
of_due (ranges_field c l) = ranges_width + references_width + counted c l max_ranges
of_due (references_field c l g) = references_width + counted c l g
of_due (name_length_field h k ns) = names_bits_lem h (suc k) (name_bytes ns)
of_due (name_field h k ns n) = byte_width * n + names_bits_lem h k (name_bytes ns + n)
of_due (invoke_field h k) = definitions_bits_lem h (suc k)
of_due (group_field h k) = flag_width + length_width + definitions_bits_lem h k
of_due (length_field h k) = length_width + definitions_bits_lem h k
of_due (lower_field h k u) = ranges_bits_lem h (suc k) u
of_due (upper_field h k u) = bound_width + count_width + ranges_bits_lem h k u
of_due (count_field h k u) = count_width + ranges_bits_lem h k u
of_due (number_field h k u j) = number_width * suc j + ranges_bits_lem h k u

most : Next → ℕ
most (due x) = of_due x
most (end n total) = 0

module _ (h : Head) where
  ranges_most : (k u : ℕ) → most (ranges_left h k u) ≤ ranges_bits_lem h k u
  unfolding most of_due ranges_bits_lem
  ranges_most zero u = omega arith
  ranges_most (suc k) u = le_refl _

  numbers_most : (k u j : ℕ) → most (numbers_left h k u j) ≤ number_width * j + ranges_bits_lem h k u
  unfolding most of_due
  numbers_most k u zero = let r = ranges_most k u in omega arith
  numbers_most k u (suc j) = le_refl _

  definitions_most : (k : ℕ) → most (definitions_left h k) ≤ definitions_bits_lem h k
  unfolding most of_due definitions_bits_lem ranges_bits_lem
  definitions_most zero = let r = ranges_most h.ranges 0 in omega arith
  definitions_most (suc k) = le_refl _

  names_most : (k : ℕ) (ns : List (List ℕ)) → most (names_left h k ns) ≤ names_bits_lem h k (name_bytes ns)
  unfolding most of_due names_bits_lem definitions_bits_lem
  names_most zero ns = let r = definitions_most h.lines in omega arith
  names_most (suc k) ns = le_refl _

named_bytes : (n v : ℕ) (ns : List (List ℕ)) → name_bytes (bytes_of n v ∷ ns) ≡ n + name_bytes ns
unfolding name_bytes
named_bytes n v ns = ap (λ k. k + name_bytes ns) (bytes_of_length n v)

-- a field and what can follow it is no more than could
step : (x : Due) (v : ℕ) → Keeps x v → width x + most (after x v) ≤ of_due x
unfolding most of_due names_bits_lem definitions_bits_lem ranges_bits_lem counted
step version_field v k = le_refl _
step categories_field c k = omega arith
step (lines_field c) l k = omega arith
step (ranges_field c l) g k = omega arith
step (references_field c l g) n k =
    let r = names_most (record { categories = c; lines = l; ranges = g; references = n }) c [] in omega arith
step (name_length_field h k ns) n (one, fits) = omega arith
step (name_field h k ns n) v w =
    let r = names_most h k (bytes_of n v ∷ ns) in
    let e = named_bytes n v ns in
    omega arith
step (invoke_field h k) v w = omega arith
step (group_field h k) v w = omega arith
step (length_field h k) v w = let r = definitions_most h k in omega arith
step (lower_field h k u) b w = omega arith
step (upper_field h k u) b w = omega arith
step (count_field h k u) n w = let r = numbers_most h k (u + n) n in omega arith
step (number_field h k u j) c w = let r = numbers_most h k u j in omega arith

-- ---- fields that begin a pack

one_longer : (fs : List Field) (w v : ℕ) → length (spell (fs ++ (field w v ∷ []))) ≡ length (spell fs) + w
one_longer fs w v =
    ap length (spell_append fs (field w v ∷ [])) ∙ length-append (spell fs) (spell (field w v ∷ []))
    ∙ ap (λ l. length (spell fs) + length l) (append-nil (bits w v)) ∙ ap (λ n. length (spell fs) + n) (bits_length w v)

begins_near : {fs : List Field} {x : Next} → Begins fs x → length (spell fs) + most x ≤ of_due version_field
unfolding most of_due counted
begins_near nothing_yet = le_refl _
begins_near (one_more {fs = fs} {x = x} v b small k) =
    let h = begins_near b in
    let s = step x v k in
    let e = one_longer fs (width x) v in
    omega arith

reaches_near : {pack : List ℕ} {place : ℕ} {x : Next} {rest : List ℕ} → Reaches pack place x rest → place ≤ of_due version_field
reaches_near r = let h = begins_near r.begins in let e = r.starts in omega arith

pub broken_near : {pack : List ℕ} {n place : ℕ} → Broken pack n place → place < 0x1_0000_0000
unfolding of_due counted
broken_near (ends r s) = let h = reaches_near r in omega arith
broken_near (breaks v rest r s k) = let h = reaches_near r in omega arith
broken_near (adds_up_wrong r k) = let h = reaches_near r in omega arith
broken_near (left_over r f) = let h = reaches_near r in omega arith
