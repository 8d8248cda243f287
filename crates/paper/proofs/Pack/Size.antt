-- The category numbers of a reading of lines are known, and no pack exceeds 40,519 bytes.
-- Assumes nothing.
use Prim.Native.Nat.{ℕ, zero, suc, ◌+◌, ◌*◌, ◌/◌, ◌≤◌}
use native.Mathlib.Omega.{arith}
use mathlib.Core.Path.{◌≡◌, refl, ap, ap₂, ◌∙◌}
use mathlib.Core.Bool.{Bool, true}
use mathlib.Core.List.{List, [], ◌∷◌, ◌++◌, map}
use lib.Dec.{T, ltb}
use lib.ListN.{length, length-append}
use mir.Facts.{and_yes, yes_and, yes_ltb}
use Rattle.paper.specs.Sizes.{max_pack_bytes}
use Rattle.paper.specs.Lists.{all, any, joined, sum, first_seen, position_of, same}
use Rattle.paper.specs.Text.Scalar.{utf8}
use Rattle.paper.specs.CharDef.Line.{Line, blank, category, range}
use Rattle.paper.specs.CharDef.Reading.{Definition, Range, Reading, names_of, ranges_of, reading_of, name_bytes, references, Within}
use Rattle.paper.specs.Pack.Fields.{name_length_width, byte_width, number_width, head_width, definition_width, range_width, Field, field, head, name_fields, definition_fields, range_fields, bits, field_bits, pack_bits, in_bytes, pack_bytes}
use Rattle.paper.specs.Pack.Rules.{numbered}
use Rattle.paper.proofs.Lists.Facts.{all_append, all_left, all_right}
use Rattle.paper.proofs.Lists.Seen.{same_eq, same_refl, seen_has}
use Rattle.paper.proofs.Rows.Sizes.{position_below}

known : List (List ℕ) → Range → Bool
known ns g = all (λ c. ltb c (length ns)) g.categories

positions_known : (ns xs : List (List ℕ)) → T (all (λ n. any (same n) ns) xs) → T (all (λ c. ltb c (length ns)) (map (λ n. position_of same n ns) xs))
positions_known ns [] t = tt
positions_known ns (x ∷ xs) t =
    let h = and_yes (any (same x) ns) (all (λ n. any (same n) ns) xs) t in
    yes_and (ltb (position_of same x ns) (length ns)) _ (yes_ltb (position_below x ns h.0)) (positions_known ns xs h.1)

line_known : (ns : List (List ℕ)) (l : Line) → T (all (λ n. any (same n) ns) (names_of l)) → T (all (known ns) (ranges_of ns l))
unfolding known names_of ranges_of
line_known ns blank t = tt
line_known ns (category name i g len) t = tt
line_known ns (range lower upper names) t = yes_and (all (λ c. ltb c (length ns)) (map (λ n. position_of same n ns) (map utf8 names))) true (positions_known ns (map utf8 names) t) tt

lines_known : (ns : List (List ℕ)) (ls : List Line) → T (all (λ n. any (same n) ns) (joined (map names_of ls))) → T (all (known ns) (joined (map (ranges_of ns) ls)))
lines_known ns [] t = tt
lines_known ns (l ∷ ls) t =
    all_append (known ns) (ranges_of ns l) (joined (map (ranges_of ns) ls))
    (line_known ns l (all_left (λ n. any (same n) ns) (names_of l) (joined (map names_of ls)) t))
    (lines_known ns ls (all_right (λ n. any (same n) ns) (names_of l) (joined (map names_of ls)) t))

pub reading_numbered : (ls : List Line) → T (numbered (reading_of ls))
unfolding numbered reading_of known
reading_numbered ls = lines_known (first_seen same (joined (map names_of ls))) ls (seen_has same same_eq same_refl (joined (map names_of ls)))

-- ---- bits

abbrev pub width : List Field → ℕ
width fs = sum (map (λ f. f.0) fs)

pub bits_length : (w n : ℕ) → length (bits w n) ≡ w
bits_length zero n = refl
bits_length (suc w) n = ap suc (bits_length w n)

pub fields_length : (fs : List Field) → length (joined (map field_bits fs)) ≡ width fs
fields_length [] = refl
fields_length (f ∷ fs) = length-append (field_bits f) (joined (map field_bits fs)) ∙ ap₂ (λ a b. a + b) (bits_length f.0 f.1) (fields_length fs)

width_append : (fs gs : List Field) → width (fs ++ gs) ≡ width fs + width gs
width_append [] gs = omega arith
width_append (f ∷ fs) gs = let e = width_append fs gs in omega arith

pub width_map : (w : ℕ) (l : List ℕ) → width (map (field w) l) ≡ length l * w
width_map w [] = omega (arith, native.Mathlib.Nat.zero-mul w)
width_map w (x ∷ l) = ap (λ k. w + k) (width_map w l) ∙ omega (arith, native.Mathlib.Nat.suc-mul (length l) w)

names_width : (ns : List (List ℕ)) → width (joined (map name_fields ns)) ≡ name_length_width * length ns + byte_width * name_bytes ns
unfolding name_bytes
names_width [] = refl
names_width (n ∷ ns) =
    let e = names_width ns in
    let a : width (map (field byte_width) n ++ joined (map name_fields ns)) ≡ width (map (field byte_width) n) + width (joined (map name_fields ns)) = width_append (map (field byte_width) n) (joined (map name_fields ns)) in
    let b : width (map (field byte_width) n) ≡ length n * byte_width = width_map byte_width n in
    omega arith

definitions_width : (ds : List Definition) → width (joined (map definition_fields ds)) ≡ definition_width * length ds
definitions_width [] = refl
definitions_width (d ∷ ds) = let e = definitions_width ds in omega arith

ranges_width_lem : (gs : List Range) → width (joined (map range_fields gs)) ≡ range_width * length gs + number_width * references gs
unfolding references
ranges_width_lem [] = refl
ranges_width_lem (g ∷ gs) =
    let e = ranges_width_lem gs in
    let cs : List ℕ = g.categories in
    let a : width (map (field number_width) g.categories ++ joined (map range_fields gs)) ≡ width (map (field number_width) g.categories) + width (joined (map range_fields gs)) = width_append (map (field number_width) g.categories) (joined (map range_fields gs)) in
    let b : width (map (field number_width) g.categories) ≡ length g.categories * number_width = width_map number_width g.categories in
    omega arith

pub pack_bits_length : (r : Reading)
    → length (pack_bits r) ≡ head_width + (name_length_width * length r.names + byte_width * name_bytes r.names) + definition_width * length r.definitions
    + (range_width * length r.ranges + number_width * references r.ranges)
unfolding pack_bits
pack_bits_length r =
    let ns : List Field = joined (map name_fields r.names) in
    let ds : List Field = joined (map definition_fields r.definitions) in
    let gs : List Field = joined (map range_fields r.ranges) in
    fields_length (head r ++ (ns ++ (ds ++ gs)))
    ∙ width_append (head r) (ns ++ (ds ++ gs))
    ∙ ap (λ k. width (head r) + k) (width_append ns (ds ++ gs) ∙ ap (λ k. width ns + k) (width_append ds gs))
    ∙ rw (names_width r.names, definitions_width r.definitions, ranges_width_lem r.ranges) (omega arith)

pub in_bytes_length : (l : List ℕ) → length (in_bytes l) ≡ (length l + 7) / byte_width
unfolding in_bytes
in_bytes_length [] = refl
in_bytes_length (a ∷ []) = refl
in_bytes_length (a ∷ b ∷ []) = refl
in_bytes_length (a ∷ b ∷ c ∷ []) = refl
in_bytes_length (a ∷ b ∷ c ∷ d ∷ []) = refl
in_bytes_length (a ∷ b ∷ c ∷ d ∷ e ∷ []) = refl
in_bytes_length (a ∷ b ∷ c ∷ d ∷ e ∷ f ∷ []) = refl
in_bytes_length (a ∷ b ∷ c ∷ d ∷ e ∷ f ∷ g ∷ []) = refl
in_bytes_length (a ∷ b ∷ c ∷ d ∷ e ∷ f ∷ g ∷ h ∷ s) = let k = in_bytes_length s in omega arith

pub pack_length_lem : (r : Reading) → Within r → length (pack_bytes r) ≤ max_pack_bytes
unfolding pack_bytes
pack_length_lem r w =
    let b : length (pack_bits r) ≤ byte_width * max_pack_bytes = rw pack_bits_length (omega arith) in
    rw in_bytes_length (omega arith)
