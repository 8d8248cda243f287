-- A turn of the loop over the names: one more slot, and the bytes behind those of the names so far.
-- Assumes nothing.
use Prim.Native.Nat.{ℕ, ◌+◌, ◌*◌, ◌≤◌, ◌<◌}
use native.Mathlib.Omega.{arith}
use mathlib.Core.Path.{◌≡◌, refl, sym, ap, ap₂, ◌∙◌}
use mathlib.Core.List.{List, [], ◌∷◌, ◌++◌, map}
use lib.ListN.{length, take, drop, length-drop}
use lib.Seq.{drop-drop, length-take-le}
use Rattle.paper.specs.Lists.{joined, sum}
use Rattle.paper.specs.Pack.Fields.{field, name_length_width, byte_width, name_fields}
use Rattle.paper.specs.Tables.Layout.{name_slot_size, name_len_at, name_slot_of, split}
use Rattle.paper.specs.Tables.Lent.{got}
use Rattle.paper.proofs.Lists.Facts.{joined_map_snoc}
use Rattle.table_rules.proofs.Turn.{entry}
use Rattle.table_rules.proofs.Entries.{field_got, inside}
use Rattle.put_parts.specs.Parts.{lengths_in}
use Rattle.put_ranges.proofs.Entries.{amounts_more, amounts_sum, amounts_below}

-- a name's length, and its bytes
pub name_fields_lem : (first n : ℕ) (l : List ℕ) → first + n ≤ length l
    → field name_length_width n ∷ map (field byte_width) (take n (drop first l)) ≡ name_fields (take n (drop first l))
name_fields_lem first n l h =
    ap (λ k. field name_length_width k ∷ map (field byte_width) (take n (drop first l))) (sym (length-take-le n (drop first l) (simp length-drop (omega arith))))

split_snoc : (ns : List ℕ) (n : ℕ) (l : List ℕ) → split (ns ++ (n ∷ [])) l ≡ split ns l ++ (take n (drop (sum ns) l) ∷ [])
unfolding split
split_snoc [] n l = refl
split_snoc (m ∷ ns) n l =
    ap (λ ls. take m l ∷ ls) (split_snoc ns n (drop m l)) ∙ ap (λ k. take m l ∷ (split ns (drop m l) ++ (take n k ∷ []))) (drop-drop (sum ns) m l)

module _
    (categories : List ℕ)
    (n i at len : ℕ)
    (lt : i < n)
    (long : name_slot_size * n ≤ length categories)
    (e : len ≡ got 2 (name_slot_size * i + name_len_at) categories)
    (s : at ≡ sum (lengths_in i categories))
  where
    len_is : len ≡ (name_slot_of (entry name_slot_size i categories)).len
    len_is = e ∙ field_got 2 name_len_at name_slot_size i categories (omega arith) (inside name_slot_size i n categories lt long)

    pub name_sum : at + len ≡ sum (lengths_in (i + 1) categories)
    unfolding lengths_in
    name_sum = ap₂ (λ a b. a + b) s len_is ∙ sym (amounts_sum (λ p. p.len) name_slot_of name_slot_size categories i)

    pub name_fits : at + len ≤ sum (lengths_in n categories)
    unfolding lengths_in
    name_fits =
        let a : at + len ≡ sum (lengths_in (i + 1) categories) = name_sum in
        let b : sum (lengths_in (i + 1) categories) ≤ sum (lengths_in n categories) =
        amounts_below (λ p. p.len) name_slot_of name_slot_size categories (i + 1) n (omega arith) in
        omega arith

    pub name_more : (names : List ℕ)
        → joined (map name_fields (split (lengths_in i categories) names)) ++ name_fields (take len (drop at names))
        ≡ joined (map name_fields (split (lengths_in (i + 1) categories) names))
    unfolding lengths_in
    name_more names =
        sym (ap (λ ns. joined (map name_fields (split ns names))) (amounts_more (λ p. p.len) name_slot_of name_slot_size categories i)
        ∙ ap (λ ls. joined (map name_fields ls)) (split_snoc (lengths_in i categories) (name_slot_of (entry name_slot_size i categories)).len names)
        ∙ joined_map_snoc name_fields (split (lengths_in i categories) names) _
        ∙ ap₂ (λ a b. joined (map name_fields (split (lengths_in i categories) names)) ++ name_fields (take a (drop b names))) (sym len_is) (sym s))
