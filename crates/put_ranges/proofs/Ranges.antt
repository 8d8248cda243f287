-- A turn of the loop over the ranges: one more slot, and the references behind those of the ranges so far.
-- Assumes nothing.
use Prim.Native.Nat.{ℕ, ◌+◌, ◌*◌, ◌≤◌, ◌<◌}
use native.Mathlib.Omega.{arith}
use mathlib.Core.Path.{◌≡◌, refl, sym, ap, ap₂, ◌∙◌}
use mathlib.Core.List.{List, [], ◌∷◌, ◌++◌, map}
use lib.ListN.{length, take, drop, length-map}
use lib.Seq.{drop-drop}
use Rattle.paper.specs.Lists.{joined, sum}
use Rattle.paper.specs.CharDef.Reading.{Range}
use Rattle.paper.specs.Pack.Fields.{Field, field, bound_width, count_width, number_width, range_fields}
use Rattle.paper.specs.Tables.Layout.{RangeSlot, range_slot_size, reference_size, upper_at, count_at, slot_of, pieces, ranging}
use Rattle.paper.specs.Tables.Lent.{num, got}
use Rattle.paper.proofs.Lists.Facts.{map_append, joined_map_snoc}
use Rattle.paper.proofs.Tables.Laws.{pieces_length, part_numbers}
use Rattle.table_rules.proofs.Turn.{entry}
use Rattle.table_rules.proofs.Entries.{first_got, field_got, inside}
use Rattle.put_ranges.specs.Ranges.{counts_in, numbers_from, all_numbers}
use Rattle.put_ranges.proofs.Entries.{pieces_more, amounts_sum, amounts_below}

numbers_part : (total k i : ℕ) (l : List ℕ) → i + k ≤ total → take k (drop i (numbers_from 0 total l)) ≡ numbers_from i k l
unfolding numbers_from
numbers_part total k i l h = part_numbers total k i l h

numbers_count : (first n : ℕ) (l : List ℕ) → length (numbers_from first n l) ≡ n
unfolding numbers_from
numbers_count first n l =
    length-map (pieces reference_size n (drop (reference_size * first) l)) (num reference_size 0) ∙ pieces_length reference_size n (drop (reference_size * first) l)

-- the range of a slot, over the references from its own on
range_of : RangeSlot → List ℕ → Range
range_of r l = record { lower = r.lower; upper = r.upper; categories = take r.count l }

ranging_snoc : (rs : List RangeSlot) (r : RangeSlot) (l : List ℕ)
    → ranging (rs ++ (r ∷ [])) l ≡ ranging rs l ++ (range_of r (drop (sum (map (λ s. s.count) rs)) l) ∷ [])
unfolding ranging range_of
ranging_snoc [] r l = refl
ranging_snoc (q ∷ rs) r l =
    ap (λ gs. range_of q l ∷ gs) (ranging_snoc rs r (drop q.count l))
    ∙ ap (λ m. range_of q l ∷ (ranging rs (drop q.count l) ++ (range_of r m ∷ []))) (drop-drop (sum (map (λ s. s.count) rs)) q.count l)

range_fields_lem : (lower upper count : ℕ) (cs : List ℕ) → length cs ≡ count
    → (field bound_width lower ∷ field bound_width upper ∷ field count_width count ∷ []) ++ map (field number_width) cs
    ≡ range_fields (record { lower = lower; upper = upper; categories = cs })
range_fields_lem lower upper count cs e = ap (λ k. field bound_width lower ∷ field bound_width upper ∷ field count_width k ∷ map (field number_width) cs) (sym e)

module _
    (ranges : List ℕ)
    (n i used count : ℕ)
    (lt : i < n)
    (long : range_slot_size * n ≤ length ranges)
    (e : count ≡ got 2 (range_slot_size * i + count_at) ranges)
    (s : used ≡ sum (counts_in i ranges))
  where
    there : range_slot_size * i + range_slot_size ≤ length ranges
    there = inside range_slot_size i n ranges lt long

    count_is : count ≡ (slot_of (entry range_slot_size i ranges)).count
    count_is = e ∙ field_got 2 count_at range_slot_size i ranges (omega arith) there

    pub range_sum : used + count ≡ sum (counts_in (i + 1) ranges)
    unfolding counts_in
    range_sum = ap₂ (λ a b. a + b) s count_is ∙ sym (amounts_sum (λ r. r.count) slot_of range_slot_size ranges i)

    pub range_fits : used + count ≤ sum (counts_in n ranges)
    unfolding counts_in
    range_fits =
        let a : used + count ≡ sum (counts_in (i + 1) ranges) = range_sum in
        let b : sum (counts_in (i + 1) ranges) ≤ sum (counts_in n ranges) =
        amounts_below (λ r. r.count) slot_of range_slot_size ranges (i + 1) n (omega arith) in
        omega arith

    module _
        (references : List ℕ)
        (lower upper : ℕ)
        (el : lower ≡ got 2 (range_slot_size * i) ranges)
        (eu : upper ≡ got 2 (range_slot_size * i + upper_at) ranges)
      where
        so_far : List RangeSlot → List Field
        so_far rs = joined (map range_fields (ranging rs (all_numbers n ranges references)))

        this_is : range_of (slot_of (entry range_slot_size i ranges)) (drop (sum (counts_in i ranges)) (all_numbers n ranges references))
            ≡ record { lower = lower; upper = upper; categories = numbers_from used count references }
        unfolding range_of
        this_is =
            same_range (el ∙ first_got 2 range_slot_size i ranges (omega arith) there) (eu ∙ field_got 2 upper_at range_slot_size i ranges (omega arith) there)
            (ap₂ (λ a b. take a (drop b (all_numbers n ranges references))) (sym count_is) (sym s)
            ∙ numbers_part (sum (counts_in n ranges)) count used references range_fits)
          where
            same_range : {a b : ℕ} {c d : List ℕ} → lower ≡ a → upper ≡ b → c ≡ d
                → ◌≡◌ {A = Range} (record { lower = a; upper = b; categories = c }) (record { lower = lower; upper = upper; categories = d })
            same_range p q r = rw (p, q, r)

        pub range_more : joined (map range_fields (ranging (map slot_of (pieces range_slot_size i ranges)) (all_numbers n ranges references)))
            ++ ((field bound_width lower ∷ field bound_width upper ∷ field count_width count ∷ []) ++ map (field number_width) (numbers_from used count references))
            ≡ joined (map range_fields (ranging (map slot_of (pieces range_slot_size (i + 1) ranges)) (all_numbers n ranges references)))
        unfolding counts_in so_far
        range_more =
            let slot : RangeSlot = slot_of (entry range_slot_size i ranges) in
            let slots : List RangeSlot = map slot_of (pieces range_slot_size i ranges) in
            sym (ap (λ ps. so_far (map slot_of ps)) (pieces_more range_slot_size i ranges)
            ∙ ap so_far (map_append slot_of (pieces range_slot_size i ranges) (entry range_slot_size i ranges ∷ []))
            ∙ ap (λ gs. joined (map range_fields gs)) (ranging_snoc slots slot (all_numbers n ranges references))
            ∙ joined_map_snoc range_fields (ranging slots (all_numbers n ranges references)) _
            ∙ ap (λ l. so_far slots ++ l)
            (ap range_fields this_is ∙ sym (range_fields_lem lower upper count (numbers_from used count references) (numbers_count used count references))))
