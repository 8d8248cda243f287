-- Over tables that hold together, what the loops put is the reading's: its fields, as many as its counts say.
-- Assumes nothing.
use Prim.Native.Nat.{ℕ, ◌+◌, ◌*◌}
use native.Mathlib.Omega.{arith}
use mathlib.Core.Path.{◌≡◌, sym, ap, ap₂, ◌∙◌}
use mathlib.Core.List.{List, ◌++◌, map}
use lib.Dec.{T}
use lib.ListN.{length}
use Rattle.paper.specs.Lists.{joined, sum}
use Rattle.paper.specs.CharDef.Reading.{Reading, name_bytes, references}
use Rattle.paper.specs.Pack.Fields.{name_length_width, byte_width, number_width, head_width, definition_width, range_width}
use Rattle.paper.specs.Pack.Fields.{head, name_fields, definition_fields, range_fields, pack_fields}
use Rattle.paper.specs.Tables.Layout.{Tables, counts_of, definition_size, range_slot_size, definition_of, slot_of, pieces, split, ranging}
use Rattle.paper.specs.Computed.HandedIn.{name_slots_in, names_in, slots_in, numbers_in, decoded, holds}
use Rattle.paper.specs.declared.Counts.{Counts}
use Rattle.paper.proofs.Tables.Trip.{Enough, parts, names_lens, ranges_counts, counts_are}
use Rattle.put_field.specs.declared.BitWriter.{BitWriter}
use Rattle.put_field.specs.Writer.{start, Puts}
use Rattle.put_ranges.specs.Ranges.{counts_in, numbers_from, all_numbers}
use Rattle.put_parts.specs.Parts.{lengths_in, head_of, pack_width}
use Rattle.put_field.proofs.Writing.{puts_both, puts_are}

-- what the loops ask
pub record Asked (t : Tables) (n : Counts) : Type 0 where
  pub long : Enough (length t.names) (length t.categories) (length t.definitions) (length t.ranges) (length t.references) n
  pub lengths_sum : sum (lengths_in n.categories t.categories) ≡ n.bytes
  pub counts_sum : sum (counts_in n.ranges t.ranges) ≡ n.references

pub asked : (t : Tables) (n : Counts) → T (holds t n) → Asked t n
unfolding lengths_in counts_in name_slots_in slots_in decoded counts_of name_bytes references
asked t n u =
    let h = parts t n u in
    let e = counts_are t n h in
    record {
      long = h.long;
      lengths_sum = sym (ap sum (names_lens t n h)) ∙ ap (λ m. m.bytes) e;
      counts_sum = sym (ap sum (ranges_counts t n h)) ∙ ap (λ m. m.references) e;
    }

-- ---- the fields are the reading's

head_is : (r : Reading) (n : Counts) → counts_of r ≡ n → head_of n ≡ head r
unfolding counts_of head_of head
head_is r n e = ap head_of (sym e)

fields_are : (t : Tables) (n : Counts) → T (holds t n)
    → head_of n
    ++ (joined (map name_fields (split (lengths_in n.categories t.categories) t.names))
    ++ (joined (map definition_fields (map definition_of (pieces definition_size n.definitions t.definitions)))
    ++ joined (map range_fields (ranging (map slot_of (pieces range_slot_size n.ranges t.ranges)) (all_numbers n.ranges t.ranges t.references)))))
    ≡ pack_fields (decoded t n)
unfolding pack_fields decoded names_in name_slots_in slots_in numbers_in lengths_in numbers_from
fields_are t n u =
    let a = asked t n u in
    ap₂ (λ h m. h
    ++ (joined (map name_fields (split (lengths_in n.categories t.categories) t.names))
    ++ (joined (map definition_fields (map definition_of (pieces definition_size n.definitions t.definitions)))
    ++ joined (map range_fields (ranging (map slot_of (pieces range_slot_size n.ranges t.ranges)) (numbers_from 0 m t.references))))))
    (head_is (decoded t n) n (counts_are t n (parts t n u)))
    a.counts_sum

-- head, names, definitions and ranges, put one behind another
pub fields_put : (t : Tables) (n : Counts) → T (holds t n) → {lent a b c after : List ℕ} {u v w r : BitWriter}
    → Puts lent start (head_of n) head_width a u
    → Puts a u (joined (map name_fields (split (lengths_in n.categories t.categories) t.names)))
    (name_length_width * n.categories + byte_width * sum (lengths_in n.categories t.categories)) b v
    → Puts b v (joined (map definition_fields (map definition_of (pieces definition_size n.definitions t.definitions)))) (definition_width * n.definitions) c w
    → Puts c w (joined (map range_fields (ranging (map slot_of (pieces range_slot_size n.ranges t.ranges)) (all_numbers n.ranges t.ranges t.references))))
    (range_width * n.ranges + number_width * sum (counts_in n.ranges t.ranges)) after r
    → Puts lent start (pack_fields (decoded t n)) (pack_width n) after r
fields_put t n h x y z k =
    let a = asked t n h in
    let s = a.lengths_sum in
    let m = a.counts_sum in
    puts_are (puts_both x (puts_both y (puts_both z k))) (fields_are t n h) (omega arith)
