-- An entry's category as its mark: what finding its name says, and that the number is below the count. Assumes nothing.
use Prim.Native.Nat.{ℕ, ◌+◌, ◌-◌, ◌*◌, ◌<◌}
use native.Mathlib.Numerals.{add-one}
use native.Mathlib.Omega.{arith}
use mathlib.Core.Path.{◌≡◌, sym, ap, ◌∙◌}
use mathlib.Core.Bool.{Bool, true, false, cond, ◌||◌}
use mathlib.Core.List.{List, map}
use mathlib.Core.Option.{some}
use lib.Dec.{ltb}
use lib.ListN.{length, take, drop, length-map}
use Rattle.paper.specs.Refusals.{tables_apart}
use Rattle.paper.specs.Lists.{any}
use Rattle.paper.specs.Rows.Lookup.{gives, refuses}
use Rattle.paper.specs.Rows.Numbers.{name_slots_of, name_in, past_store, lowest_named, find_name}
use Rattle.paper.specs.Tables.Layout.{pieces, name_slot_of, name_slot_size}
use Rattle.paper.proofs.Apart.{zero_one}
use Rattle.paper.proofs.Lists.Parts.{take_part}
use Rattle.paper.proofs.Rows.Lowest.{lowest_first}
use Rattle.paper.proofs.Tables.Laws.{pieces_length}
use Rattle.by_name.specs.Lookup.{said, FindsCategory}
use Rattle.paper.specs.declared.Refusal.{Refusal}
use Rattle.unk_enter.specs.Lines.{Inside, mark_said, mark_in}
use Rattle.std.specs.Prelude.{Err, None, Ok, Option, Result, Some}

module _ (store table : List ℕ) (count : ℕ) (name : List ℕ) where
  named_long : length (map (name_in store) (name_slots_of table count)) ≡ count
  named_long =
      length-map (name_slots_of table count) (name_in store) ∙ length-map (pieces name_slot_size count table) name_slot_of ∙ pieces_length name_slot_size count table

  pub found_below : (i : ℕ) → find_name store table count name ≡ gives (some i) → i < count
  unfolding find_name
  found_below i e = go (ltb (length table) (name_slot_size * count) || any (past_store store) (name_slots_of table count)) e
    where
      go : (b : Bool) → cond b (refuses tables_apart) (gives (lowest_named name (map (name_in store) (name_slots_of table count)))) ≡ gives (some i) → i < count
      go true h = zero_one (cc)
      go false h =
          let k : lowest_named name (map (name_in store) (name_slots_of table count)) ≡ some i = cc in
          let l = (lowest_first name (map (name_in store) (name_slots_of table count)) i k).inside in
          omega (arith, named_long)

-- a part that is lent is the part between its places
part_is : (text : List ℕ) (start end : ℕ) → Inside text start end → take (end - start) (drop start text) ≡ drop start (take end text)
part_is text start end w =
    let o = w.order in
    let e : start + (end - start) ≡ end = omega arith in
    take_part start (end - start) text ∙ ap (λ n. drop start (take n text)) e

module _ (store table : List ℕ) (count : ℕ) (text : List ℕ) (start end : ℕ) (w : Inside text start end) {r : Result (Option ℕ) Refusal}
    (f : FindsCategory store table count (take (end - start) (drop start text)) r) where
  found : said r ≡ find_name store table count (drop start (take end text))
  found = f.answer ∙ ap (find_name store table count) (part_is text start end w)

  pub mark_below : (i : ℕ) → r ≡ Ok (Some i) → i < count
  mark_below i e = found_below store table count (drop start (take end text)) i (sym found ∙ ap said e)

  pub mark_category : (i : ℕ) → r ≡ Ok (Some i) → i + 1 ≡ mark_in store table count (drop start (take end text))
  unfolding mark_in
  mark_category i e = add-one i ∙ ap mark_said (sym (ap said e) ∙ found)

  pub mark_absent : r ≡ (Ok None) → 0 ≡ mark_in store table count (drop start (take end text))
  unfolding mark_in
  mark_absent e = ap mark_said (sym (ap said e) ∙ found)

  pub mark_refused : (x : Refusal) → r ≡ Err x → 0 ≡ mark_in store table count (drop start (take end text))
  unfolding mark_in
  mark_refused x e = ap mark_said (sym (ap said e) ∙ found)
