-- DEFAULT by its name: the number found is below the count, and over tables that hold together it is the paper's `defaults`.
-- Assumes nothing.
use Prim.Native.Nat.{ℕ, ◌*◌, ◌<◌}
use mathlib.Core.Path.{◌≡◌, refl, sym, ap, ◌∙◌, subst}
use mathlib.Core.Bool.{Bool, true, false, cond, ◌||◌}
use mathlib.Core.List.{List, [], ◌∷◌, map}
use mathlib.Core.Option.{none, some}
use lib.Dec.{T, ltb}
use lib.ListN.{length, length-map}
use Rattle.paper.specs.Refusals.{tables_apart}
use Rattle.paper.specs.Lists.{any, position_of, same}
use Rattle.paper.specs.Rows.Covering.{default, defaults}
use Rattle.paper.specs.Rows.Lookup.{gives, refuses}
use Rattle.paper.specs.Rows.Numbers.{name_slots_of, name_in, past_store, lowest_named, find_name}
use Rattle.paper.specs.Tables.Layout.{Tables, pieces, name_slot_of, name_slot_size}
use Rattle.paper.specs.Computed.HandedIn.{decoded, holds, handed_in}
use Rattle.paper.specs.declared.Counts.{Counts}
use Rattle.paper.proofs.Apart.{nil_cons, refuses_gives}
use Rattle.paper.proofs.Lists.Facts.{T→true}
use Rattle.paper.proofs.Rows.Lowest.{lowest_first}
use Rattle.paper.proofs.Rows.Numbers.{name_found}
use Rattle.paper.proofs.Tables.Laws.{pieces_length}
use Rattle.by_name.specs.Lookup.{said, FindsCategory}
use Rattle.cover.specs.Fallback.{fallback_row}
use Rattle.fallback.specs.Fallback.{found_row}
use Rattle.std.specs.Prelude.{None, Ok, Option, Result, Some}
use Rattle.paper.specs.declared.Refusal.{Refusal}

-- the row tells the case
pub fallback_one : (a b : Option ℕ) → fallback_row a ≡ fallback_row b → a ≡ b
fallback_one (Some x) (Some y) e = let f : x ≡ y = cc in ap Some f
fallback_one (Some x) None e = nil_cons (sym e)
fallback_one None (Some y) e = nil_cons e
fallback_one None None e = refl

module _ (store table : List ℕ) (count : ℕ) (name : List ℕ) where
  names_many : length (map (name_in store) (name_slots_of table count)) ≡ count
  names_many =
      length-map (name_slots_of table count) (name_in store) ∙ length-map (pieces name_slot_size count table) name_slot_of ∙ pieces_length name_slot_size count table

  module _ (a : Result (Option ℕ) Refusal) (f : FindsCategory store table count name a) where
    -- a number that is found is below the count
    pub found_below : (number : ℕ) → a ≡ Ok (Some number) → number < count
    unfolding find_name
    found_below number e = go (ltb (length table) (name_slot_size * count) || any (past_store store) (name_slots_of table count)) (ap said (sym e) ∙ f.answer)
      where
        go : (b : Bool) → gives (some number) ≡ cond b (refuses tables_apart) (gives (lowest_named name (map (name_in store) (name_slots_of table count)))) → number < count
        go true e = refuses_gives (sym e)
        go false e =
            let g : lowest_named name (map (name_in store) (name_slots_of table count)) ≡ some number = cc in
            subst (λ n. number < n) names_many (lowest_first name (map (name_in store) (name_slots_of table count)) number g).inside

-- over tables that hold together
pub fallback_met : (t : Tables) (n : Counts) → T (holds t n) → found_row (find_name t.names t.categories n.categories default) ≡ defaults (decoded t n)
unfolding handed_in lowest_named defaults
fallback_met t n h = ap found_row (name_found t n (decoded t n) handed default) ∙ go (any (same default) (decoded t n).names)
  where
    handed : handed_in t n ≡ some (decoded t n)
    handed = rw (T→true (holds t n) h)

    go : (b : Bool)
        → found_row (gives (cond b (some (position_of same default (decoded t n).names)) none)) ≡ cond b (position_of same default (decoded t n).names ∷ []) []
    go true = refl
    go false = refl
