-- Finding a name, a category's name and a definition by number, over any tables: "14 or 15, then 26". A refusal's place is 0.
-- Assumes nothing.
use Rattle.std.specs.Prelude.{ℕ, zero, suc, ◌+◌, ◌*◌, ◌<◌, Bool, cond, ◌||◌, List, [], ◌∷◌, map, ◌≡◌, leb, ltb, length, take, drop, get_or}
use Rattle.std.proofs.Math.Option.{Option, none, some}
use Rattle.paper.specs.Refusals.{number_unknown, tables_apart}
use Rattle.paper.specs.Lists.{any, position_of, same}
use Rattle.paper.specs.CharDef.Reading.{Definition, Reading}
use Rattle.paper.specs.Rows.Lookup.{Looked, gives, refuses}
use Rattle.paper.specs.Tables.Lent.{num}
use Rattle.paper.specs.Tables.Layout.{NameSlot, pieces, name_slot_of, definition_of, name_slot_size, definition_size}

-- ---- names: "the lowest number with that name", in a store and the first `count` slots of a table

abbrev pub name_slots_of : List ℕ → ℕ → List NameSlot
name_slots_of table count = map name_slot_of (pieces name_slot_size count table)

abbrev pub name_in : List ℕ → NameSlot → List ℕ
name_in store p = take p.len (drop p.start store)

abbrev pub past_store : List ℕ → NameSlot → Bool
past_store store p = ltb (length store) (p.start + p.len)

-- k is the lowest number with that name
pub record LowestNamed (name : List ℕ) (names : List (List ℕ)) (k : ℕ) : Type 0 where
  pub inside : k < length names
  pub there : get_or names k [] ≡ name
  pub not_before : (j : ℕ) → j < k → get_or names j [] ≡ name → ⊥

-- it computed, if there is one: `Rows.Lowest` of the proofs shows that it is
unfoldable pub lowest_named : List ℕ → List (List ℕ) → Option ℕ
lowest_named name names = cond (any (same name) names) (some (position_of same name names)) none

-- "26 exactly when the category table is shorter than its count or some category's name runs past the name store"
unfoldable pub find_name : (store table : List ℕ) → ℕ → List ℕ → Looked (Option ℕ)
unfolding lowest_named pieces num
find_name store table count name =
    cond (ltb (length table) (name_slot_size * count) || any (past_store store) (name_slots_of table count)) (refuses tables_apart)
    (gives (lowest_named name (map (name_in store) (name_slots_of table count))))

-- ---- by number: 15, then 26 "exactly when what they would answer runs past its table"

unfoldable pub number_of : {A : Type 0} → List A → ℕ → Looked A
number_of [] k = refuses number_unknown
number_of (x ∷ xs) zero = gives x
number_of (x ∷ xs) (suc k) = number_of xs k

-- "definition number k is the k-th line's, and a category's definition is the one with the category's number"
abbrev pub definition_at : Reading → ℕ → Looked Definition
definition_at r k = number_of r.definitions k

abbrev pub name_at : Reading → ℕ → Looked (List ℕ)
name_at r k = number_of r.names k

abbrev pub entry_at : ℕ → List ℕ → ℕ → List ℕ
entry_at width table k = take width (drop (width * k) table)

unfoldable pub lookup_definition : List ℕ → ℕ → ℕ → Looked Definition
unfolding num
lookup_definition table count k =
    cond (leb count k) (refuses number_unknown)
    (cond (ltb (length table) (definition_size * suc k)) (refuses tables_apart) (gives (definition_of (entry_at definition_size table k))))

-- the name's place in the store
unfoldable pub category_name : (store table : List ℕ) → ℕ → ℕ → Looked NameSlot
unfolding num
category_name store table count k =
    cond (leb count k) (refuses number_unknown)
    (cond (ltb (length table) (name_slot_size * suc k) || past_store store (name_slot_of (entry_at name_slot_size table k))) (refuses tables_apart)
    (gives (name_slot_of (entry_at name_slot_size table k))))

-- the name there
abbrev pub name_of : List ℕ → Looked NameSlot → Looked (List ℕ)
name_of store (gives p) = gives (name_in store p)
name_of store (refuses n) = refuses n
