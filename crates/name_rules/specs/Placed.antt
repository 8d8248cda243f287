-- The names that a category table places, each where its own slot says. Where the slots stand one behind another they are the paper's
-- `names_in`, as `Placed` of the proofs shows.
-- Assumes nothing.
use Rattle.std.specs.Prelude.{ℕ, ◌+◌, ◌*◌, cond, List, [], map, leb, length, take, drop}
use Rattle.paper.specs.Tables.Layout.{NameSlot, name_slot_of, pieces}

-- as many bytes of the store as the slot's length, from its start on; none where they run past the store
unfoldable pub placed : List ℕ → NameSlot → List ℕ
placed names p = cond (leb (p.start + p.len) (length names)) (take p.len (drop p.start names)) []

-- the name of slot i
unfoldable pub name_of : ℕ → List ℕ → List ℕ → List ℕ
unfolding placed
name_of i categories names = placed names (name_slot_of (take 4 (drop (4 * i) categories)))

-- the names of the first n slots
unfoldable pub placed_names : ℕ → List ℕ → List ℕ → List (List ℕ)
unfolding placed
placed_names n categories names = map (placed names) (map name_slot_of (pieces 4 n categories))
