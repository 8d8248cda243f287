-- What is put of the ranges: the counts and the references that stand in their tables.
-- Assumes nothing.
use Rattle.std.specs.Prelude.{ℕ, ◌*◌, List, map, drop}
use Rattle.paper.specs.Lists.{sum}
use Rattle.paper.specs.Tables.Layout.{range_slot_size, reference_size, slot_of, pieces}
use Rattle.paper.specs.Tables.Lent.{num}

-- the reference counts of the first n ranges
unfoldable pub counts_in : ℕ → List ℕ → List ℕ
counts_in n ranges = map (λ r. r.count) (map slot_of (pieces range_slot_size n ranges))

-- the first n references from a place on
unfoldable pub numbers_from : ℕ → ℕ → List ℕ → List ℕ
numbers_from first n references = map (num reference_size 0) (pieces reference_size n (drop (reference_size * first) references))

-- the references that the first n ranges have in all
abbrev pub all_numbers : ℕ → List ℕ → List ℕ → List ℕ
all_numbers n ranges references = numbers_from 0 (sum (counts_in n ranges)) references
