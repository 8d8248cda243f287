-- What is put of the tables besides the ranges: the name lengths that stand in them, the head, and the width of the whole.
-- Assumes nothing.
use Rattle.std.specs.Prelude.{ℕ, ◌+◌, ◌*◌, List, [], ◌∷◌, map}
use Rattle.paper.specs.Pack.Fields.{version, version_width, categories_width, lines_width, ranges_width, references_width, name_length_width}
use Rattle.paper.specs.Pack.Fields.{byte_width, number_width, head_width, definition_width, range_width, Field, field}
use Rattle.paper.specs.Tables.Layout.{name_slot_size, name_slot_of, pieces}
use Rattle.paper.specs.declared.Counts.{Counts}

-- the name lengths of the first n slots
unfoldable pub lengths_in : ℕ → List ℕ → List ℕ
lengths_in n categories = map (λ p. p.len) (map name_slot_of (pieces name_slot_size n categories))

-- the head of a pack with these counts
unfoldable pub head_of : Counts → List Field
head_of n =
    field version_width version ∷ field categories_width n.categories ∷ field lines_width n.definitions ∷ field ranges_width n.ranges
    ∷ field references_width n.references ∷ []

-- the width of a pack with these counts, in bits
abbrev pub pack_width : Counts → ℕ
pack_width n =
    head_width + (name_length_width * n.categories + byte_width * n.bytes) + definition_width * n.definitions
    + (range_width * n.ranges + number_width * n.references)
