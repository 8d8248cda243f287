-- An entry in bytes, DESIGN.md section 6: how long it is in each table, and where its fields stand.
-- Assumes nothing.
use Rattle.std.specs.Prelude.{ℕ, List, ◌++◌}
use Rattle.paper.specs.Numbers.Bytes.{le, u16_size}

-- the bytes of an entry of `entries`, and of `offsets`
abbrev pub entry_size : ℕ
entry_size = 8

abbrev pub offset_size : ℕ
offset_size = 4

-- where its fields stand in an entry, behind the left
abbrev pub right_at : ℕ
right_at = 2

abbrev pub cost_at : ℕ
cost_at = 4

abbrev pub mark_at : ℕ
mark_at = 6

unfoldable pub word_bytes : (left right cost mark : ℕ) → List ℕ
word_bytes left right cost mark = le u16_size left ++ (le u16_size right ++ (le u16_size cost ++ le u16_size mark))
