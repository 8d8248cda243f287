-- What is found by number over the tables that `parse_unk` leaves for an accepted text, in the paper's words: `entries_of`, `word_of` and `details_of` of
-- paper specs/Unk/Entry.
-- Assumes nothing.
use Rattle.std.specs.Prelude.{ℕ, List, map, take, drop}
use Rattle.std.proofs.Math.Option.{Option, none, some}
use Rattle.paper.specs.Refusals.{number_unknown}
use Rattle.paper.specs.Lists.{joined}
use Rattle.paper.specs.Numbers.Bytes.{le}
use Rattle.paper.specs.Rows.Lookup.{Looked, gives, refuses}
use Rattle.paper.specs.Tables.Layout.{reference_size}
use Rattle.word.specs.declared.Span.{Span}
use Rattle.word.specs.declared.WordEntry.{WordEntry}

-- `none` is refusal 15, "category, definition or unk entry number unknown"
abbrev pub or_unknown : {A : Type 0} → Option A → Looked A
or_unknown none = refuses number_unknown
or_unknown (some x) = gives x

-- the bytes of the part that is answered
abbrev pub part_of : List ℕ → Looked Span → Looked (List ℕ)
part_of table (gives s) = gives (take s.len (drop s.start table))
part_of table (refuses n) = refuses n

-- numbers of entries, two bytes each
abbrev pub id_bytes : List ℕ → List ℕ
id_bytes ks = joined (map (le reference_size) ks)

-- left, right and cost
abbrev pub as_word : ℕ × ℕ × ℕ → WordEntry
as_word (left, right, cost) = record { left = left; right = right; cost = cost }
