-- What the functions below the walk promise, of one line.
-- Assumes nothing.
use Rattle.std.specs.Prelude.{ℕ, suc, ◌+◌, ◌*◌, ◌-◌, ◌≤◌, ◌<◌, ◌≡◌, List, [], ◌∷◌, ◌++◌, map, length, take, drop}
use Rattle.std.proofs.Math.Option.{Option, none, some}
use Rattle.paper.specs.Sizes.{max_text_bytes, max_categories, max_unk_entries, max_detail_bytes}
use Rattle.paper.specs.Lists.{joined, offsets_from}
use Rattle.paper.specs.Numbers.Bytes.{le, u32_size}
use Rattle.paper.specs.Rows.Lookup.{Looked, gives, refuses}
use Rattle.paper.specs.Rows.Numbers.{find_name}
use Rattle.paper.specs.Tables.Lent.{patch, padded}
use Rattle.paper.specs.Unk.Entry.{Entry, stored, length_bytes}
use Rattle.paper.specs.Computed.ReadUnk.{UnkFound, entry, Entries, stops, enter_unk}
use Rattle.unk_line.specs.declared.UnkEntry.{UnkEntry}
use Rattle.unk_line.specs.Line.{stored_fields}
use Rattle.unk_enter.specs.declared.UnkCounts.{UnkCounts}
use Rattle.unk_enter.specs.Fields.{entry_size, offset_size, word_bytes}
use Rattle.std.specs.Prelude.{Err, Ok, Result}

-- a part of a text
pub record Inside (text : List ℕ) (start end : ℕ) : Type 0 where
  pub order : start ≤ end
  pub within : end ≤ length text

-- ---- an entry's category

abbrev pub mark_said : Looked (Option ℕ) → ℕ
mark_said (gives none) = 0
mark_said (gives (some k)) = suc k
mark_said (refuses n) = 0

-- the number of the category with that name in a reading's tables, and 1; 0 where none has it
unfoldable pub mark_in : (store table : List ℕ) → ℕ → List ℕ → ℕ
mark_in store table count name = mark_said (find_name store table count name)

-- ---- an entry written

-- what is lent while lines are read
pub record Memory : Type 0 where
  pub entries : List ℕ
  pub offsets : List ℕ
  pub details : List ℕ

-- an entry's places lie in its line
pub record Placed (text : List ℕ) (start end : ℕ) (e : UnkEntry) : Type 0 where
  pub name : Inside text start e.surface
  pub fields : Inside text e.details end

-- room for one entry more, whose details have so many bytes
pub record RoomLeft (m : Memory) (c : UnkCounts) (size : ℕ) : Type 0 where
  pub for_entry : entry_size * c.entries + entry_size ≤ length m.entries
  pub for_offset : offset_size * c.entries + offset_size ≤ length m.offsets
  pub for_details : c.bytes + length_bytes + size ≤ length m.details
  pub few : c.entries < max_unk_entries
  pub short : c.bytes + length_bytes + size ≤ max_detail_bytes

pub record Appended (mark : List ℕ → ℕ) (text : List ℕ) (start end : ℕ) (e : UnkEntry) (m : Memory) (c : UnkCounts) (m' : Memory) (d : UnkCounts) : Type 0 where
  pub entry_put : m'.entries
      ≡ patch (entry_size * c.entries) (word_bytes e.left e.right e.cost (mark (drop start (take e.surface text)))) m.entries
  pub offset_put : m'.offsets ≡ patch (offset_size * c.entries) (le u32_size c.bytes) m.offsets
  pub details_put : m'.details ≡ patch c.bytes (stored_fields (drop e.details (take end text))) m.details
  pub entries_more : d.entries ≡ c.entries + 1
  pub bytes_more : d.bytes ≡ c.bytes + length_bytes + (end - e.details)

-- ---- lines

abbrev pub entry_bytes : (List ℕ → ℕ) → Entry → List ℕ
entry_bytes mark e = word_bytes e.left e.right e.cost (mark e.category)

-- memory holds these entries, and zero after them
pub record Held (mark : List ℕ → ℕ) (es : List Entry) (m : Memory) (c : UnkCounts) : Type 0 where
  pub entries_are : c.entries ≡ length es
  pub few : c.entries ≤ max_unk_entries
  pub bytes_are : c.bytes ≡ length (joined (map stored es))
  pub short : c.bytes ≤ max_detail_bytes
  pub in_entries : m.entries ≡ padded (entry_size * max_unk_entries) (joined (map (entry_bytes mark) es))
  pub in_offsets : m.offsets ≡ padded (offset_size * max_unk_entries) (joined (map (le u32_size) (offsets_from 0 (map stored es))))
  pub in_details : m.details ≡ padded max_detail_bytes (joined (map stored es))

-- it holds some entries
pub record Working (mark : List ℕ → ℕ) (m : Memory) (c : UnkCounts) : Type 0 where
  pub entries : List Entry
  pub held : Held mark entries m c

-- the details so far are no longer than the text before the line
pub record Asked (count end start : ℕ) (c : UnkCounts) : Type 0 where
  pub categories : count ≤ max_categories
  pub text : end ≤ max_text_bytes
  pub used : c.bytes ≤ start

pub record Went (mark : List ℕ → ℕ) (es : List Entry) (f : UnkFound) (m : Memory) (c : UnkCounts) : Type 0 where
  pub one : Entry
  pub says : f ≡ entry one
  pub room : length es < max_unk_entries
  pub held : Held mark (es ++ (one ∷ [])) m c

-- a line was entered as the paper enters it: line k is entry k
abbrev pub Stepped : (List ℕ → ℕ) → UnkFound → Memory → UnkCounts → Memory → Result UnkCounts ℕ → Type 0
Stepped mark f m c m' (Ok d) = (es : List Entry) → Held mark es m c → Went mark es f m' d
Stepped mark f m c m' (Err k) =
    (es : List Entry) → Held mark es m c → (go : ℕ → Entries) → enter_unk (suc (length es)) f go ≡ stops k (suc (length es))
