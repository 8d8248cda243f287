-- What an unk.def says, as bytes, DESIGN.md section 6: entries one behind another, numbers with the least byte first.
-- Assumes nothing.
use Rattle.std.specs.Prelude.{ℕ, suc, cond, List, [], ◌∷◌, ◌++◌, map, eqb, length}
use Rattle.paper.specs.Lists.{any, joined}
use Rattle.paper.specs.Numbers.Bytes.{le, u32_size}
use Rattle.paper.specs.Unk.Entry.{Unk}
use Rattle.paper.specs.Tables.Layout.{name_slots, name_slot_bytes, reference_size}
use Rattle.unk_enter.specs.Fields.{word_bytes}

pub record UnkTables : Type 0 where
  -- left, right, cost, and the number of the entry's category and 1, or 0
  pub entries : List ℕ
  -- where each entry's details begin
  pub offsets : List ℕ
  -- the details, each behind its length
  pub details : List ℕ
  -- for each category where its entries begin among the members, and how many
  pub places : List ℕ
  -- the entries of each category, one category behind another
  pub members : List ℕ

-- the first category, from number c on, that lists entry k, and 1; 0 where none does
abbrev pub mark_among : ℕ → List (List ℕ) → ℕ → ℕ
mark_among c [] k = 0
mark_among c (ks ∷ kss) k = let r = mark_among (suc c) kss k in cond (any (eqb k) ks) (suc c) r

-- entries from number k on
unfoldable pub entry_table : List (List ℕ) → ℕ → List (ℕ × ℕ × ℕ) → List ℕ
unfolding word_bytes
entry_table members k [] = []
entry_table members k ((left, right, cost) ∷ ws) = word_bytes left right cost (mark_among 0 members k) ++ entry_table members (suc k) ws

unfoldable pub layout : Unk → UnkTables
unfolding name_slots entry_table
layout u =
    record {
      entries = entry_table u.members 0 u.word_entries;
      offsets = joined (map (le u32_size) u.offsets);
      details = u.store;
      places = joined (map name_slot_bytes (name_slots 0 (map length u.members)));
      members = joined (map (le reference_size) (joined u.members));
    }
