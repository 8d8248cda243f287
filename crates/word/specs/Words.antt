-- Lookups by number over any tables of unk.def: "14 or 15, then 26", and 26 "exactly when what they would answer runs past its table". A refusal's
-- place is 0. A part is given by its first byte and its bytes.
-- Assumes nothing.
use Rattle.std.specs.Prelude.{ℕ, suc, ◌+◌, ◌*◌, cond, List, [], leb, ltb, length, take, drop}
use Rattle.paper.specs.Refusals.{number_unknown, tables_apart}
use Rattle.paper.specs.Numbers.Bytes.{u16_size, u32_size}
use Rattle.paper.specs.Rows.Lookup.{Looked, gives, refuses}
use Rattle.paper.specs.Rows.Numbers.{entry_at}
use Rattle.paper.specs.Tables.Layout.{NameSlot, name_slot_of, name_slot_size, reference_size}
use Rattle.paper.specs.Tables.Lent.{num}
use Rattle.paper.specs.Unk.Entry.{length_bytes}
use Rattle.unk_enter.specs.Fields.{entry_size, offset_size, right_at, cost_at}
use Rattle.word.specs.declared.Span.{Span}
use Rattle.word.specs.declared.WordEntry.{WordEntry}
use Rattle.std.specs.Prelude.{Err, Ok, Result}
use Rattle.paper.specs.declared.Refusal.{Refusal}

-- the part, where it ends inside a table of so many bytes
unfoldable pub within : ℕ → Span → Looked Span
within bytes s = cond (ltb bytes (s.start + s.len)) (refuses tables_apart) (gives s)

-- the answer, where there are more than k and entry k of the table ends inside it
unfoldable pub numbered : {A : Type 0} → (width count k : ℕ) → List ℕ → Looked A → Looked A
numbered width count k table a =
    cond (leb count k) (refuses number_unknown) (cond (ltb (length table) (width * suc k)) (refuses tables_apart) a)

-- ---- a category's entries among the members

abbrev pub members_of : NameSlot → Span
members_of p = record { start = reference_size * p.start; len = reference_size * p.len }

unfoldable pub word_ids_in : (places members : List ℕ) → (count c : ℕ) → Looked Span
unfolding numbered within num
word_ids_in places members count c = numbered name_slot_size count c places (within (length members) (members_of (name_slot_of (entry_at name_slot_size places c))))

-- ---- an entry

abbrev pub word_of : List ℕ → WordEntry
word_of p = record { left = num u16_size 0 p; right = num u16_size right_at p; cost = num u16_size cost_at p }

unfoldable pub word_entry_in : List ℕ → (count k : ℕ) → Looked WordEntry
unfolding numbered num
word_entry_in entries count k = numbered entry_size count k entries (gives (word_of (entry_at entry_size entries k)))

-- ---- an entry's details

-- four bytes say a length, and so many bytes follow
unfoldable pub span_at : List ℕ → ℕ → Looked Span
unfolding within num
span_at details at =
    cond (ltb (length details) (at + length_bytes)) (refuses tables_apart)
    (within (length details) (record { start = at + length_bytes; len = num u32_size at details }))

unfoldable pub word_details_in : (offsets details : List ℕ) → (count k : ℕ) → Looked Span
unfolding numbered num span_at
word_details_in offsets details count k = numbered offset_size count k offsets (span_at details (num u32_size 0 (entry_at offset_size offsets k)))

-- ---- the case of the enum for each answer, and what the part holds: "empty where the lookup refuses"

abbrev pub found : {A : Type 0} → Looked A → Result A Refusal
found (gives s) = Ok s
found (refuses n) = Err (record { number = n; place = 0 })

abbrev pub entry : Looked WordEntry → Result WordEntry Refusal
entry a = found a

abbrev pub held : List ℕ → Looked Span → List ℕ
held table (gives s) = take s.len (drop s.start table)
held table (refuses n) = []
