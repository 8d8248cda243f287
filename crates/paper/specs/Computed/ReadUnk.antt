-- The answer to an unk.def, computed. `Unk.Refused` proves it the relation `UnkAnswered`.
-- Assumes nothing.
use Rattle.std.specs.Prelude.{ℕ, suc, ◌%◌, Bool, true, false, cond, List, [], ◌∷◌, ltb, length}
use Rattle.std.proofs.Math.Option.{Option, none, some}
use Rattle.paper.specs.Sizes.{max_text_bytes, max_unk_entries, max_u32, max_i32, low_i32}
use Rattle.paper.specs.Refusals.{text_long, text_ill_formed, unk_fields, unk_number, unk_entries_full}
use Rattle.paper.specs.Lists.{empty, cut, is, join_with}
use Rattle.paper.specs.Text.Scalar.{lf, cr, comma}
use Rattle.paper.specs.Numbers.Numeral.{Integer, decimal, modulus16, wrap16}
use Rattle.paper.specs.Unk.Entry.{Entry, nul, unk_of}
use Rattle.paper.specs.Unk.Bad.{UnkAnswer, accepted, refused}
use Rattle.paper.specs.Computed.Decode.{Text, broken, chars, decode}
use Rattle.paper.specs.Computed.Numeral.{numeral, signed_numeral}

-- one CR at the end is dropped
abbrev pub drop_cr : List ℕ → List ℕ
drop_cr [] = []
drop_cr (c ∷ []) = cond (is cr c) [] (c ∷ [])
drop_cr (c ∷ d ∷ cs) = c ∷ drop_cr (d ∷ cs)

abbrev pub from_pieces : List (List ℕ) → List (List ℕ)
from_pieces [] = []
from_pieces (l ∷ []) = cond (empty l) [] (l ∷ [])
from_pieces (l ∷ m ∷ ls) = drop_cr l ∷ from_pieces (m ∷ ls)

unfoldable pub unk_lines : List ℕ → List (List ℕ)
unk_lines bytes = from_pieces (cut (is lf) bytes)

pub data UnkFound : Type 0 where
  entry : Entry → UnkFound
  no_entry : ℕ → UnkFound

abbrev pub from_unk_numbers : List ℕ → Option ℕ → Option ℕ → Option Integer → List (List ℕ) → UnkFound
from_unk_numbers name none r c ds = no_entry unk_number
from_unk_numbers name (some l) none c ds = no_entry unk_number
from_unk_numbers name (some l) (some r) none ds = no_entry unk_number
from_unk_numbers name (some l) (some r) (some c) ds =
    entry (record { category = name; left = l % modulus16; right = r % modulus16; cost = wrap16 c; details = join_with nul ds })

unfoldable pub from_fields : List (List ℕ) → UnkFound
unfolding numeral signed_numeral wrap16
from_fields [] = no_entry unk_fields
from_fields (a ∷ []) = no_entry unk_fields
from_fields (a ∷ b ∷ []) = no_entry unk_fields
from_fields (a ∷ b ∷ c ∷ []) = no_entry unk_fields
from_fields (a ∷ b ∷ c ∷ d ∷ ds) =
    from_unk_numbers a (numeral decimal max_u32 b) (numeral decimal max_u32 c) (signed_numeral decimal max_i32 low_i32 d) ds

-- the entry that a line says, or what is wrong with it: 23 or 24
unfoldable pub unk_line_of : List ℕ → UnkFound
unfolding from_fields
unk_line_of cs = from_fields (cut (is comma) cs)

-- ---- the answer

pub data Entries : Type 0 where
  entries_are : List Entry → Entries
  stops : ℕ → ℕ → Entries

abbrev pub cons_entry : Entry → Entries → Entries
cons_entry e (entries_are es) = entries_are (e ∷ es)
cons_entry e (stops n place) = stops n place

-- a line is an entry, so line k is entry k: 25 is given at line 4,097
abbrev pub or_full : Bool → ℕ → Entry → (ℕ → Entries) → Entries
or_full true k e go = stops unk_entries_full k
or_full false k e go = cons_entry e (go (suc k))

abbrev pub enter_unk : ℕ → UnkFound → (ℕ → Entries) → Entries
enter_unk k (no_entry n) go = stops n k
enter_unk k (entry e) go = or_full (ltb max_unk_entries k) k e go

unfoldable pub read_entries : ℕ → List (List ℕ) → Entries
unfolding unk_line_of
read_entries k [] = entries_are []
read_entries k (cs ∷ css) = enter_unk k (unk_line_of cs) (λ j. read_entries j css)

abbrev pub answer_unk : List (List ℕ) → Entries → UnkAnswer
answer_unk names (entries_are es) = accepted (unk_of names es)
answer_unk names (stops n place) = refused n place

abbrev pub read_unk_text : List (List ℕ) → List ℕ → Text → UnkAnswer
read_unk_text names bytes (broken at) = refused text_ill_formed at
read_unk_text names bytes (chars cs) = answer_unk names (read_entries 1 (unk_lines bytes))

unfoldable pub read_unk : List (List ℕ) → List ℕ → UnkAnswer
unfolding decode read_entries unk_lines unk_of
read_unk names bytes = cond (ltb max_text_bytes (length bytes)) (refused text_long 0) (read_unk_text names bytes (decode bytes))
