-- "unk.def": its lines, what a line says, what entries say, which texts fit, and what is found by number.
-- Assumes nothing.
use Rattle.std.specs.Prelude.{ℕ, suc, ◌+◌, ◌%◌, ◌<◌, ◌≤◌, ◌≡◌, ◌↔◌, Bool, true, false, not, cond, ◌&&◌, List, [], ◌∷◌, ◌++◌, map, T, ltb, eqb, length, take, drop}
use Rattle.std.proofs.Math.Option
use Rattle.std.proofs.Math.Option.{Option, some}
use Rattle.std.proofs.Math.ListN.{get_elem?}
use Rattle.paper.specs.Sizes.{max_text_bytes, max_unk_entries}
use Rattle.paper.specs.Lists.{empty, all, any, joined, same, is, without, join_with, offsets_from}
use Rattle.paper.specs.Text.Scalar.{utf8, is_scalar, lf, cr, comma}
use Rattle.paper.specs.Numbers.Bytes.{le, value}
use Rattle.paper.specs.Numbers.Numeral.{U32, I32, Integer, modulus16, wrap16}

-- ---- lines

abbrev pub ends_cr : List ℕ → Bool
ends_cr [] = false
ends_cr (c ∷ []) = is cr c
ends_cr (c ∷ d ∷ cs) = ends_cr (d ∷ cs)

-- "one CR directly before LF is dropped, a last CR without LF stays, a final LF starts no line"
pub data Lines : List ℕ → List (List ℕ) → Type 0 where
  no_line : Lines [] []
  last : {cs : List ℕ} → T (not (empty cs)) → T (without lf cs) → Lines cs (cs ∷ [])
  at_LF : {cs l : List ℕ} {ls : List (List ℕ)} (r : List ℕ) → cs ≡ l ++ (lf ∷ r) → T (without lf l) → T (not (ends_cr l)) → Lines r ls → Lines cs (l ∷ ls)
  at_CRLF : {cs l : List ℕ} {ls : List (List ℕ)} (r : List ℕ) → cs ≡ l ++ (cr ∷ lf ∷ r) → T (without lf l) → Lines r ls → Lines cs (l ∷ ls)

-- ---- a line

pub record Entry : Type 0 where
  pub category : List ℕ
  pub left : ℕ
  pub right : ℕ
  -- below 65,536; `meaning16` is what it means
  pub cost : ℕ
  pub details : List ℕ

abbrev pub nul : ℕ
nul = 0x00

-- "Split at commas: category, left, right (u32), cost (i32, sign allowed), details. left and right are kept modulo 65,536; cost modulo 65,536
-- as a signed 16-bit number. Details are the remaining fields joined by NUL."
pub record UnkLine (cs : List ℕ) (e : Entry) : Type 0 where
  pub left_field : List ℕ
  pub right_field : List ℕ
  pub cost_field : List ℕ
  pub more : List (List ℕ)
  pub whole : cs ≡ join_with comma (e.category ∷ left_field ∷ right_field ∷ cost_field ∷ more)
  pub parted : T (all (without comma) (e.category ∷ left_field ∷ right_field ∷ cost_field ∷ more))
  pub left_number : ℕ
  pub right_number : ℕ
  pub cost_number : Integer
  pub left_read : U32 left_field left_number
  pub right_read : U32 right_field right_number
  pub cost_read : I32 cost_field cost_number
  pub left_is : e.left ≡ left_number % modulus16
  pub right_is : e.right ≡ right_number % modulus16
  pub cost_is : e.cost ≡ wrap16 cost_number
  pub details_are : e.details ≡ join_with nul more

-- an entry's numbers have 16 bits
pub record Sixteen (e : Entry) : Type 0 where
  pub left_fits : e.left < modulus16
  pub right_fits : e.right < modulus16
  pub cost_fits : e.cost < modulus16

-- ---- what entries say

-- the length before an entry's details takes four bytes
abbrev pub length_bytes : ℕ
length_bytes = 4

-- the details "behind a 4-byte little-endian length"
unfoldable pub stored : Entry → List ℕ
stored e = le length_bytes (length e.details) ++ e.details

-- the numbers, from k on, of the entries whose first field is the name
abbrev pub entries_from : ℕ → List ℕ → List Entry → List ℕ
entries_from k name [] = []
entries_from k name (e ∷ es) = let r = entries_from (suc k) name es in cond (same name e.category) (k ∷ r) r

pub record Unk : Type 0 where
  -- left, right, cost of each entry
  pub word_entries : List (ℕ × ℕ × ℕ)
  -- where each entry's details begin in the store
  pub offsets : List ℕ
  -- the details, each behind its length
  pub store : List ℕ
  -- the entries of each category, ascending
  pub members : List (List ℕ)

unfoldable pub unk_of : List (List ℕ) → List Entry → Unk
unfolding stored
unk_of names es =
    record {
      word_entries = map (λ e. (e.left, e.right, e.cost)) es;
      offsets = offsets_from 0 (map stored es);
      store = joined (map stored es);
      members = map (λ n. entries_from 0 n es) names;
    }

-- ---- a text

pub data EachUnk : List (List ℕ) → List Entry → Type 0 where
  done : EachUnk [] []
  next : {cs : List ℕ} {e : Entry} {css : List (List ℕ)} {es : List Entry} → UnkLine cs e → EachUnk css es → EachUnk (cs ∷ css) (e ∷ es)

pub record UnkFits (names : List (List ℕ)) (bytes : List ℕ) (u : Unk) : Type 0 where
  pub characters : List ℕ
  pub lines : List (List ℕ)
  pub entries : List Entry
  pub short : length bytes ≤ max_text_bytes
  pub encoded : bytes ≡ utf8 characters
  pub scalars : T (all is_scalar characters)
  pub split : Lines bytes lines
  pub each : EachUnk lines entries
  pub few : length entries ≤ max_unk_entries
  pub says : u ≡ unk_of names entries

-- ---- by number, from 0; `none` is refusal 15, "category, definition or unk entry number unknown"

-- left, right and cost of entry k
abbrev pub word_of : Unk → ℕ → Option (ℕ × ℕ × ℕ)
word_of u k = get_elem? u.word_entries k

-- four bytes say a length, and so many bytes follow
unfoldable pub details_at : List ℕ → ℕ → List ℕ
details_at store at = take (value (take length_bytes (drop at store))) (drop (at + length_bytes) store)

-- "the joined details of an entry", from the store
unfoldable pub details_of : Unk → ℕ → Option (List ℕ)
unfolding details_at
details_of u k = Option.map (details_at u.store) (get_elem? u.offsets k)

-- the numbers of category c's entries
abbrev pub entries_of : Unk → ℕ → Option (List ℕ)
entries_of u c = get_elem? u.members c

-- each is below all behind it
abbrev pub rises : List ℕ → Bool
rises [] = true
rises (k ∷ ks) = all (ltb k) ks && rises ks

abbrev pub Listed : ℕ → List ℕ → Type 0
Listed k ks = T (any (eqb k) ks)

-- "A category's entries are those whose first field equals its name, ascending"
pub record CategoryEntries (name : List ℕ) (es : List Entry) (ks : List ℕ) : Type 0 where
  pub ascending : T (rises ks)
  pub exactly : (k : ℕ) → Listed k ks ↔ ((e : Entry) × (get_elem? es k ≡ some e) × (e.category ≡ name))
