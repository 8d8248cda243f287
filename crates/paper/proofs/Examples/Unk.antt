-- "Examples; P is proved": `marked_hold` is the paper's table row by row, char.def's rows marked P and unk.def's, as one statement over one
-- table, by computation; a row that says two things stands twice. Behind it stand further texts of unk.def, each with its whole answer.
-- Assumes nothing.
use Prim.Native.Nat.{ℕ, ◌≤◌}
use Prim.Native.String.{String}
use mathlib.Core.Path.{◌≡◌, refl}
use mathlib.Core.Option.{Option, none, some}
use mathlib.Core.List.{List, [], ◌∷◌, ◌++◌, map}
use native.Mathlib.Omega.{arith}
use lib.ListN.{length, replicate}
use Rattle.paper.specs.Sizes.{max_text_bytes, max_unk_entries, max_detail_bytes}
use Rattle.paper.specs.Numbers.Numeral.{Integer, pos, neg, meaning16}
use Rattle.paper.specs.Unk.Entry.{Entry, details_at, details_of, entries_of}
use Rattle.paper.specs.Unk.Bad.{BadUnkLine, fields_short, number_unreadable, entries_full, UnkRefused, too_long, ill_formed, bad_line, UnkAnswer, accepted, refused}
use Rattle.paper.specs.Computed.ReadUnk.{Entries, entries_are, stops, read_entries, read_unk}
use Rattle.paper.proofs.Examples.CharDef.{Example, Holds, table, bytes_of}

-- what is said of an unk.def with the categories A and B
pub data UnkSaying : Type 0 where
  refusal : ℕ → ℕ → UnkSaying
  -- left, right and cost of each entry
  words_are : List (ℕ × ℕ × Integer) → UnkSaying
  store_is : List ℕ → UnkSaying
  offsets_are : List ℕ → UnkSaying
  -- the entries of A and of B
  members_are : List (List ℕ) → UnkSaying
  -- what is found by number
  entries_of_lem : ℕ → Option (List ℕ) → UnkSaying
  details_of_lem : ℕ → Option (List ℕ) → UnkSaying

unfoldable pub UnkSays : UnkSaying → UnkAnswer → Type 0
unfolding meaning16 details_of
UnkSays (refusal n place) a = a ≡ refused n place
UnkSays (words_are ws) (accepted u) = map (λ w. (w.0, w.1, meaning16 w.2)) u.word_entries ≡ ws
UnkSays (words_are ws) (refused n place) = ⊥
UnkSays (store_is bytes) (accepted u) = u.store ≡ bytes
UnkSays (store_is bytes) (refused n place) = ⊥
UnkSays (offsets_are os) (accepted u) = u.offsets ≡ os
UnkSays (offsets_are os) (refused n place) = ⊥
UnkSays (members_are ms) (accepted u) = u.members ≡ ms
UnkSays (members_are ms) (refused n place) = ⊥
UnkSays (entries_of_lem c ks) (accepted u) = entries_of u c ≡ ks
UnkSays (entries_of_lem c ks) (refused n place) = ⊥
UnkSays (details_of_lem k ds) (accepted u) = details_of u k ≡ ds
UnkSays (details_of_lem k ds) (refused n place) = ⊥

-- a row of the paper's table: of char.def or of unk.def
pub data Row : Type 0 where
  char : Example → Row
  unk : String → UnkSaying → Row

unfoldable pub RowHolds : Row → Type 0
unfolding Holds UnkSays read_unk bytes_of
RowHolds (char e) = Holds e
RowHolds (unk text s) = UnkSays s (read_unk (bytes_of "A" ∷ bytes_of "B" ∷ []) (bytes_of text))

abbrev pub Rows : List Row → Type 0
Rows [] = Unit {0}
Rows (r ∷ rs) = RowHolds r × Rows rs

-- the rows marked P
unfoldable pub unk_marked : List Row
unk_marked =
    unk "A,65536,1,-32769,x,y" (words_are ((0, 1, pos 32767) ∷ []))
    ∷ unk "A,65536,1,-32769,x,y" (store_is (0x03 ∷ 0x00 ∷ 0x00 ∷ 0x00 ∷ 0x78 ∷ 0x00 ∷ 0x79 ∷ []))
    ∷ []

unfoldable pub marked : List Row
unfolding table unk_marked
marked = map char table ++ unk_marked

pub marked_hold : Rows marked
unfolding RowHolds marked
marked_hold = (refl, (refl, (refl, (refl, (refl, (refl, (refl, (refl, (refl, (refl, (refl, (refl, (refl, (refl, (refl, (refl, (refl, tt)))))))))))))))))

-- ---- further texts

-- an answer as an editor sees it: number and place, or of each entry left, right, the cost with its sign, and the details at its offset
pub data Shown : Type 0 where
  bad : ℕ → ℕ → Shown
  good : List (ℕ × ℕ × Integer × List ℕ) → Shown

unfoldable pub entries_shown : List ℕ → List (ℕ × ℕ × ℕ) → List ℕ → List (ℕ × ℕ × Integer × List ℕ)
unfolding meaning16 details_at
entries_shown store [] ats = []
entries_shown store (w ∷ ws) [] = []
entries_shown store (w ∷ ws) (at ∷ ats) = (w.0, w.1, meaning16 w.2, details_at store at) ∷ entries_shown store ws ats

unfoldable pub answer_shown : UnkAnswer → Shown
unfolding entries_shown
answer_shown (accepted u) = good (entries_shown u.store u.word_entries u.offsets)
answer_shown (refused n place) = bad n place

-- texts with their answers; each table below is one statement
unfoldable pub Shows : List (String × Shown) → Type 0
unfolding answer_shown read_unk bytes_of
Shows rows = map (λ r. answer_shown (read_unk [] (bytes_of r.0))) rows ≡ map (λ r. r.1) rows

-- an answer of one entry
unfoldable pub one : ℕ → ℕ → Integer → String → Shown
unfolding bytes_of
one left right cost details = good ((left, right, cost, bytes_of details) ∷ [])

-- "one CR directly before LF is dropped, a last CR without LF stays, a final LF starts no line. No comments, no trimming."
unfoldable pub line_ends : List (String × Shown)
unfolding one
line_ends =
    ("", good [])
    ∷ ("\n", bad 23 1)
    ∷ ("\r\n", bad 23 1)
    ∷ ("\r", bad 23 1)
    ∷ ("A,1,2,3,x\n", one 1 2 (pos 3) "x")
    ∷ ("A,1,2,3,x\r\n", one 1 2 (pos 3) "x")
    ∷ ("A,1,2,3,x\r", one 1 2 (pos 3) "x\r")
    ∷ ("A,1,2,3,x\r\r\n", one 1 2 (pos 3) "x\r")
    ∷ ("A,1,2,3,x\ry\n", one 1 2 (pos 3) "x\ry")
    ∷ ("A,1,2,3,x\n\r", bad 23 2)
    ∷ ("A,1,2,3\r\n", one 1 2 (pos 3) "")
    ∷ ("A,1,2,3\r", bad 24 1)
    ∷ ("A,1,2,3\r\r\n", bad 24 1)
    ∷ ("A,1,2,3\n\n", bad 23 2)
    ∷ ("A,1,2,3\r\n\r\n", bad 23 2)
    ∷ ("A,1,2,3\n\nA,1,2,3", bad 23 2)
    ∷ ("# A,1,2,3,x", one 1 2 (pos 3) "x")
    ∷ ("#", bad 23 1)
    ∷ ("A,1,2,3, x #y ", one 1 2 (pos 3) " x #y ")
    ∷ ("A,1,2,3,x\nB,4,5,6,y", good ((1, 2, pos 3, 0x78 ∷ []) ∷ (4, 5, pos 6, 0x79 ∷ []) ∷ []))
    ∷ []

line_ends_lem : Shows line_ends
unfolding Shows line_ends
line_ends_lem = refl

-- "Split at commas": at each U+002C and at nothing else; "details are the remaining fields joined by NUL", and U+0000 in a field is kept
unfoldable pub commas : List (String × Shown)
unfolding one
commas =
    ("A", bad 23 1)
    ∷ ("A,1", bad 23 1)
    ∷ ("A,1,2", bad 23 1)
    ∷ ("A,1,2,3", one 1 2 (pos 3) "")
    ∷ ("A,1,2,3,", one 1 2 (pos 3) "")
    ∷ ("A,1,2,3,,", one 1 2 (pos 3) "\0")
    ∷ ("A,1,2,3,,x", one 1 2 (pos 3) "\0x")
    ∷ ("A,1,2,3,x,y,z", one 1 2 (pos 3) "x\0y\0z")
    ∷ ("A,1,2,3,x\0y,z", one 1 2 (pos 3) "x\0y\0z")
    ∷ (",1,2,3", one 1 2 (pos 3) "")
    ∷ (",,,", bad 24 1)
    ∷ (",,", bad 23 1)
    ∷ ("A,1,2;3", bad 23 1)
    ∷ ("A,1,2，3", bad 23 1)
    ∷ ("A,1,2\t3", bad 23 1)
    ∷ ("\"A,1\",2,3", bad 24 1)
    ∷ ("A,1\\,2,3", bad 24 1)
    ∷ ("A\0,1,2,3,x", one 1 2 (pos 3) "x")
    ∷ ("A,1\0,2,3", bad 24 1)
    ∷ []

commas_part : Shows commas
unfolding Shows commas
commas_part = refl

-- left and right: u32, kept modulo 65,536
unfoldable pub lefts : List (String × Shown)
unfolding one
lefts =
    ("A,0,0,0", one 0 0 (pos 0) "")
    ∷ ("A,+5,+6,0", one 5 6 (pos 0) "")
    ∷ ("A,007,00000000000000000008,0", one 7 8 (pos 0) "")
    ∷ ("A,65535,1,0", one 65535 1 (pos 0) "")
    ∷ ("A,65536,1,0", one 0 1 (pos 0) "")
    ∷ ("A,65537,1,0", one 1 1 (pos 0) "")
    ∷ ("A,4294967295,1,0", one 65535 1 (pos 0) "")
    ∷ ("A,4294967296,1,0", bad 24 1)
    ∷ ("A,1,65535,0", one 1 65535 (pos 0) "")
    ∷ ("A,1,65536,0", one 1 0 (pos 0) "")
    ∷ ("A,1,65537,0", one 1 1 (pos 0) "")
    ∷ ("A,1,4294967295,0", one 1 65535 (pos 0) "")
    ∷ ("A,1,4294967296,0", bad 24 1)
    ∷ ("A,18446744073709551617,1,0", bad 24 1)
    ∷ ("A,-0,1,0", bad 24 1)
    ∷ ("A,1,-0,0", bad 24 1)
    ∷ ("A,-1,1,0", bad 24 1)
    ∷ ("A,+,1,0", bad 24 1)
    ∷ ("A,,1,0", bad 24 1)
    ∷ ("A,1,,0", bad 24 1)
    ∷ ("A,++5,1,0", bad 24 1)
    ∷ ("A, 5,1,0", bad 24 1)
    ∷ ("A,5 ,1,0", bad 24 1)
    ∷ ("A,5a,1,0", bad 24 1)
    ∷ ("A,0x5,1,0", bad 24 1)
    ∷ ("A,1_000,1,0", bad 24 1)
    ∷ ("A,1.0,1,0", bad 24 1)
    ∷ ("A,５,1,0", bad 24 1)
    ∷ []

lefts_wrap : Shows lefts
unfolding Shows lefts
lefts_wrap = refl

-- the cost: i32, kept modulo 65,536 as a signed 16-bit number
unfoldable pub costs : List (String × Shown)
unfolding one
costs =
    ("A,1,2,-0", one 1 2 (pos 0) "")
    ∷ ("A,1,2,+5", one 1 2 (pos 5) "")
    ∷ ("A,1,2,-5", one 1 2 (neg 5) "")
    ∷ ("A,1,2,-+5", bad 24 1)
    ∷ ("A,1,2,+-5", bad 24 1)
    ∷ ("A,1,2,--5", bad 24 1)
    ∷ ("A,1,2,-", bad 24 1)
    ∷ ("A,1,2,+", bad 24 1)
    ∷ ("A,1,2,", bad 24 1)
    ∷ ("A,1,2,- 5", bad 24 1)
    ∷ ("A,1,2,−5", bad 24 1)
    ∷ ("A,1,2,32767", one 1 2 (pos 32767) "")
    ∷ ("A,1,2,32768", one 1 2 (neg 32768) "")
    ∷ ("A,1,2,65535", one 1 2 (neg 1) "")
    ∷ ("A,1,2,65536", one 1 2 (pos 0) "")
    ∷ ("A,1,2,-32768", one 1 2 (neg 32768) "")
    ∷ ("A,1,2,-32769", one 1 2 (pos 32767) "")
    ∷ ("A,1,2,-65535", one 1 2 (pos 1) "")
    ∷ ("A,1,2,-65536", one 1 2 (pos 0) "")
    ∷ ("A,1,2,-65537", one 1 2 (neg 1) "")
    ∷ ("A,1,2,2147483647", one 1 2 (neg 1) "")
    ∷ ("A,1,2,2147483648", bad 24 1)
    ∷ ("A,1,2,-2147483648", one 1 2 (pos 0) "")
    ∷ ("A,1,2,-2147483649", bad 24 1)
    ∷ []

costs_wrap : Shows costs
unfolding Shows costs
costs_wrap = refl

-- "lines from the top .. Within an unk line 23, 24, 25", and "23 comes before 24 even where U reads a number first"
unfoldable pub orders : List (String × Shown)
orders =
    ("A,x", bad 23 1)
    ∷ ("A,x,y", bad 23 1)
    ∷ ("A,x,y,z", bad 24 1)
    ∷ ("A,1,2,3\nA,x,2,3\nA", bad 24 2)
    ∷ ("A,1,2,3\nA\nA,x,2,3", bad 23 2)
    ∷ []

orders_hold : Shows orders
unfolding Shows orders
orders_hold = refl

ill_formed_first : map (read_unk []) ((0x0A ∷ 0xFF ∷ []) ∷ (0x41 ∷ 0x2C ∷ 0xE3 ∷ 0x81 ∷ []) ∷ []) ≡ refused 3 1 ∷ refused 3 2 ∷ []
unfolding read_unk
ill_formed_first = refl

-- unk.def's "Sizes"
sizes_are : max_text_bytes ∷ max_unk_entries ∷ max_detail_bytes ∷ [] ≡ 65536 ∷ 4096 ∷ 65536 ∷ []
sizes_are = refl

-- 65,537 bytes are refused by 2, and fewer never are
too_long_text : read_unk [] (replicate 65537 0x41) ≡ refused 2 0
unfolding read_unk
too_long_text = refl

not_too_long : (bytes : List ℕ) (place : ℕ) → length bytes ≤ 65536 → UnkRefused bytes 2 place → ⊥
not_too_long bytes place short r = text r refl
  where
    line : {before n : ℕ} {cs : List ℕ} → BadUnkLine before cs n → n ≡ 2 → ⊥
    line (fields_short u) e = omega arith
    line (number_unreadable u) e = omega arith
    line (entries_full u full) e = omega arith

    text : {n k : ℕ} → UnkRefused bytes n k → n ≡ 2 → ⊥
    text (too_long long) e = omega arith
    text (ill_formed little ill l) e = omega arith
    text (bad_line little w f) e = line f.wrong e

-- 4,096 entries are allowed and one more is 25, at line 4,097; 23 and 24 come before it. Each row has the number of the first line
pub record LateLines : Type 0 where
  pub from : ℕ
  pub texts : List String
  pub found : Entries

unfoldable pub entry_one : Entry
entry_one = record { category = 0x41 ∷ []; left = 1; right = 2; cost = 3; details = [] }

unfoldable pub lates : List LateLines
unfolding entry_one
lates =
    record { from = 4096; texts = "A,1,2,3" ∷ []; found = entries_are (entry_one ∷ []) }
    ∷ record { from = 4096; texts = "A,1,2,3" ∷ "A,1,2,3" ∷ []; found = stops 25 4097 }
    ∷ record { from = 4096; texts = "A,1,2,3" ∷ "A,1,x,3" ∷ []; found = stops 24 4097 }
    ∷ record { from = 4096; texts = "A,1,2,3" ∷ "A,1,x" ∷ []; found = stops 23 4097 }
    ∷ record { from = 4097; texts = []; found = entries_are [] }
    ∷ record { from = 4097; texts = "A,1,2,3" ∷ "A" ∷ []; found = stops 25 4097 }
    ∷ []

entry_limit : map (λ r. read_entries r.from (map bytes_of r.texts)) lates ≡ map (λ r. r.found) lates
unfolding read_entries bytes_of lates
entry_limit = refl

-- the store, the offsets in it, the entries of A and B, and what is found by number or unknown
unfoldable pub unk_tables : List Row
unk_tables =
    unk "A,1,2,3" (store_is (0 ∷ 0 ∷ 0 ∷ 0 ∷ []))
    ∷ unk "A,1,2,3,x\nC,1,2,3\nA,4,5,6,あ" (store_is (1 ∷ 0 ∷ 0 ∷ 0 ∷ 0x78 ∷ 0 ∷ 0 ∷ 0 ∷ 0 ∷ 3 ∷ 0 ∷ 0 ∷ 0 ∷ 0xE3 ∷ 0x81 ∷ 0x82 ∷ []))
    ∷ unk "A,1,2,3,x\nC,1,2,3\nA,4,5,6,あ" (offsets_are (0 ∷ 5 ∷ 9 ∷ []))
    ∷ unk "A,1,2,3,x\nC,1,2,3\nA,4,5,6\nB,1,1,1" (members_are ((0 ∷ 2 ∷ []) ∷ (3 ∷ []) ∷ []))
    ∷ unk "A,1,2,3,x\nC,1,2,3\nA,4,5,6,y\nB,1,1,1" (entries_of_lem 0 (some (0 ∷ 2 ∷ [])))
    ∷ unk "A,1,2,3,x\nC,1,2,3\nA,4,5,6,y\nB,1,1,1" (entries_of_lem 1 (some (3 ∷ [])))
    ∷ unk "A,1,2,3,x\nC,1,2,3\nA,4,5,6,y\nB,1,1,1" (entries_of_lem 2 none)
    ∷ unk "A,1,2,3,x\nC,1,2,3\nA,4,5,6,y\nB,1,1,1" (details_of_lem 2 (some (0x79 ∷ [])))
    ∷ unk "A,1,2,3,x\nC,1,2,3\nA,4,5,6,y\nB,1,1,1" (details_of_lem 3 (some []))
    ∷ unk "A,1,2,3,x\nC,1,2,3\nA,4,5,6,y\nB,1,1,1" (details_of_lem 4 none)
    ∷ unk "a,1,2,3\n A,1,2,3\nA ,1,2,3\nAB,1,2,3\n,1,2,3" (members_are ([] ∷ [] ∷ []))
    ∷ []

unk_tables_lem : Rows unk_tables
unfolding RowHolds unk_tables
unk_tables_lem = (refl, (refl, (refl, (refl, (refl, (refl, (refl, (refl, (refl, (refl, (refl, tt)))))))))))
