-- Lines, pinned by computation: which refusal comes first, each limit and one more, separators, digits and flags. Where a text is
-- accepted its whole reading is compared.
-- Assumes nothing.
use Prim.Native.Nat.{ℕ, zero, suc, ◌/◌, ◌%◌}
use Prim.Native.Char.{code}
use Prim.Native.String.{String, [] as empty_text, ◌∷◌ as ◌then◌}
use mathlib.Core.Path.{◌≡◌, refl}
use mathlib.Core.Bool.{Bool, true, false}
use mathlib.Core.List.{List, [], ◌∷◌, ◌++◌, map}
use lib.ListN.{length, replicate}
use Rattle.paper.specs.Lists.{select}
use Rattle.paper.specs.Text.Scalar.{is_sep}
use Rattle.paper.specs.Numbers.Numeral.{digit_of}
use Rattle.paper.specs.CharDef.Reading.{Reading, Answer, accepted, name_bytes, references}
use Rattle.paper.specs.Computed.ReadText.{Step, go_on, stop, verdict, read_text}
use Rattle.paper.proofs.Examples.CharDef.{bytes_of, Example, Holds, All, ex, refusal}

-- ---- which refusal comes first

unfoldable pub orders : List Example
orders =
    -- the lower bound before the upper
    ex "0xFEFF..0xZZ A" (refusal 6 1)
    ∷ ex "0xZZ..0xFEFF A" (refusal 5 1)
    ∷ ex "0x41..0xFFFE" (refusal 6 1)
    ∷ ex "0x41..0x10000" (refusal 5 1)
    -- 4 before 5 and 6, and `..` is found from the left
    ∷ ex "0xFEFF..0xZZ..0x41" (refusal 4 1)
    ∷ ex "0xZZ....0xFEFF" (refusal 4 1)
    ∷ ex "0xFEFF...0x41" (refusal 6 1)
    -- 7 before 8, and any of the three numbers
    ∷ ex "A x 0" (refusal 7 1)
    ∷ ex "A x 0 0 0" (refusal 7 1)
    ∷ ex "A" (refusal 7 1)
    ∷ ex "A 4294967296 0 0" (refusal 8 1)
    ∷ ex "A 0 4294967296 0" (refusal 8 1)
    ∷ ex "A 0 0 4294967296" (refusal 8 1)
    ∷ ex "A -0 0 0" (refusal 8 1)
    -- VT, U+0085, U+00A0 and U+3000 part no fields of a category line
    ∷ ex "A\u{b}1 0 2" (refusal 7 1)
    ∷ ex "A\u{85}1 0 2" (refusal 7 1)
    ∷ ex "A\u{a0}1 0 2" (refusal 7 1)
    ∷ ex "A\u{3000}1 0 2" (refusal 7 1)
    -- digits are ASCII
    ∷ ex "0x4１" (refusal 5 1)
    ∷ ex "A 1 0 ２" (refusal 8 1)
    -- the first bad line
    ∷ ex "A 1 0 2\n0xFEFF\n0xZZ" (refusal 6 2)
    ∷ []

orders_hold : All orders
unfolding Holds orders
orders_hold = (refl, (refl, (refl, (refl, (refl, (refl, (refl, (refl, (refl, (refl, (refl, (refl, (refl, (refl, (refl, (refl, (refl, (refl, (refl, (refl, (refl, tt)))))))))))))))))))))

-- ---- what is read

-- names in order, definitions and ranges
pub record Said : Type 0 where
  pub text : String
  pub names : List String
  pub definitions : List (Bool × Bool × ℕ)
  pub ranges : List (ℕ × ℕ × List ℕ)

unfoldable pub reading : Said → Reading
unfolding bytes_of
reading s =
    record {
      names = map bytes_of s.names;
      definitions = map (λ d. record { invoke = d.0; group = d.1; len = d.2 }) s.definitions;
      ranges = map (λ g. record { lower = g.0; upper = g.1; categories = g.2 }) s.ranges;
    }

abbrev pub category : String → String → List (Bool × Bool × ℕ) → Said
category t name ds = record { text = t; names = name ∷ []; definitions = ds; ranges = [] }

abbrev pub bounded : String → ℕ → ℕ → Said
bounded t lower upper = record { text = t; names = []; definitions = []; ranges = (lower, upper, []) ∷ [] }

unfoldable pub said : List Said
said =
    -- flags are true exactly at 1, however it is spelled
    category "A 0 1 0" "A" ((false, true, 0) ∷ [])
    ∷ category "A 1 2 0" "A" ((true, false, 0) ∷ [])
    ∷ category "A 2 0 1" "A" ((false, false, 1) ∷ [])
    ∷ category "A +1 01 0" "A" ((true, true, 0) ∷ [])
    ∷ category "A 4294967295 4294967295 4294967295" "A" ((false, false, 4294967295) ∷ [])
    -- `+`, leading zeros, a trailing CR, a comment, U+3000 around the body
    ∷ category "A 1 1 +2" "A" ((true, true, 2) ∷ [])
    ∷ category "A 00000000000000000001 0 002\r" "A" ((true, false, 2) ∷ [])
    ∷ category "  A 1 1 +2 # x" "A" ((true, true, 2) ∷ [])
    ∷ category "\u{3000}A 1 0 2\u{3000}" "A" ((true, false, 2) ∷ [])
    -- TAB, FF, CR and space part the fields, in runs; VT, U+0085, U+00A0 and U+3000 stand in a name
    ∷ category "A\t1\u{c}0\r2" "A" ((true, false, 2) ∷ [])
    ∷ category "A \t1\u{c}\r0  2" "A" ((true, false, 2) ∷ [])
    ∷ category "A\u{b}B 1 0 2" "A\u{b}B" ((true, false, 2) ∷ [])
    ∷ category "A\u{85}B 1 0 2" "A\u{85}B" ((true, false, 2) ∷ [])
    ∷ category "A\u{a0}B 1 0 2" "A\u{a0}B" ((true, false, 2) ∷ [])
    ∷ category "A\u{3000}B 1 0 2" "A\u{3000}B" ((true, false, 2) ∷ [])
    -- one name, defined twice
    ∷ category "A 1 0 2\nA 0 1 3" "A" ((true, false, 2) ∷ (false, true, 3) ∷ [])
    -- bounds: hex of both cases, every `0x` taken off, `+`, surrogates, the ends
    ∷ bounded "0xaBcD..0xAbCd" 0xABCD 0xABCD
    ∷ bounded "0x0x41..43" 0x41 0x43
    ∷ bounded "0x+41..+43" 0x41 0x43
    ∷ bounded "0x0..0x0000FFFF" 0x0000 0xFFFF
    ∷ bounded "0xD7FF..0xD800" 0xD7FF 0xFFFD
    ∷ bounded "0xDFFF..0xE000" 0xFFFD 0xE000
    ∷ bounded "0xFEFE..0xFF00" 0xFEFE 0xFF00
    ∷ bounded "0xFFFD..0xFFFF" 0xFFFD 0xFFFF
    -- names by first sight, in either kind of line, and a name once for each mention
    ∷ record { text = "0x41 B\u{3000}A B # C\nC 0 0 0\nA 0 0 1"; names = "B" ∷ "A" ∷ "C" ∷ []; definitions = (false, false, 0) ∷ (false, false, 1) ∷ []; ranges = (0x41, 0x41, 0 ∷ 1 ∷ 0 ∷ []) ∷ [] }
    ∷ record { text = "A\u{3000}B 1 0 2\n0x41 A\u{3000}B"; names = "A\u{3000}B" ∷ "A" ∷ "B" ∷ []; definitions = (true, false, 2) ∷ []; ranges = (0x41, 0x41, 1 ∷ 2 ∷ []) ∷ [] }
    ∷ []

abbrev answers : List Said → List Answer
answers ss = map (λ s. read_text (bytes_of s.text)) ss

said_hold : answers said ≡ map (λ s. accepted (reading s)) said
unfolding read_text said reading
said_hold = refl

-- ---- each limit and one more

-- the characters of a line
unfoldable chars_of : String → List ℕ
chars_of empty_text = []
chars_of (◌then◌ c s) = code c ∷ chars_of s

-- so many names of 2 bytes and as many more, no two the same
unfoldable many_names : ℕ → ℕ → List (List ℕ)
many_names zero more = []
many_names (suc k) more = ((k / 256) ∷ (k % 256) ∷ replicate more 0) ∷ many_names k more

-- names, so many definitions, and ranges with so many references each
unfoldable state : List (List ℕ) → ℕ → List ℕ → Reading
state names definitions counts =
    record {
      names = names;
      definitions = replicate definitions (record { invoke = false; group = false; len = 0 });
      ranges = map (λ k. record { lower = 0; upper = 0; categories = replicate k 0 }) counts;
    }

-- what a line leaves behind: a refusal, or how many names, definitions, ranges, references and name bytes there are
pub data Outcome : Type 0 where
  stops : ℕ → Outcome
  counts : ℕ → ℕ → ℕ → ℕ → ℕ → Outcome

abbrev pub outcome : Step → Outcome
outcome (stop n) = stops n
outcome (go_on r) = counts (length r.names) (length r.definitions) (length r.ranges) (references r.ranges) (name_bytes r.names)

pub record Limit : Type 0 where
  pub before : Reading
  pub line : String
  pub after : Outcome

abbrev at : Reading → String → Outcome → Limit
at r l o = record { before = r; line = l; after = o }

-- `A` and others: 511 and 512 names; 16,383 and 16,384 bytes, in 32 names and in 511 or 512
names511 : List (List ℕ)
names511 = (0x41 ∷ []) ∷ many_names 510 0

names512 : List (List ℕ)
names512 = (0x41 ∷ []) ∷ many_names 511 0

bytes16383 : List (List ℕ)
bytes16383 = replicate 511 0xFF ∷ many_names 31 510

bytes16384 : List (List ℕ)
bytes16384 = many_names 32 510

names511bytes16383 : List (List ℕ)
names511bytes16383 = replicate 63 0xFF ∷ many_names 510 30

names512bytes16384 : List (List ℕ)
names512bytes16384 = many_names 512 30

-- 8,191 and 8,192 references in 16 ranges; and 8,192 in 2,048
references8191 : List ℕ
references8191 = 511 ∷ replicate 15 512

references8192 : List ℕ
references8192 = replicate 16 512

ranges2048references8192 : List ℕ
ranges2048references8192 = replicate 16 512 ++ replicate 2032 0

unfoldable limits : List Limit
unfolding many_names state names511 names512 bytes16383 bytes16384 names511bytes16383 names512bytes16384 references8191 references8192 ranges2048references8192
limits =
    -- 9
    at (state [] 0 (replicate 2047 0)) "0x41" (counts 0 0 2048 0 0)
    ∷ at (state [] 0 (replicate 2048 0)) "0x41" (stops 9)
    -- 10
    ∷ at (state [] 0 references8191) "0x41 A" (counts 1 0 17 8192 1)
    ∷ at (state [] 0 references8191) "0x41 A A" (stops 10)
    ∷ at (state [] 0 references8192) "0x41 A" (stops 10)
    ∷ at (state [] 0 references8192) "0x41" (counts 0 0 17 8192 0)
    -- 11
    ∷ at (state [] 511 []) "A 0 0 0" (counts 1 512 0 0 1)
    ∷ at (state [] 512 []) "A 0 0 0" (stops 11)
    -- 12, and a name that is known takes no room
    ∷ at (state names511 0 []) "B 0 0 0" (counts 512 1 0 0 1022)
    ∷ at (state names512 0 []) "B 0 0 0" (stops 12)
    ∷ at (state names512 0 []) "A 0 0 0" (counts 512 1 0 0 1023)
    ∷ at (state names511 0 []) "0x41 B A B" (counts 512 0 1 3 1022)
    ∷ at (state names511 0 []) "0x41 B A C" (stops 12)
    -- 13
    ∷ at (state bytes16383 0 []) "A 0 0 0" (counts 33 1 0 0 16384)
    ∷ at (state bytes16383 0 []) "AB 0 0 0" (stops 13)
    ∷ at (state bytes16384 0 []) "0x41 A" (stops 13)
    ∷ at (state bytes16384 0 []) "0x41" (counts 32 0 1 0 16384)
    -- 9 before 10, 10 before names, 11 before names, 12 before 13, names left to right
    ∷ at (state [] 0 ranges2048references8192) "0x41 A" (stops 9)
    ∷ at (state names512 0 references8192) "0x41 B" (stops 10)
    ∷ at (state names512 512 []) "B 0 0 0" (stops 11)
    ∷ at (state names512bytes16384 0 []) "B 0 0 0" (stops 12)
    ∷ at (state names511bytes16383 0 []) "0x41 B CD" (stops 12)
    ∷ at (state names511bytes16383 0 []) "0x41 CD B" (stops 13)
    -- what is wrong with a line by itself comes before every limit
    ∷ at (state names512 512 ranges2048references8192) "0xZZ B" (stops 5)
    ∷ at (state names512 512 ranges2048references8192) "B 0 0" (stops 7)
    ∷ at (state names512 512 ranges2048references8192) "B 0 0 x" (stops 8)
    ∷ at (state names512 512 ranges2048references8192) "# B" (counts 512 512 2048 8192 1023)
    ∷ []

limits_hold : map (λ l. outcome (verdict l.before (chars_of l.line))) limits ≡ map (λ l. l.after) limits
unfolding limits verdict chars_of references name_bytes
limits_hold = refl

-- ---- characters

-- the numbers from k on, n of them
counted : ℕ → ℕ → List ℕ
counted zero k = []
counted (suc n) k = k ∷ counted n (suc k)

-- hex digits of both cases, and 16 for what is none, over the first 128 characters
digits_are : map digit_of (counted 128 0) ≡
    replicate 48 16 ++ (0 ∷ 1 ∷ 2 ∷ 3 ∷ 4 ∷ 5 ∷ 6 ∷ 7 ∷ 8 ∷ 9 ∷ [])
    ++ replicate 7 16 ++ (10 ∷ 11 ∷ 12 ∷ 13 ∷ 14 ∷ 15 ∷ [])
    ++ replicate 26 16 ++ (10 ∷ 11 ∷ 12 ∷ 13 ∷ 14 ∷ 15 ∷ [])
    ++ replicate 25 16
unfolding digit_of counted
digits_are = refl

-- the separators of a category line, over the characters up to U+3000
separators_are : select is_sep (counted 0x3001 0) ≡ 0x09 ∷ 0x0C ∷ 0x0D ∷ 0x20 ∷ []
unfolding is_sep counted
separators_are = refl
