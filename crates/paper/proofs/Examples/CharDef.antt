-- The paper's examples marked P, but for unk.def's: one statement over one table, proved by computation.
-- Assumes nothing.
use Prim.Native.Nat.{ℕ}
use Prim.Native.Char.{code}
use Prim.Native.String.{String, [] as empty_text, ◌∷◌ as ◌then◌}
use mathlib.Core.Path.{◌≡◌, refl}
use mathlib.Core.List.{List, [], ◌∷◌, ◌++◌, map}
use lib.ListN.{get_or}
use Rattle.paper.specs.Text.Scalar.{utf8_of}
use Rattle.paper.specs.CharDef.Reading.{Reading, Answer, accepted, refused}
use Rattle.paper.specs.Rows.Covering.{categories_at, boundaries, rows}
use Rattle.paper.specs.Pack.Fields.{pack_bytes}
use Rattle.paper.specs.Computed.ReadText.{read_text}

-- the bytes of a quoted text
unfoldable pub bytes_of : String → List ℕ
unfolding utf8_of
bytes_of empty_text = []
bytes_of (◌then◌ c s) = utf8_of (code c) ++ bytes_of s

-- what the paper says of a text
pub data Saying : Type 0 where
  -- it is refused: number and place
  refusal : ℕ → ℕ → Saying
  -- it is accepted, and the bounds of its ranges are these
  bounds : List (ℕ × ℕ) → Saying
  -- the names at a code point
  names_at : ℕ → List String → Saying
  boundaries_are : List ℕ → Saying
  -- the names of each row
  rows_are : List (List String) → Saying
  packed : List ℕ → Saying

unfoldable pub names_by : Reading → List ℕ → List (List ℕ)
names_by r cs = map (λ c. get_or r.names c []) cs

unfoldable pub Says : Saying → Answer → Type 0
unfolding names_by bytes_of categories_at boundaries rows pack_bytes
Says (refusal n place) a = a ≡ refused n place
Says (bounds bs) (accepted r) = map (λ g. (g.lower, g.upper)) r.ranges ≡ bs
Says (bounds bs) (refused n place) = ⊥
Says (names_at c ns) (accepted r) = names_by r (categories_at r c) ≡ map bytes_of ns
Says (names_at c ns) (refused n place) = ⊥
Says (boundaries_are bs) (accepted r) = boundaries r ≡ bs
Says (boundaries_are bs) (refused n place) = ⊥
Says (rows_are rs) (accepted r) = map (names_by r) (rows r) ≡ map (map bytes_of) rs
Says (rows_are rs) (refused n place) = ⊥
Says (packed bytes) (accepted r) = pack_bytes r ≡ bytes
Says (packed bytes) (refused n place) = ⊥

pub record Example : Type 0 where
  pub text : String
  pub says : Saying

unfoldable pub Holds : Example → Type 0
unfolding Says read_text bytes_of
Holds e = Says e.says (read_text (bytes_of e.text))

abbrev pub ex : String → Saying → Example
ex t s = record { text = t; says = s }

unfoldable pub table : List Example
table =
    ex "" (rows_are ([] ∷ []))
    ∷ ex "" (packed (0x01 ∷ 0x00 ∷ 0x00 ∷ 0x00 ∷ 0x00 ∷ 0x00 ∷ 0x00 ∷ []))
    ∷ ex "0x41 A" (names_at 0x41 ("A" ∷ []))
    ∷ ex "0x41 A" (names_at 0x42 [])
    ∷ ex "0x0x41..43 A" (bounds ((0x41, 0x43) ∷ []))
    ∷ ex "0xFEFF A" (refusal 6 1)
    ∷ ex "0xD800..0xDFFF A" (bounds ((0xFFFD, 0xFFFD) ∷ []))
    ∷ ex "0x43..0x41 A" (boundaries_are (0 ∷ 0x42 ∷ 0x43 ∷ []))
    ∷ ex "0x43..0x41 A" (rows_are ([] ∷ [] ∷ [] ∷ []))
    ∷ ex "0x41....0x43 A" (refusal 4 1)
    ∷ ex "0x41...0x43 A" (refusal 5 1)
    ∷ ex "A 1 0" (refusal 7 1)
    ∷ ex "A 4294967296 0 0" (refusal 8 1)
    ∷ ex "0x41 B A\n0x41 A C" (rows_are ([] ∷ ("B" ∷ "A" ∷ "C" ∷ []) ∷ [] ∷ []))
    ∷ ex "A 1 0 2" (packed (0x01 ∷ 0x00 ∷ 0x40 ∷ 0x10 ∷ 0x00 ∷ 0x00 ∷ 0x00 ∷ 0x00 ∷ 0x0A ∷ 0x0C ∷ 0x00 ∷ 0x00 ∷ 0x00 ∷ 0x04 ∷ []))
    ∷ []

abbrev pub All : List Example → Type 0
All [] = Unit {0}
All (e ∷ es) = Holds e × All es

pub examples : All table
unfolding Holds table
examples = (refl, (refl, (refl, (refl, (refl, (refl, (refl, (refl, (refl, (refl, (refl, (refl, (refl, (refl, (refl, tt)))))))))))))))
