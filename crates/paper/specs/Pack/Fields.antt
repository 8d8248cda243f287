-- The pack of a reading: bits, most significant first, and the bytes that hold them.
-- Assumes nothing.
use Rattle.std.specs.Prelude.{ℕ, zero, suc, ◌+◌, ◌*◌, ◌/◌, ◌%◌, ◌^◌, Bool, cond, List, [], ◌∷◌, ◌++◌, map, length}
use Rattle.paper.specs.Lists.{joined}
use Rattle.paper.specs.CharDef.Reading.{Definition, Range, Reading, references}

-- the widths of fields, in bits
abbrev pub version_width : ℕ
version_width = 8

abbrev pub categories_width : ℕ
categories_width = 10

abbrev pub lines_width : ℕ
lines_width = 10

abbrev pub ranges_width : ℕ
ranges_width = 12

abbrev pub references_width : ℕ
references_width = 14

abbrev pub name_length_width : ℕ
name_length_width = 15

abbrev pub byte_width : ℕ
byte_width = 8

abbrev pub flag_width : ℕ
flag_width = 1

abbrev pub length_width : ℕ
length_width = 32

abbrev pub bound_width : ℕ
bound_width = 16

abbrev pub count_width : ℕ
count_width = 14

abbrev pub number_width : ℕ
number_width = 9

-- of the head, of a definition, and of a range without its category numbers
abbrev pub head_width : ℕ
head_width = version_width + categories_width + lines_width + ranges_width + references_width

abbrev pub definition_width : ℕ
definition_width = flag_width + flag_width + length_width

abbrev pub range_width : ℕ
range_width = bound_width + bound_width + count_width

abbrev pub version : ℕ
version = 1

-- a field: its width and its value
abbrev pub Field : Type 0
Field = ℕ × ℕ

abbrev pub flag : Bool → ℕ
flag b = cond b 1 0

abbrev pub field : ℕ → ℕ → Field
field w n = (w, n)

unfoldable pub head : Reading → List Field
unfolding references
head r =
    field version_width version ∷ field categories_width (length r.names) ∷ field lines_width (length r.definitions)
    ∷ field ranges_width (length r.ranges) ∷ field references_width (references r.ranges) ∷ []

abbrev pub name_fields : List ℕ → List Field
name_fields name = field name_length_width (length name) ∷ map (field byte_width) name

abbrev pub definition_fields : Definition → List Field
definition_fields d = field flag_width (flag d.invoke) ∷ field flag_width (flag d.group) ∷ field length_width d.len ∷ []

abbrev pub range_fields : Range → List Field
range_fields g = field bound_width g.lower ∷ field bound_width g.upper ∷ field count_width (length g.categories) ∷ map (field number_width) g.categories

unfoldable pub pack_fields : Reading → List Field
unfolding head
pack_fields r =
    head r
    ++ (joined (map name_fields r.names) ++ (joined (map definition_fields r.definitions) ++ joined (map range_fields r.ranges)))

-- the low w bits of n, the most significant first
abbrev pub bits : ℕ → ℕ → List ℕ
bits zero n = []
bits (suc w) n = n / 2 ^ w % 2 ∷ bits w n

abbrev pub field_bits : Field → List ℕ
field_bits f = bits f.0 f.1

-- the bits of fields, one field behind another
abbrev pub spell : List Field → List ℕ
spell fs = joined (map field_bits fs)

unfoldable pub pack_bits : Reading → List ℕ
unfolding pack_fields
pack_bits r = spell (pack_fields r)

-- the bits of bytes, in order
abbrev pub bits_of : List ℕ → List ℕ
bits_of bytes = joined (map (bits byte_width) bytes)

-- n bytes as one field with the value v: the most significant first
abbrev pub bytes_of : ℕ → ℕ → List ℕ
bytes_of zero v = []
bytes_of (suc n) v = v / 2 ^ (byte_width * n) % 2 ^ byte_width ∷ bytes_of n v

abbrev pub byte : ℕ → ℕ → ℕ → ℕ → ℕ → ℕ → ℕ → ℕ → ℕ
byte a b c d e f g h = a * 128 + b * 64 + c * 32 + d * 16 + e * 8 + f * 4 + g * 2 + h

-- eight bits to a byte; zero bits fill the last
unfoldable pub in_bytes : List ℕ → List ℕ
in_bytes [] = []
in_bytes (a ∷ []) = byte a 0 0 0 0 0 0 0 ∷ []
in_bytes (a ∷ b ∷ []) = byte a b 0 0 0 0 0 0 ∷ []
in_bytes (a ∷ b ∷ c ∷ []) = byte a b c 0 0 0 0 0 ∷ []
in_bytes (a ∷ b ∷ c ∷ d ∷ []) = byte a b c d 0 0 0 0 ∷ []
in_bytes (a ∷ b ∷ c ∷ d ∷ e ∷ []) = byte a b c d e 0 0 0 ∷ []
in_bytes (a ∷ b ∷ c ∷ d ∷ e ∷ f ∷ []) = byte a b c d e f 0 0 ∷ []
in_bytes (a ∷ b ∷ c ∷ d ∷ e ∷ f ∷ g ∷ []) = byte a b c d e f g 0 ∷ []
in_bytes (a ∷ b ∷ c ∷ d ∷ e ∷ f ∷ g ∷ h ∷ s) = byte a b c d e f g h ∷ in_bytes s

unfoldable pub pack_bytes : Reading → List ℕ
unfolding pack_bits in_bytes
pack_bytes r = in_bytes (pack_bits r)
