-- "Sizes": each limit is allowed, one more is refused. The code has the same numbers as constants in src/lib.rt.
-- Assumes nothing.
use Rattle.std.specs.Prelude.{ℕ}

abbrev pub max_text_bytes : ℕ
max_text_bytes = 65536

abbrev pub max_categories : ℕ
max_categories = 512

abbrev pub max_name_bytes : ℕ
max_name_bytes = 16384

abbrev pub max_category_lines : ℕ
max_category_lines = 512

abbrev pub max_ranges : ℕ
max_ranges = 2048

abbrev pub max_references : ℕ
max_references = 8192

abbrev pub max_unk_entries : ℕ
max_unk_entries = 4096

-- what follows from them, and is proved: rows, row places, bytes of a pack, bytes of unk.def's details
abbrev pub max_rows : ℕ
max_rows = 4097

abbrev pub max_row_places : ℕ
max_row_places = 2097664

abbrev pub max_pack_bytes : ℕ
max_pack_bytes = 40519

abbrev pub max_detail_bytes : ℕ
max_detail_bytes = 65536

-- a flat entry keeps the length of a row in 8 bits; the BMP is 0 to FFFF
abbrev pub max_flat_row : ℕ
max_flat_row = 255

abbrev pub bmp_size : ℕ
bmp_size = 65536

-- the fields of a category line, name, invoke, group and length; and what every unk.def line has: category, left, right and cost
abbrev pub line_fields : ℕ
line_fields = 4

-- numbers: 16 bits of a bound, u32, and i32 from -2,147,483,648 on
abbrev pub max_u16 : ℕ
max_u16 = 0xFFFF

abbrev pub max_u32 : ℕ
max_u32 = 0xFFFF_FFFF

abbrev pub max_i32 : ℕ
max_i32 = 2147483647

abbrev pub low_i32 : ℕ
low_i32 = 2147483648
