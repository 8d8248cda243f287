-- "Refusals by number": a name for each number of the table, in its order and with its words, "given exactly when". The code
-- has the same names as constants in src/lib.rt.
-- Assumes nothing.
use Rattle.std.specs.Prelude.{ℕ}

abbrev pub room_short : ℕ
room_short = 1  -- a reader's lent room is below its size

abbrev pub text_long : ℕ
text_long = 2  -- text over 65,536 bytes

abbrev pub text_ill_formed : ℕ
text_ill_formed = 3  -- text not well-formed UTF-8

abbrev pub range_parts : ℕ
range_parts = 4  -- range field has three or more parts

abbrev pub bound_unreadable : ℕ
bound_unreadable = 5  -- bound is no 16-bit hex number

abbrev pub bound_mark : ℕ
bound_mark = 6  -- bound is FEFF or FFFE

abbrev pub category_fields : ℕ
category_fields = 7  -- category line has not four fields

abbrev pub category_number : ℕ
category_number = 8  -- invoke, group or length is no u32

abbrev pub ranges_full : ℕ
ranges_full = 9  -- range 2,049

abbrev pub references_full : ℕ
references_full = 10  -- references would pass 8,192

abbrev pub category_lines_full : ℕ
category_lines_full = 11  -- category line 513

abbrev pub categories_full : ℕ
categories_full = 12  -- category 513

abbrev pub name_bytes_full : ℕ
name_bytes_full = 13  -- name bytes would pass 16,384

abbrev pub not_scalar : ℕ
not_scalar = 14  -- lookup of a number that is no scalar value

abbrev pub number_unknown : ℕ
number_unknown = 15  -- category, definition or unk entry number unknown

abbrev pub flat_row_long : ℕ
flat_row_long = 16  -- flat table asked for, a row has over 255 categories

abbrev pub table_room_short : ℕ
table_room_short = 17  -- room for rows or flat table below the exact need

abbrev pub pack_version : ℕ
pack_version = 18  -- pack version is not 1

abbrev pub pack_ends : ℕ
pack_ends = 19  -- pack ends inside a field

abbrev pub pack_rule : ℕ
pack_rule = 20  -- pack field breaks its rule

abbrev pub pack_left_over : ℕ
pack_left_over = 21  -- pad bit set or bytes left over

abbrev pub pack_room_short : ℕ
pack_room_short = 22  -- room for a written pack below its length

abbrev pub unk_fields : ℕ
unk_fields = 23  -- unk line has under four fields

abbrev pub unk_number : ℕ
unk_number = 24  -- unk left, right or cost unreadable

abbrev pub unk_entries_full : ℕ
unk_entries_full = 25  -- unk entry 4,097

abbrev pub tables_apart : ℕ
tables_apart = 26  -- tables handed in don't hold together
