-- What a line's bytes say: the paper's rules over marked bytes, with names as bytes. `LineBridge` proves that on UTF-8 it is what the
-- characters say.
-- Assumes nothing.
use Rattle.std.specs.Prelude.{ℕ, true, false, cond, List, [], ◌∷◌, map}
use Rattle.paper.specs.Text.Scalar.{utf8}
use Rattle.paper.specs.CharDef.Line.{blank, category, range, begins0x}
use Rattle.paper.specs.Computed.ReadText.{Found, found, wrong, range_of, category_of}
use Rattle.scan.specs.Marks.{gap_width, words_bytes, body_bytes}

unfoldable pub body_line_bytes : List ℕ → Found
unfolding range_of category_of words_bytes gap_width
body_line_bytes [] = found blank
body_line_bytes (c ∷ cs) =
    cond (begins0x (c ∷ cs)) (range_of (words_bytes (gap_width true) (c ∷ cs))) (category_of (words_bytes (gap_width false) (c ∷ cs)))

-- what a line's bytes say; names are bytes
unfoldable pub line_bytes : List ℕ → Found
unfolding body_bytes body_line_bytes
line_bytes s = body_line_bytes (body_bytes s)

-- a line whose names are bytes, of one whose names are characters
abbrev pub in_bytes : Found → Found
in_bytes (wrong n) = wrong n
in_bytes (found blank) = found blank
in_bytes (found (category name invoke group len)) = found (category (utf8 name) invoke group len)
in_bytes (found (range lower upper names)) = found (range lower upper (map utf8 names))
