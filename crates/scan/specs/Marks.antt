-- A line's bytes, said without decoding: each byte is marked by whether it belongs to a gap between words,
-- and what the paper says of characters is said of marked bytes. `Bridge` and `BodyBridge` here and `LineBridge` in crate `line` prove that
-- on UTF-8 both say the same.
-- Assumes nothing.
use Rattle.std.specs.Prelude.{ℕ, zero, suc, ◌-◌, Bool, true, false, not, cond, ◌&&◌, List, [], ◌∷◌, map, ltb, eqb}
use Rattle.text.specs.Answers.{white_width}
use Rattle.paper.specs.Lists.{words, until, trim_start, trim_end}
use Rattle.paper.specs.Text.Scalar.{is_white, is_sep, hash}

-- ---- how wide a gap's first character is, from the first bytes

-- TAB, FF, CR or space in front: 1; else 0
unfoldable pub sep_width : List ℕ → ℕ
unfolding is_sep
sep_width [] = 0
sep_width (b ∷ s) = cond (is_sep b) 1 0

-- the gaps of a range line, and those of a category line
unfoldable pub gap_width : Bool → List ℕ → ℕ
unfolding white_width sep_width
gap_width true s = white_width s
gap_width false s = sep_width s

-- a byte below 80 that is a gap by itself
abbrev pub gap_byte : Bool → ℕ → Bool
gap_byte true b = is_white b
gap_byte false b = is_sep b

-- ---- marked bytes

-- a byte, and whether it belongs to a gap
abbrev pub Mark : Type 0
Mark = ℕ × Bool

abbrev pub byte : Mark → ℕ
byte m = m.0

abbrev pub in_gap : Mark → Bool
in_gap m = m.1

abbrev pub hash_mark : Mark → Bool
hash_mark m = eqb m.0 hash && not m.1

-- from a byte of which `skip` and those after belong to the gap before
unfoldable pub marks_from : (List ℕ → ℕ) → ℕ → List ℕ → List Mark
marks_from g skip [] = []
marks_from g zero (b ∷ s) = (b, ltb 0 (g (b ∷ s))) ∷ marks_from g (g (b ∷ s) - 1) s
marks_from g (suc skip) (b ∷ s) = (b, true) ∷ marks_from g skip s

unfoldable pub marks : (List ℕ → ℕ) → List ℕ → List Mark
unfolding marks_from
marks g s = marks_from g 0 s

-- the words between the gaps
unfoldable pub words_bytes : (List ℕ → ℕ) → List ℕ → List (List ℕ)
unfolding marks
words_bytes g s = map (map byte) (words in_gap (marks g s))

-- before the first `#`, trimmed
unfoldable pub body_bytes : List ℕ → List ℕ
unfolding marks white_width
body_bytes s = map byte (trim_end in_gap (until hash_mark (trim_start in_gap (marks white_width s))))
