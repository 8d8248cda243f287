-- Further texts, by the same statement: slips that look right.
-- Assumes nothing.
use mathlib.Core.Path.{◌≡◌, refl}
use mathlib.Core.List.{List, [], ◌∷◌, map}
use Rattle.paper.specs.CharDef.Reading.{refused}
use Rattle.paper.specs.Computed.ReadText.{read_text}
use Rattle.paper.proofs.Examples.CharDef.{Example, Holds, All, ex, refusal, bounds, names_at, rows_are, boundaries_are}

unfoldable pub further : List Example
further =
    ex "0x10000 A" (refusal 5 1)
    ∷ ex "\n# c\n  A 1 1 +2 # x\n" (rows_are ([] ∷ []))
    ∷ ex "0x41 A\nA 1 0" (refusal 7 2)
    ∷ ex "0x41#c" (bounds ((0x41, 0x41) ∷ []))
    ∷ ex "+0x41 A" (refusal 7 1)
    ∷ ex "0x+41" (bounds ((0x41, 0x41) ∷ []))
    ∷ ex "0x" (refusal 5 1)
    ∷ ex "0x.." (refusal 5 1)
    ∷ ex "0x41.. A" (refusal 5 1)
    ∷ ex "A\u{3000}B 1 0 2\n0x41 A\u{3000}B" (names_at 0x41 ("A" ∷ "B" ∷ []))
    ∷ ex "\u{3000}A 1 0 2\u{3000}" (rows_are ([] ∷ []))
    ∷ ex "A 1 0\u{3000} 2" (refusal 8 1)
    ∷ ex "DEFAULT 1 0 2\n0x41 A" (rows_are (("DEFAULT" ∷ []) ∷ ("A" ∷ []) ∷ ("DEFAULT" ∷ []) ∷ []))
    ∷ ex "0xFFFF A" (boundaries_are (0 ∷ 0xFFFF ∷ 0x10000 ∷ []))
    ∷ ex "0xFFFE A" (refusal 6 1)
    ∷ ex "A 1 0 2 3" (refusal 7 1)
    ∷ ex "A 00000000000000000001 0 2\r" (rows_are ([] ∷ []))
    ∷ []

pub further_hold : All further
unfolding Holds further
further_hold = (refl, (refl, (refl, (refl, (refl, (refl, (refl, (refl, (refl, (refl, (refl, (refl, (refl, (refl, (refl, (refl, (refl, tt)))))))))))))))))

broken_text : map read_text ((0xC0 ∷ []) ∷ (0x41 ∷ 0xE3 ∷ 0x81 ∷ []) ∷ (0x41 ∷ 0xED ∷ 0xA0 ∷ 0x80 ∷ []) ∷ []) ≡ refused 3 0 ∷ refused 3 1 ∷ refused 3 1 ∷ []
unfolding read_text
broken_text = refl
