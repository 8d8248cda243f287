-- The slots and the hints of two names, computed.
-- Assumes nothing.
use mathlib.Core.Path.{◌≡◌, refl}
use mathlib.Core.List.{List, [], ◌∷◌, map}
use Prim.Native.Nat.{ℕ}
use lib.ListN.{length, get_or}
use Rattle.paper.specs.Tables.Layout.{name_slots}
use Rattle.paper.proofs.Examples.CharDef.{bytes_of}
use Rattle.mark.specs.Mark.{mark, mark_after}
use Rattle.slot.specs.Slots.{slot_word, hint_of, hinted, hints_of}

abbrev names : List (List ℕ)
names = bytes_of "A" ∷ bytes_of "BC" ∷ []

pub slots : map slot_word (name_slots 0 (map length names)) ≡ 1 ∷ 65538 ∷ []
unfolding bytes_of name_slots
slots = refl

pub places : map hint_of names ≡ 65 ∷ 41 ∷ []
unfolding bytes_of hint_of mark mark_after
places = refl

pub hints : map (λ k. get_or (hints_of names) k 7) (41 ∷ 42 ∷ 65 ∷ 511 ∷ 512 ∷ []) ≡ 1 ∷ 0 ∷ 0 ∷ 0 ∷ 7 ∷ []
unfolding bytes_of hints_of hinted hint_of mark mark_after
hints = refl
