-- The names that a store and its slots lay out while a text is read, and what finding one there promises.
-- Assumes nothing.
use Rattle.std.specs.Prelude.{ℕ, ◌≤◌, ◌<◌, ◌≡◌, Bool, List, [], map, length, get_or, set}
use Rattle.paper.specs.Sizes.{max_categories, max_name_bytes}
use Rattle.paper.specs.Lists.{same, position_of, joined}
use Rattle.paper.specs.CharDef.Reading.{name_bytes}
use Rattle.paper.specs.Tables.Layout.{name_slots}
use Rattle.paper.specs.Tables.Lent.{padded}
use Rattle.seek.specs.Finds.{Finds}
use Rattle.slot.specs.Slots.{slot_word, with_word, with_hint, hints_of, slotted}
use Rattle.std.specs.Prelude.{Option}

-- a store and slots that hold these names and no more, none twice: one behind another from 0, in order, and zero after them; and their hints
pub record Laid (names : List (List ℕ)) (store slots : List ℕ) (count bytes : ℕ) : Type 0 where
  pub count_is : count ≡ length names
  pub bytes_is : bytes ≡ name_bytes names
  pub few : count ≤ max_categories
  pub short : bytes ≤ max_name_bytes
  pub single : (i : ℕ) → i < length names → position_of same (get_or names i []) names ≡ i
  pub stored : store ≡ padded max_name_bytes (joined names)
  pub in_slots : slots ≡ slotted (hints_of names) (padded max_categories (map slot_word (name_slots 0 (map length names))))

-- all slots are there, and a part of the text to seek
abbrev pub Sought : (slots text : List ℕ) (start end : ℕ) → Type 0
Sought slots text start end = (max_categories ≤ length slots) × ((start ≤ end) × (end ≤ length text))

-- whether n is the name of number i
abbrev pub Tells : (store slots n : List ℕ) (i : ℕ) → Bool → Type 0
Tells store slots n i r = (names : List (List ℕ)) (count bytes : ℕ) → Laid names store slots count bytes → i < count → r ≡ same n (get_or names i [])

abbrev pub FindsIn : (store slots : List ℕ) (count : ℕ) (n : List ℕ) → Option ℕ → Type 0
FindsIn store slots count n r = (names : List (List ℕ)) (bytes : ℕ) → Laid names store slots count bytes → Finds names n r

-- slot `count` has this word, and the slot at a place this number as its hint
abbrev pub Added : (slots : List ℕ) (count word place : ℕ) (after : List ℕ) → Type 0
Added slots count word place after =
    (middle : List ℕ) → middle ≡ set slots count (with_word word (get_or slots count 0)) → after ≡ set middle place (with_hint count (get_or middle place 0))
