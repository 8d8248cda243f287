-- A category slot while a text is read: one number that says where a name stands in the store of name bytes and how long it is, and above
-- that a hint, by which a name is found without trying all.
-- Assumes nothing.
use Rattle.std.specs.Prelude.{ℕ, suc, ◌+◌, ◌*◌, ◌/◌, ◌%◌, cond, List, [], ◌∷◌, map, leb, length, take, set, replicate}
use Rattle.paper.specs.Sizes.{max_categories}
use Rattle.paper.specs.Lists.{joined}
use Rattle.paper.specs.Tables.Layout.{NameSlot, name_slot_bytes}
use Rattle.paper.specs.Tables.Lent.{patch}
use Rattle.mark.specs.Mark.{mark}

-- starts and lengths are below this
abbrev pub slot_unit : ℕ
slot_unit = 65536

-- and a name's word below this
abbrev pub hint_unit : ℕ
hint_unit = 4294967296

-- where a name stands, and a slot with it below a hint
abbrev pub slot_word : NameSlot → ℕ
slot_word p = p.start * slot_unit + p.len

abbrev pub slot_of : (hint word : ℕ) → ℕ
slot_of hint word = hint * hint_unit + word

-- what a slot says
abbrev pub word_slot : ℕ → NameSlot
word_slot s = record { start = s % hint_unit / slot_unit; len = s % slot_unit }

-- a slot with another word, and with another hint
abbrev pub with_word : (word s : ℕ) → ℕ
with_word word s = slot_of (s / hint_unit) word

abbrev pub with_hint : (hint s : ℕ) → ℕ
with_hint hint s = slot_of hint (s % hint_unit)

-- the slot that holds the hint of a name
unfoldable pub hint_of : List ℕ → ℕ
hint_of n = mark n % max_categories

-- the hints of names from number i on, each name's number at its place: of names with one place, the last one's
unfoldable pub hinted : ℕ → List (List ℕ) → List ℕ → List ℕ
hinted i [] hints = hints
hinted i (n ∷ ns) hints = hinted (suc i) ns (set hints (hint_of n) i)

unfoldable pub hints_of : List (List ℕ) → List ℕ
unfolding hinted
hints_of names = hinted 0 names (replicate max_categories 0)

-- hints and words, place by place
unfoldable pub slotted : (hints words : List ℕ) → List ℕ
slotted [] words = []
slotted (h ∷ hints) [] = []
slotted (h ∷ hints) (w ∷ words) = slot_of h w ∷ slotted hints words

-- the category table with all slots written out from its front; as it was where there are not 512 slots or it has no room for them
unfoldable pub written : (slots table : List ℕ) → List ℕ
unfolding patch
written slots table =
    cond (leb max_categories (length slots))
    (patch 0 (joined (map (λ s. name_slot_bytes (word_slot s)) (take max_categories slots))) table)
    table
