-- What total reads of the range table and of the reference table give: range slots, and the category numbers of the slots that hold a code
-- point. Over tables that hold together these are the reading's, as `Meets` of crate `row` shows.
-- Assumes nothing.
use Rattle.std.specs.Prelude.{ℕ, zero, suc, ◌+◌, ◌*◌, Bool, cond, ◌&&◌, List, [], ◌∷◌, ◌++◌, leb}
use Rattle.paper.specs.Numbers.Bytes.{u16_size}
use Rattle.paper.specs.Tables.Layout.{RangeSlot, range_slot_size, reference_size, upper_at, first_at, count_at}
use Rattle.paper.specs.Tables.Lent.{got}

unfoldable pub slot_got : ℕ → List ℕ → RangeSlot
unfolding got
slot_got i l =
    record {
      lower = got u16_size (range_slot_size * i) l;
      upper = got u16_size (range_slot_size * i + upper_at) l;
      first = got u16_size (range_slot_size * i + first_at) l;
      count = got u16_size (range_slot_size * i + count_at) l;
    }

-- n slots from i on
unfoldable pub slots_got : ℕ → ℕ → List ℕ → List RangeSlot
unfolding slot_got
slots_got i zero l = []
slots_got i (suc n) l = slot_got i l ∷ slots_got (i + 1) n l

-- n category numbers from i on
unfoldable pub numbers_got : ℕ → ℕ → List ℕ → List ℕ
unfolding got
numbers_got i zero l = []
numbers_got i (suc n) l = got reference_size (reference_size * i) l ∷ numbers_got (i + 1) n l

abbrev pub slot_holds : ℕ → RangeSlot → Bool
slot_holds c r = leb r.lower c && leb c r.upper

-- the numbers of the slots that hold c, one after another
unfoldable pub covers_got : ℕ → List RangeSlot → List ℕ → List ℕ
unfolding numbers_got
covers_got c [] l = []
covers_got c (r ∷ rs) l = cond (slot_holds c r) (numbers_got r.first r.count l) [] ++ covers_got c rs l
