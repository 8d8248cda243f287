-- What entering a name promises, over a store and slots that lay out the names read so far.
-- Assumes nothing.
use Rattle.std.specs.Prelude.{ℕ, ◌≤◌, ◌≡◌, true, List, ◌++◌, length}
use Rattle.paper.specs.Sizes.{max_categories, max_name_bytes}
use Rattle.paper.specs.Lists.{any, same, position_of}
use Rattle.paper.specs.Computed.ReadText.{intern_one, names_are, full_at}
use Rattle.slot.specs.Laid.{Laid}
use Rattle.name.specs.declared.Numbered.{Numbered}
use Rattle.std.specs.Prelude.{Err, Ok, Result}

-- what the reader keeps: room of the full sizes, counts within them, and a part of the text
pub record Room (store slots text : List ℕ) (count bytes start end : ℕ) : Type 0 where
  pub store_long : max_name_bytes ≤ length store
  pub slots_long : max_categories ≤ length slots
  pub count_small : count ≤ max_categories
  pub bytes_small : bytes ≤ max_name_bytes
  pub order : start ≤ end
  pub within : end ≤ length text

-- a name was found or entered: the names are the paper's, the store and the slots hold them, and the number is the name's among them
pub record Numbers (names : List (List ℕ)) (n store slots : List ℕ) (r : Numbered) : Type 0 where
  pub now_names : List (List ℕ)
  pub entered : intern_one names n ≡ names_are now_names
  pub laid_now : Laid now_names store slots r.count r.bytes
  pub there : any (same n) now_names ≡ true
  pub number_is : r.number ≡ position_of same n now_names
  -- names keep their numbers
  pub more : List (List ℕ)
  pub grown : now_names ≡ names ++ more

-- 12 or 13, as the paper has it, and nothing was written
pub record Refuses (names : List (List ℕ)) (n store₀ slots₀ store₁ slots₁ : List ℕ) (k : ℕ) : Type 0 where
  pub full : intern_one names n ≡ full_at k
  pub store_kept : store₁ ≡ store₀
  pub slots_kept : slots₁ ≡ slots₀

abbrev pub Enters : (store₀ slots₀ : List ℕ) (count bytes : ℕ) (n store₁ slots₁ : List ℕ) → Result Numbered ℕ → Type 0
Enters store₀ slots₀ count bytes n store₁ slots₁ (Ok r) =
    (names : List (List ℕ)) → Laid names store₀ slots₀ count bytes → Numbers names n store₁ slots₁ r
Enters store₀ slots₀ count bytes n store₁ slots₁ (Err k) =
    (names : List (List ℕ)) → Laid names store₀ slots₀ count bytes → Refuses names n store₀ slots₀ store₁ slots₁ k
