-- Interning: a name that is there keeps its number; a new one is refused by 12 or 13, or stands behind the others.
-- Assumes nothing.
use Prim.Native.Nat.{ℕ, ◌+◌, ◌*◌, ◌≤◌, ◌<◌}
use native.Mathlib.Omega.{arith}
use mathlib.Core.Path.{◌≡◌, refl, sym, ◌∙◌, subst}
use mathlib.Core.Bool.{true, false}
use mathlib.Core.List.{List, [], ◌∷◌, ◌++◌, append-nil}
use lib.ListN.{length}
use borrow.Author.Tests.{le-leb, lt-leb, lt-ltb, le-ltb}
use Rattle.paper.specs.Sizes.{max_categories, max_name_bytes}
use Rattle.paper.specs.Refusals.{categories_full, name_bytes_full}
use Rattle.paper.specs.Lists.{any, same}
use Rattle.paper.specs.CharDef.Reading.{name_bytes}
use Rattle.paper.specs.Computed.ReadText.{intern_one, names_are, full_at}
use Rattle.paper.specs.Tables.Lent.{patch}
use Rattle.name.specs.declared.Numbered.{Numbered}
use Rattle.seek.specs.Finds.{Finds}
use Rattle.slot.specs.Slots.{slot_unit, hint_of}
use Rattle.slot.specs.Laid.{Laid, Added}
use Rattle.name.specs.Names.{Numbers, Refuses}
use Rattle.slot.proofs.More.{any_more, place_more, laid_more}
use Rattle.std.specs.Prelude.{None, Some}

-- ---- the paper's interning, by cases

module _ (names : List (List ℕ)) (n : List ℕ) where
  intern_known : any (same n) names ≡ true → intern_one names n ≡ names_are names
  unfolding intern_one
  intern_known h = rw h

  intern_12 : any (same n) names ≡ false → max_categories ≤ length names → intern_one names n ≡ full_at categories_full
  unfolding intern_one
  intern_12 h g = rw (h, le-leb max_categories (length names) g)

  intern_13 : any (same n) names ≡ false → length names < max_categories → max_name_bytes < name_bytes names + length n → intern_one names n ≡ full_at name_bytes_full
  unfolding intern_one
  intern_13 h g k = rw (h, lt-leb max_categories (length names) g, lt-ltb max_name_bytes (name_bytes names + length n) k)

  intern_new : any (same n) names ≡ false → length names < max_categories → name_bytes names + length n ≤ max_name_bytes → intern_one names n ≡ names_are (names ++ (n ∷ []))
  unfolding intern_one
  intern_new h g k = rw (h, lt-leb max_categories (length names) g, le-ltb max_name_bytes (name_bytes names + length n) k)

-- ---- the cases of `category_id`

module _ {names : List (List ℕ)} {store slots : List ℕ} {count bytes : ℕ} (n : List ℕ) (z : Laid names store slots count bytes) where
  pub enters_known : (i : ℕ) → Finds names n (Some i) → Numbers names n store slots (record { number = i; count = count; bytes = bytes })
  enters_known i (h, p) =
      record { now_names = names; entered = intern_known names n h; laid_now = z; there = h; number_is = p; more = []; grown = sym (append-nil names) }

  pub enters_12 : Finds names n None → max_categories ≤ count → Refuses names n store slots store slots categories_full
  enters_12 h g = record { full = intern_12 names n h (omega (arith, z.count_is)); store_kept = refl; slots_kept = refl }

  pub enters_13 : Finds names n None → count < max_categories → max_name_bytes < bytes + length n → Refuses names n store slots store slots name_bytes_full
  enters_13 h g k =
      record {
        full = intern_13 names n h (omega (arith, z.count_is)) (omega (arith, z.bytes_is));
        store_kept = refl;
        slots_kept = refl;
      }

  pub enters_new : Finds names n None → count < max_categories → bytes + length n ≤ max_name_bytes
      → (store₁ slots₁ : List ℕ) → store₁ ≡ patch bytes n store → (len : ℕ) → len ≡ length n → Added slots count (bytes * slot_unit + len) (hint_of n) slots₁
      → (r : Numbered) → r.number ≡ count → r.count ≡ count + 1 → r.bytes ≡ bytes + length n
      → Numbers names n store₁ slots₁ r
  enters_new t g k store₁ slots₁ p len l q r e f d =
      record {
        now_names = names ++ (n ∷ []);
        entered = intern_new names n t (omega (arith, z.count_is)) (omega (arith, z.bytes_is));
        laid_now = rw (p, f, d) (laid_more n z t g k slots₁ (subst (λ j. Added slots count (bytes * slot_unit + j) (hint_of n) slots₁) l q));
        there = any_more n names;
        number_is = e ∙ z.count_is ∙ place_more n names t;
        more = n ∷ [];
        grown = refl;
      }
