-- What `category_id` promises leaves nothing open: two outcomes that it allows coincide, in the answer and in what is lent.
-- Assumes nothing.
use Prim.Native.Nat.{ℕ}
use mathlib.Core.Path.{◌≡◌, sym, ap, ◌∙◌}
use mathlib.Core.List.{List, map}
use lib.ListN.{length}
use Rattle.paper.specs.Sizes.{max_categories, max_name_bytes}
use Rattle.paper.specs.Lists.{same, position_of, joined}
use Rattle.paper.specs.CharDef.Reading.{name_bytes}
use Rattle.paper.specs.Computed.ReadText.{names_are, full_at}
use Rattle.paper.specs.Tables.Layout.{name_slots}
use Rattle.paper.specs.Tables.Lent.{padded}
use Rattle.name.specs.declared.Numbered.{Numbered}
use Rattle.slot.specs.Slots.{slot_word, hints_of, slotted}
use Rattle.slot.specs.Laid.{Laid}
use Rattle.name.specs.Names.{Enters}
use Rattle.std.specs.Prelude.{Err, Ok, Result}

numbered_is : (r : Numbered) (n c b : ℕ) → n ≡ r.number → c ≡ r.count → b ≡ r.bytes → ◌≡◌ {A = Numbered} (record { number = n; count = c; bytes = b }) r
numbered_is r n c b p q s = rw (p, q, s)

pub enters_one : {names : List (List ℕ)} {store₀ slots₀ : List ℕ} {count bytes : ℕ} (n store₁ slots₁ store₂ slots₂ : List ℕ) (r s : Result Numbered ℕ)
    → Laid names store₀ slots₀ count bytes
    → Enters store₀ slots₀ count bytes n store₁ slots₁ r → Enters store₀ slots₀ count bytes n store₂ slots₂ s
    → (r ≡ s) × ((store₁ ≡ store₂) × (slots₁ ≡ slots₂))
enters_one {names} n store₁ slots₁ store₂ slots₂ (Ok r) (Ok s) z f g =
    let a = f names z in
    let b = g names z in
    let h : names_are a.now_names ≡ names_are b.now_names = sym a.entered ∙ b.entered in
    let e : a.now_names ≡ b.now_names = cc in
    let count_is : s.count ≡ r.count = b.laid_now.count_is ∙ ap length (sym e) ∙ sym a.laid_now.count_is in
    let bytes_is : s.bytes ≡ r.bytes = b.laid_now.bytes_is ∙ ap name_bytes (sym e) ∙ sym a.laid_now.bytes_is in
    let number_is : s.number ≡ r.number = b.number_is ∙ ap (position_of same n) (sym e) ∙ sym a.number_is in (
      sym (ap Ok (numbered_is r s.number s.count s.bytes number_is count_is bytes_is)),
      (
        a.laid_now.stored ∙ ap (λ m. padded max_name_bytes (joined m)) e ∙ sym b.laid_now.stored,
        a.laid_now.in_slots ∙ ap (λ m. slotted (hints_of m) (padded max_categories (map slot_word (name_slots 0 (map length m))))) e ∙ sym b.laid_now.in_slots,
      ),
    )
enters_one {names} n store₁ slots₁ store₂ slots₂ (Ok r) (Err k) z f g =
    let h : names_are (f names z).now_names ≡ full_at k = sym (f names z).entered ∙ (g names z).full in
    (cc, (cc, cc))
enters_one {names} n store₁ slots₁ store₂ slots₂ (Err k) (Ok r) z f g =
    let h : names_are (g names z).now_names ≡ full_at k = sym (g names z).entered ∙ (f names z).full in
    (cc, (cc, cc))
enters_one {names} n store₁ slots₁ store₂ slots₂ (Err k) (Err m) z f g =
    let a = f names z in
    let b = g names z in
    let h : full_at k ≡ full_at m = sym a.full ∙ b.full in
    let e : k ≡ m = cc in
    (ap Err e, (a.store_kept ∙ sym b.store_kept, a.slots_kept ∙ sym b.slots_kept))
