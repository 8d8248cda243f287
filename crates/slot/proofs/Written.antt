-- The slots written out: a turn adds an entry behind those that are there, and slots that hold a reading's names give the category table
-- of its layout, padded with zero, since an unused slot is an entry of zero bytes.
-- Assumes nothing.
use Prim.Native.Nat.{ℕ, zero, suc, ◌+◌, ◌*◌, ◌-◌, ◌/◌, ◌%◌, ◌≤◌, ◌<◌}
use native.Mathlib.Numerals.{add-one}
use native.Mathlib.Omega.{arith}
use mathlib.Core.Path.{◌≡◌, refl, sym, ap, ap₂, ◌∙◌}
use mathlib.Core.Bool.{cond}
use mathlib.Core.List.{List, [], ◌∷◌, ◌++◌, map}
use lib.Dec.{leb}
use lib.ListN.{length, take, drop, get_or, replicate}
use lib.Seq.{length-take-le, take-suc, take_all}
use borrow.Author.Tests.{le-leb, lt-leb}
use Rattle.paper.specs.Sizes.{max_categories}
use Rattle.paper.specs.Lists.{joined, sum}
use Rattle.paper.specs.CharDef.Reading.{Reading, name_bytes}
use Rattle.paper.specs.Numbers.Bytes.{le}
use Rattle.paper.specs.Tables.Layout.{name_slot_size}
use Rattle.paper.specs.Tables.Layout.{name_slot_bytes, name_slots, layout, in_room}
use Rattle.paper.specs.Tables.Lent.{patch, padded}
use Rattle.paper.proofs.Tables.Laws.{table_length, patch_in, patch_out, patch_length}
use Rattle.paper.proofs.Tables.Append.{patch_patch, table_append, table_snoc}
use Rattle.paper.proofs.Tables.Trip.{wide_place}
use Rattle.slot.specs.Slots.{slot_unit, hint_unit, slot_word, slot_of, word_slot, hints_of, written}
use Rattle.slot.specs.Laid.{Laid}
use Rattle.slot.proofs.Hints.{hints_length, slotted_map}
use Rattle.slot.proofs.Laid.{slots_length, words_long, slots_long}

abbrev entry_bytes : ℕ → List ℕ
entry_bytes s = name_slot_bytes (word_slot s)

wide_entry : (s : ℕ) → length (entry_bytes s) ≡ name_slot_size
wide_entry s = wide_place (word_slot s)

entries_length : (m : ℕ) (slots : List ℕ) → m ≤ length slots → length (joined (map entry_bytes (take m slots))) ≡ name_slot_size * m
entries_length m slots h = table_length name_slot_size entry_bytes wide_entry (take m slots) ∙ ap (λ k. name_slot_size * k) (length-take-le m slots h)

-- ---- the loop

picked : (m k : ℕ) (x y : List ℕ) → m ≤ k → cond (leb m k) x y ≡ x
picked m k x y h = rw (le-leb m k h)

left_out : (m k : ℕ) (x y : List ℕ) → k < m → cond (leb m k) x y ≡ y
left_out m k x y h = rw (lt-leb m k h)

pub few_slots : (slots table : List ℕ) → length slots < max_categories → table ≡ written slots table
unfolding written
few_slots slots table h = sym (left_out max_categories (length slots) (patch 0 (joined (map entry_bytes (take max_categories slots))) table) table h)

pub no_room : (slots table : List ℕ) → max_categories ≤ length slots → length table < name_slot_size * max_categories → table ≡ written slots table
unfolding written
no_room slots table h g =
    let k : length table < 0 + length (joined (map entry_bytes (take max_categories slots))) = omega (arith, entries_length max_categories slots h) in
    patch_out 0 (joined (map entry_bytes (take max_categories slots))) table k
    ∙ sym (picked max_categories (length slots) (patch 0 (joined (map entry_bytes (take max_categories slots))) table) table h)

pub record Writing (m : ℕ) (slots table₀ table : List ℕ) (i : ℕ) : Type 0 where
  pub upto : i ≤ m
  pub enough : m ≤ length slots
  pub room : name_slot_size * m ≤ length table₀
  pub long : length table ≡ length table₀
  pub is : table ≡ patch 0 (joined (map entry_bytes (take i slots))) table₀

pub write_start : (m : ℕ) (slots table : List ℕ) → m ≤ length slots → name_slot_size * m ≤ length table → Writing m slots table table 0
write_start m slots table h g = record { upto = omega arith; enough = h; room = g; long = refl; is = patch_in 0 [] table (omega arith) }

module _ {m : ℕ} {slots table₀ table : List ℕ} {i : ℕ} (z : Writing m slots table₀ table i) (lt : i < m) where
  pub write_on : (at start len : ℕ) (table₁ table₂ : List ℕ) → at ≡ name_slot_size * i → start ≡ get_or slots i 0 % hint_unit / slot_unit → len ≡ get_or slots i 0 % slot_unit
      → table₁ ≡ patch at (le 2 start) table → table₂ ≡ patch (at + 2) (le 2 len) table₁ → Writing m slots table₀ table₂ (i + 1)
  write_on at start len table₁ table₂ a p q e f =
      let n = z.enough in
      let r = z.room in
      let l = z.long in
      let w = entries_length i slots (omega arith) in
      let both : table₂ ≡ patch at (entry_bytes (get_or slots i 0)) table =
      f ∙ ap₂ (λ v t. patch (at + 2) (le 2 v) t) q e
      ∙ patch_patch at (at + 2) (le 2 start) (le 2 (get_or slots i 0 % slot_unit)) table refl (omega arith)
      ∙ ap (λ v. patch at (le 2 v ++ le 2 (get_or slots i 0 % slot_unit)) table) p in
      record {
        upto = omega arith;
        enough = n;
        room = r;
        long = ap length both ∙ patch_length at (entry_bytes (get_or slots i 0)) table ∙ l;
        is = both
            ∙ ap (patch at (entry_bytes (get_or slots i 0))) z.is
            ∙ patch_patch 0 at (joined (map entry_bytes (take i slots))) (entry_bytes (get_or slots i 0)) table₀ (omega arith) (omega arith)
            ∙ ap (λ p. patch 0 p table₀)
            (sym (table_snoc entry_bytes (take i slots) (get_or slots i 0))
            ∙ ap (λ l. joined (map entry_bytes l)) (sym (take-suc slots i 0 (omega arith)) ∙ ap (λ k. take k slots) (sym (add-one i))));
      }

pub write_done : {slots table₀ table : List ℕ} {i : ℕ} → Writing max_categories slots table₀ table i → max_categories ≤ i → table ≡ written slots table₀
unfolding written
write_done {slots} {table₀} {table} {i} z h =
    let u = z.upto in
    let e : i ≡ max_categories = omega arith in
    z.is ∙ ap (λ k. patch 0 (joined (map entry_bytes (take k slots))) table₀) e
    ∙ sym (picked max_categories (length slots) (patch 0 (joined (map entry_bytes (take max_categories slots))) table₀) table₀ z.enough)

-- ---- slots that hold names

entries_back : (at : ℕ) (names : List (List ℕ)) → at + name_bytes names < slot_unit
    → joined (map entry_bytes (map slot_word (name_slots at (map length names)))) ≡ joined (map name_slot_bytes (name_slots at (map length names)))
unfolding name_bytes name_slots
entries_back at [] h = refl
entries_back at (x ∷ names) h =
    let g : at + (length x + sum (map length names)) < slot_unit = h in
    let a : (at * slot_unit + length x) % hint_unit / slot_unit ≡ at = omega arith in
    let b : (at * slot_unit + length x) % slot_unit ≡ length x = omega arith in
    ap₂ (λ e l. e ++ l) (ap₂ (λ s n. le 2 s ++ le 2 n) a b) (entries_back (at + length x) names (omega arith))

zero_entries : (k : ℕ) → joined (map entry_bytes (replicate k 0)) ≡ replicate (name_slot_size * k) 0
zero_entries zero = refl
zero_entries (suc k) =
    let e : suc (suc (suc (suc (name_slot_size * k)))) ≡ name_slot_size * suc k = omega arith in
    ap (λ l. 0 ∷ 0 ∷ 0 ∷ 0 ∷ l) (zero_entries k) ∙ ap (λ n. replicate n 0) e

module _ (m : ℕ) (names : List (List ℕ)) (few : length names ≤ m) (short : name_bytes names < slot_unit) where
  abbrev words : List ℕ
  words = map slot_word (name_slots 0 (map length names))

  all_entries : joined (map entry_bytes (padded m words)) ≡ padded (name_slot_size * m) (joined (map name_slot_bytes (name_slots 0 (map length names))))
  unfolding padded
  all_entries =
      let n = slots_length names in
      let b = entries_back 0 names (omega arith) in
      let l : length (joined (map entry_bytes words)) ≡ name_slot_size * length words = table_length name_slot_size entry_bytes wide_entry words in
      let l' : length (joined (map name_slot_bytes (name_slots 0 (map length names)))) ≡ name_slot_size * length words = ap length (sym b) ∙ l in
      let e : name_slot_size * (m - length words) ≡ name_slot_size * m - length (joined (map name_slot_bytes (name_slots 0 (map length names)))) = omega arith in
      table_append entry_bytes words (replicate (m - length words) 0)
      ∙ ap₂ (λ x y. x ++ y) b (zero_entries (m - length words) ∙ ap (λ k. replicate k 0) e)

-- an entry does not say the hint
below_hint : (hint word : ℕ) → entry_bytes (slot_of hint word) ≡ entry_bytes word
below_hint hint word =
    let a : slot_of hint word % hint_unit / slot_unit ≡ word % hint_unit / slot_unit = omega arith in
    let b : slot_of hint word % slot_unit ≡ word % slot_unit = omega arith in
    ap₂ (λ s n. le 2 s ++ le 2 n) a b

at_front : (p l : List ℕ) (n : ℕ) → length p ≡ n → n ≤ length l → patch 0 p l ≡ p ++ drop n l
unfolding patch
at_front p l n e h =
    let k : 0 + length p ≡ n = omega arith in
    let g : 0 + length p ≤ length l = omega arith in
    rw (le-leb (0 + length p) (length l) g) (ap (λ j. p ++ drop j l) k)

-- THE THEOREM: written out at acceptance, the slots are the reading's category table in the room of its size; what stands behind it stays
pub written_room : (r : Reading) (store slots : List ℕ) (count bytes : ℕ) (table : List ℕ) → Laid r.names store slots count bytes
    → name_slot_size * max_categories ≤ length table → written slots table ≡ (in_room (layout r)).categories ++ drop (name_slot_size * max_categories) table
unfolding written in_room layout
written_room r store slots count bytes table z h =
    let c = z.count_is in
    let b = z.bytes_is in
    let f = z.few in
    let s = z.short in
    let l : length slots ≡ max_categories = slots_long z in
    let e : joined (map entry_bytes (take max_categories slots)) ≡ padded (name_slot_size * max_categories) (joined (map name_slot_bytes (name_slots 0 (map length r.names)))) =
    ap (λ m. joined (map entry_bytes m)) (take_all max_categories slots (omega arith) ∙ z.in_slots)
    ∙ ap joined (slotted_map entry_bytes below_hint (hints_of r.names) _ (hints_length r.names ∙ sym (words_long z)))
    ∙ all_entries max_categories r.names (omega arith) (omega arith) in
    picked max_categories (length slots) (patch 0 (joined (map entry_bytes (take max_categories slots))) table) table (omega arith)
    ∙ at_front (joined (map entry_bytes (take max_categories slots))) table (name_slot_size * max_categories) (entries_length max_categories slots (omega arith)) h
    ∙ ap (λ p. p ++ drop (name_slot_size * max_categories) table) e
