-- A store and slots that hold names: each slot gives its name back, so a search of the slots is a search of the names, and a hint that names
-- the name sought is its number, since no name is there twice.
-- Assumes nothing.
use Prim.Native.Nat.{ℕ, zero, suc, ◌+◌, ◌*◌, ◌/◌, ◌%◌, ◌≤◌, ◌<◌}
use native.Mathlib.Numerals.{add-one}
use native.Mathlib.Decide.{ℕ_discrete}
use native.Mathlib.Omega.{arith}
use mathlib.Core.Path.{◌≡◌, refl, sym, ap, ap₂, ◌∙◌}
use mathlib.Core.Bool.{Bool, true, false, ◌||◌}
use mathlib.Core.List.{List, [], ◌∷◌, ◌++◌, map, append_assoc}
use lib.ListN.{length, take, drop, get_or, length-append, length-map, drop_of_length-le, get_or-append}
use lib.Dec.{eqb}
use lib.Seq.{take_at, drop_at, drop-cons}
use borrow.Author.Tests.{eq-eqb, ne_eqb}
use Rattle.paper.specs.Sizes.{max_categories}
use Rattle.paper.specs.Lists.{any, same, position_of, joined, sum}
use Rattle.paper.specs.CharDef.Reading.{name_bytes}
use Rattle.paper.specs.Rows.Numbers.{name_in}
use Rattle.paper.specs.Tables.Layout.{name_slots}
use Rattle.paper.specs.Tables.Lent.{padded}
use Rattle.paper.proofs.Apart.{true_false}
use Rattle.paper.proofs.Lists.Facts.{T→true, true→T, or_true}
use Rattle.paper.proofs.Lists.Seen.{same_eq, same_refl}
use Rattle.paper.proofs.Tables.Append.{padded_length}
use Rattle.paper.proofs.Tables.Trip.{places_length}
use Rattle.slot.specs.Slots.{slot_unit, hint_unit, slot_word, slot_of, word_slot, hints_of}
use Rattle.slot.specs.Laid.{Laid, Tells, FindsIn}
use Rattle.slot.proofs.Hints.{hints_length, slotted_length, slotted_at}
use Rattle.seek.proofs.Compare.{unlike, differs}
use Rattle.seek.proofs.Search.{Searching, search_start, search_hit, search_on, search_done}
use Rattle.std.specs.Prelude.{None, Some}

-- ---- a slot and its name

pub slots_length : (names : List (List ℕ)) → length (map slot_word (name_slots 0 (map length names))) ≡ length names
slots_length names = length-map (name_slots 0 (map length names)) slot_word ∙ places_length 0 (map length names) ∙ length-map names length

-- what the slot of name i says of a store, with anything before its names and behind them
record Says (store : List ℕ) (slot : ℕ) (name : List ℕ) : Type 0 where
  long : slot % slot_unit ≡ length name
  is : name_in store (word_slot slot) ≡ name

first_says : (before x rest : List ℕ) → length before < slot_unit → length x < slot_unit → Says (before ++ (x ++ rest)) (length before * slot_unit + length x) x
first_says before x rest g h =
    let a : (length before * slot_unit + length x) % slot_unit ≡ length x = omega arith in
    let b : (length before * slot_unit + length x) % hint_unit / slot_unit ≡ length before = omega arith in
    record {
      long = a;
      is = ap₂ (λ m k. take m (drop k (before ++ (x ++ rest)))) a b
          ∙ ap (take (length x)) (drop_at before (x ++ rest) (length before) refl)
          ∙ take_at x rest (length x) refl;
    }

each_says : (before : List ℕ) (names : List (List ℕ)) (rest : List ℕ) (i : ℕ) → length before + name_bytes names < slot_unit → i < length names
    → Says (before ++ (joined names ++ rest)) (get_or (map slot_word (name_slots (length before) (map length names))) i 0) (get_or names i [])
unfolding name_bytes name_slots
each_says before [] rest i h lt = absurd (omega arith)
each_says before (x ∷ names) rest zero h lt =
    let g : length before + (length x + sum (map length names)) < slot_unit = h in
    rw (append_assoc x (joined names) rest) (first_says before x (joined names ++ rest) (omega arith) (omega arith))
each_says before (x ∷ names) rest (suc i) h lt =
    let g : length before + (length x + sum (map length names)) < slot_unit = h in
    let l = length-append before x in
    rw (append_assoc x (joined names) rest, ← append_assoc before x (joined names ++ rest), ← length-append before x)
    (each_says (before ++ x) names rest i (omega arith) (omega arith))

-- whatever stands above a word, it says the same
says_below : {store : List ℕ} (hint word : ℕ) {name : List ℕ} → Says store word name → Says store (slot_of hint word) name
says_below {store} hint word z =
    let a : slot_of hint word % slot_unit ≡ word % slot_unit = omega arith in
    let b : slot_of hint word % hint_unit / slot_unit ≡ word % hint_unit / slot_unit = omega arith in
    record { long = a ∙ z.long; is = ap₂ (λ m k. take m (drop k store)) a b ∙ z.is }

module _ {names : List (List ℕ)} {store slots : List ℕ} {count bytes : ℕ} (z : Laid names store slots count bytes) where
  words_few : length (map slot_word (name_slots 0 (map length names))) ≤ max_categories
  words_few = let c = z.count_is in let f = z.few in omega (arith, slots_length names)

  pub words_long : length (padded max_categories (map slot_word (name_slots 0 (map length names)))) ≡ max_categories
  words_long = padded_length max_categories (map slot_word (name_slots 0 (map length names))) words_few

  pub slots_long : length slots ≡ max_categories
  slots_long =
      ap length z.in_slots
      ∙ slotted_length (hints_of names) (padded max_categories (map slot_word (name_slots 0 (map length names)))) (hints_length names ∙ sym words_long)
      ∙ words_long

  module _ (i : ℕ) (lt : i < count) where
    word_at : get_or slots i 0 ≡ slot_of (get_or (hints_of names) i 0) (get_or (map slot_word (name_slots 0 (map length names))) i 0)
    unfolding padded
    word_at =
        let c = z.count_is in
        let f = z.few in
        let l = slots_length names in
        let h = hints_length names in
        ap (λ m. get_or m i 0) z.in_slots
        ∙ slotted_at (hints_of names) (padded max_categories (map slot_word (name_slots 0 (map length names)))) i (omega arith) (omega (arith, words_long))
        ∙ ap (slot_of (get_or (hints_of names) i 0)) (get_or-append (map slot_word (name_slots 0 (map length names))) _ 0 i (omega arith))

    slot_says : Says store (get_or slots i 0) (get_or names i [])
    unfolding padded
    slot_says =
        let c = z.count_is in
        let b = z.bytes_is in
        let s = z.short in
        rw (z.stored, word_at) (says_below (get_or (hints_of names) i 0) (get_or (map slot_word (name_slots 0 (map length names))) i 0) (each_says [] names _ i (omega arith) (omega arith)))

-- ---- one name

module _ (store slots n : List ℕ) (i : ℕ) where
  -- bytes that are not there, as many as are sought: a name of that length is another one
  pub tells_bytes : (at : ℕ) → at ≡ get_or slots i 0 % hint_unit / slot_unit → (len : ℕ) → len ≡ length n → (r : Bool) → r ≡ same n (take len (drop at store)) → r ≡ false
      → Tells store slots n i r
  tells_bytes at a len whole r e h names count bytes z lt =
      let s = slot_says z i lt in
      h ∙ unlike n (get_or names i [])
      (λ d.
      let b : len ≡ get_or slots i 0 % slot_unit = whole ∙ ap length d ∙ sym s.long in
      true_false
      (sym (T→true (same n n) (same_refl n)) ∙ ap (same n) d ∙ ap (same n) (sym s.is) ∙ sym (ap₂ (λ k m. same n (take k (drop m store))) b a)
      ∙ sym e ∙ h))

  -- bytes that are there, as many as are sought: its length decides
  pub tells_length : (at : ℕ) → at ≡ get_or slots i 0 % hint_unit / slot_unit → (len : ℕ) → len ≡ length n → (r : Bool) → r ≡ same n (take len (drop at store)) → r ≡ true
      → (k : ℕ) → k ≡ get_or slots i 0 % slot_unit → Tells store slots n i (eqb k len)
  tells_length at a len whole r e h k f names count bytes z lt = go (ℕ_discrete k len)
    where
      s : Says store (get_or slots i 0) (get_or names i [])
      s = slot_says z i lt

      go : Dec (k ≡ len) → eqb k len ≡ same n (get_or names i [])
      go (yes d) =
          eq-eqb k len d ∙ sym h ∙ e ∙ ap₂ (λ m j. same n (take m (drop j store))) (sym d ∙ f) a ∙ ap (same n) s.is
      go (no d) = ne_eqb k len d ∙ differs n (get_or names i []) (λ u. d (f ∙ s.long ∙ sym u ∙ sym whole))

-- ---- a hint

pub any_at : (n : List ℕ) (names : List (List ℕ)) (i : ℕ) → i < length names → same n (get_or names i []) ≡ true → any (same n) names ≡ true
any_at n [] i lt h = absurd (omega arith)
any_at n (x ∷ names) zero lt h = ap (λ b. b || any (same n) names) h
any_at n (x ∷ names) (suc i) lt h = ap (λ b. same n x || b) (any_at n names i (omega arith) h) ∙ or_true (same n x)

pub hint_hit : (store slots n : List ℕ) (count i : ℕ) → i < count → (r : Bool) → Tells store slots n i r → r ≡ true → FindsIn store slots count n (Some i)
hint_hit store slots n count i lt r f h names bytes z =
    let k : i < length names = omega (arith, z.count_is) in
    let e : same n (get_or names i []) ≡ true = sym (f names count bytes z lt) ∙ h in
    let d : n ≡ get_or names i [] = same_eq n (get_or names i []) (true→T _ e) in
    (any_at n names i k e, sym (ap (λ m. position_of same m names) d ∙ z.single i k))

-- ---- a search of all slots

pub record Looking (store slots : List ℕ) (count : ℕ) (n : List ℕ) (i : ℕ) : Type 0 where
  pub upto : i ≤ count
  pub seen : (names : List (List ℕ)) (bytes : ℕ) → Laid names store slots count bytes → Searching names n i (drop i names)

pub look_start : (store slots : List ℕ) (count : ℕ) (n : List ℕ) → Looking store slots count n 0
look_start store slots count n = record { upto = omega arith; seen = λ names bytes z. search_start names n }

module _ {store slots : List ℕ} {count : ℕ} {n : List ℕ} {i : ℕ} (l : Looking store slots count n i) where
  pub look_done : count ≤ i → FindsIn store slots count n None
  look_done h names bytes z =
      let k : length names ≤ i = omega (arith, z.count_is) in
      search_done (l.seen names bytes z) (drop_of_length-le names k)

  module _ (lt : i < count) (r : Bool) (f : Tells store slots n i r) where
    next : (names : List (List ℕ)) (bytes : ℕ) → Laid names store slots count bytes → drop i names ≡ get_or names i [] ∷ drop (i + 1) names
    next names bytes z = drop-cons names i [] (omega (arith, z.count_is)) ∙ ap (λ k. get_or names i [] ∷ drop k names) (sym (add-one i))

    pub look_hit : r ≡ true → FindsIn store slots count n (Some i)
    look_hit h names bytes z = search_hit (l.seen names bytes z) _ _ (next names bytes z) (sym h ∙ f names count bytes z lt)

    pub look_on : r ≡ false → Looking store slots count n (i + 1)
    look_on h =
        record {
          upto = omega arith;
          seen = λ names bytes z. search_on (l.seen names bytes z) _ _ (next names bytes z) (sym h ∙ f names count bytes z lt);
        }
