-- Lookups by number: which way the tests go, what is read at an entry, and that a part that is answered lies in its table. Assumes nothing.
use Prim.Native.Nat.{ℕ, zero, suc, ◌+◌, ◌-◌, ◌*◌, ◌/◌, ◌≤◌, ◌<◌}
use native.Mathlib.Nat.{add-sub_cancel_left, mul-le-mul_left}
use native.Mathlib.Omega.{arith}
use mathlib.Core.Path.{◌≡◌, refl, sym, ap, ap₂, ◌∙◌}
use mathlib.Core.Bool.{Bool, true, false, cond}
use mathlib.Core.List.{List, []}
use lib.Dec.{leb, ltb}
use lib.ListN.{length, take, drop}
use borrow.Author.Tests.{le-leb, lt-leb, lt-ltb, le-ltb, leb-false, ltb-true, ltb-false}
use Rattle.paper.specs.Refusals.{number_unknown, tables_apart}
use Rattle.paper.specs.Rows.Lookup.{Looked, gives, refuses}
use Rattle.paper.specs.Rows.Numbers.{entry_at}
use Rattle.paper.specs.Tables.Layout.{name_slot_of, name_slot_size, name_len_at, reference_size}
use Rattle.paper.specs.Tables.Lent.{got, num}
use Rattle.paper.specs.Unk.Entry.{length_bytes}
use Rattle.paper.specs.declared.Refusal.{Refusal}
use Rattle.paper.proofs.Apart.{zero_one}
use Rattle.paper.proofs.Tables.Laws.{got_in, num_part}
use Rattle.unk_enter.specs.Fields.{entry_size, offset_size, right_at, cost_at}
use Rattle.word.specs.declared.Span.{Span}
use Rattle.word.specs.Words.{within, numbered, members_of, word_ids_in, word_of, word_entry_in, span_at, word_details_in, found, entry, held}
use Rattle.std.specs.Prelude.{Err, Ok, Result}

-- ---- 15, then 26

module _ {A : Type 0} (w count k : ℕ) (l : List ℕ) (a : Looked A) where
  pub number_unknown_lem : count ≤ k → numbered w count k l a ≡ refuses number_unknown
  unfolding numbered
  number_unknown_lem h = rw (le-leb count k h)

  module _ (known : k < count) where
    pub entry_past : length l < w * suc k → numbered w count k l a ≡ refuses tables_apart
    unfolding numbered
    entry_past h = rw (lt-leb count k known, lt-ltb (length l) (w * suc k) h)

    pub entry_there : w * suc k ≤ length l → numbered w count k l a ≡ a
    unfolding numbered
    entry_there h = rw (lt-leb count k known, le-ltb (length l) (w * suc k) h)

module _ (bytes : ℕ) (s : Span) where
  pub part_past : bytes < s.start + s.len → within bytes s ≡ refuses tables_apart
  unfolding within
  part_past h = rw (lt-ltb bytes (s.start + s.len) h)

  pub part_there : s.start + s.len ≤ bytes → within bytes s ≡ gives s
  unfolding within
  part_there h = rw (le-ltb bytes (s.start + s.len) h)

-- an entry ends inside the table exactly where there are more entries than its number
module _ (w k : ℕ) (l : List ℕ) (some : 0 < w) where
  pub no_more : length l / w ≤ k → length l < w * suc k
  no_more h = let e : w * suc k ≡ w * k + w = omega arith in omega (arith, mul-le-mul_left w h)

  pub one_more : k < length l / w → w * suc k ≤ length l
  one_more h = let g : suc k ≤ length l / w = omega arith in omega (arith, mul-le-mul_left w g)

-- ---- what the search for an entry says

module _ (w count k : ℕ) (l : List ℕ) where
  no_entry : {A B : Type 0} (x : A) (b : Looked B) (r : Refusal) → Err r ≡ found (numbered w count k l (gives x)) → Err r ≡ found (numbered w count k l b)
  unfolding numbered
  no_entry x b r e = go (leb count k) (ltb (length l) (w * suc k)) e
    where
      go : (p q : Bool) → Err r ≡ found (cond p (refuses number_unknown) (cond q (refuses tables_apart) (gives x)))
          → Err r ≡ found (cond p (refuses number_unknown) (cond q (refuses tables_apart) b))
      go true q e = let f : r ≡ record { number = number_unknown; place = 0 } = cc in ap Err f
      go false true e = let f : r ≡ record { number = tables_apart; place = 0 } = cc in ap Err f
      go false false e = zero_one (cc)

  pub an_entry : (at : ℕ) → Ok at ≡ found (numbered w count k l (gives (w * k))) → (k < count) × (w * suc k ≤ length l) × (at ≡ w * k)
  unfolding numbered
  an_entry at e = go (leb count k) refl (ltb (length l) (w * suc k)) refl e
    where
      go : (p : Bool) → leb count k ≡ p → (q : Bool) → ltb (length l) (w * suc k) ≡ q
          → Ok at ≡ found (cond p (refuses number_unknown) (cond q (refuses tables_apart) (gives (w * k)))) → (k < count) × (w * suc k ≤ length l) × (at ≡ w * k)
      go true i q j e = zero_one (cc)
      go false i true j e = zero_one (cc)
      go false i false j e = (leb-false count k i, ltb-false (length l) (w * suc k) j, cc)

-- ---- fields of an entry, as the code reads them

module _ (w k : ℕ) (l : List ℕ) (long : w * suc k ≤ length l) (fits : w * suc k ≡ w * k + w) where
  number_at : (v at : ℕ) → at + v ≤ w → got v (w * k + at) l ≡ num v at (entry_at w l k)
  number_at v at h = got_in v (w * k + at) l (omega arith) ∙ sym (num_part v at w (w * k) l h)

  first_at : (v : ℕ) → v ≤ w → got v (w * k) l ≡ num v 0 (entry_at w l k)
  first_at v h = let e : w * k ≡ w * k + 0 = omega arith in ap (λ m. got v m l) e ∙ number_at v 0 (omega arith)

-- ---- a category's entries

module _ (places members : List ℕ) (count c : ℕ) where
  pub ids_refused : (r : Refusal) → Err r ≡ found (numbered name_slot_size count c places (gives (name_slot_size * c))) → Err r ≡ found (word_ids_in places members count c)
  unfolding word_ids_in
  ids_refused r e = no_entry name_slot_size count c places (name_slot_size * c) _ r e

  pub ids_located : {at : ℕ} → Ok at ≡ found (numbered name_slot_size count c places (gives (name_slot_size * c))) → (first size : ℕ) → first ≡ got 2 at places
      → size ≡ got 2 (at + name_len_at) places → {r : Result Span Refusal} → r ≡ found (within (length members) (record { start = reference_size * first; len = reference_size * size }))
      → r ≡ found (word_ids_in places members count c)
  unfolding word_ids_in
  ids_located e first size ef es p =
      let (known, h, at_is) = an_entry name_slot_size count c places _ e in
      let q : name_slot_size * suc c ≡ name_slot_size * c + name_slot_size = omega arith in
      let f = ef ∙ ap (λ k. got 2 k places) at_is ∙ first_at name_slot_size c places h q 2 (omega arith) in
      let s = es ∙ ap (λ k. got 2 (k + name_len_at) places) at_is ∙ number_at name_slot_size c places h q 2 name_len_at (omega arith) in
      p ∙ ap₂ (λ x y. found (within (length members) (record { start = reference_size * x; len = reference_size * y }))) f s
      ∙ sym (ap found (entry_there name_slot_size count c places _ known h))

-- ---- an entry

module _ (entries : List ℕ) (count k : ℕ) where
  pub word_refused : (r : Refusal) → Err r ≡ found (numbered entry_size count k entries (gives (entry_size * k))) → Err r ≡ entry (word_entry_in entries count k)
  unfolding word_entry_in
  word_refused r e = no_entry entry_size count k entries (entry_size * k) _ r e

  pub word_there : {at : ℕ} → Ok at ≡ found (numbered entry_size count k entries (gives (entry_size * k))) → (left right cost : ℕ) → left ≡ got 2 at entries
      → right ≡ got 2 (at + right_at) entries → cost ≡ got 2 (at + cost_at) entries → Ok (record { left = left; right = right; cost = cost }) ≡ entry (word_entry_in entries count k)
  unfolding word_entry_in
  word_there e left right cost el er ec =
      let (known, h, at_is) = an_entry entry_size count k entries _ e in
      let q : entry_size * suc k ≡ entry_size * k + entry_size = omega arith in
      let fl = el ∙ ap (λ n. got 2 n entries) at_is ∙ first_at entry_size k entries h q 2 (omega arith) in
      let fr = er ∙ ap (λ n. got 2 (n + right_at) entries) at_is ∙ number_at entry_size k entries h q 2 right_at (omega arith) in
      let fc = ec ∙ ap (λ n. got 2 (n + cost_at) entries) at_is ∙ number_at entry_size k entries h q 2 cost_at (omega arith) in
      sym (ap entry (entry_there entry_size count k entries (gives (word_of (entry_at entry_size entries k))) known h)
      ∙ λ i. Ok (record { left = sym fl i; right = sym fr i; cost = sym fc i }))

-- ---- an entry's details

-- where their length is past the table it is read as 0, and what begins behind it is past the table too
span_read : (details : List ℕ) (at : ℕ) → found (within (length details) (record { start = at + length_bytes; len = got 4 at details })) ≡ found (span_at details at)
unfolding span_at
span_read details at = go (ltb (length details) (at + length_bytes)) refl
  where
    go : (b : Bool) → ltb (length details) (at + length_bytes) ≡ b
        → found (within (length details) (record { start = at + length_bytes; len = got 4 at details }))
        ≡ found (cond b (refuses tables_apart) (within (length details) (record { start = at + length_bytes; len = num 4 at details })))
    go true e = let h = ltb-true (length details) (at + length_bytes) e in ap found (part_past (length details) (record { start = at + length_bytes; len = got 4 at details }) (omega arith))
    go false e =
        let h = ltb-false (length details) (at + length_bytes) e in
        ap (λ n. found (within (length details) (record { start = at + length_bytes; len = n }))) (got_in 4 at details h)

module _ (offsets details : List ℕ) (count k : ℕ) where
  pub details_refused : (r : Refusal) → Err r ≡ found (numbered offset_size count k offsets (gives (offset_size * k))) → Err r ≡ found (word_details_in offsets details count k)
  unfolding word_details_in
  details_refused r e = no_entry offset_size count k offsets (offset_size * k) _ r e

  pub details_located : {at : ℕ} → Ok at ≡ found (numbered offset_size count k offsets (gives (offset_size * k))) → (offset len : ℕ) → offset ≡ got 4 at offsets
      → len ≡ got 4 offset details → {r : Result Span Refusal} → r ≡ found (within (length details) (record { start = offset + length_bytes; len = len }))
      → r ≡ found (word_details_in offsets details count k)
  unfolding word_details_in
  details_located e offset len eo el p =
      let (known, h, at_is) = an_entry offset_size count k offsets _ e in
      let q : offset_size * suc k ≡ offset_size * k + offset_size = omega arith in
      p ∙ ap (λ n. found (within (length details) (record { start = offset + length_bytes; len = n }))) el ∙ span_read details offset
      ∙ ap (λ x. found (span_at details x)) (eo ∙ ap (λ n. got 4 n offsets) at_is ∙ first_at offset_size k offsets h q 4 (omega arith))
      ∙ sym (ap found (entry_there offset_size count k offsets _ known h))

-- ---- a part that is answered lies in its table

abbrev Ends : ℕ → Looked Span → Type 0
Ends bytes (gives s) = s.start + s.len ≤ bytes
Ends bytes (refuses n) = Unit {0}

within_ends : (bytes : ℕ) (s : Span) → Ends bytes (within bytes s)
unfolding within
within_ends bytes s = go (ltb bytes (s.start + s.len)) refl
  where
    go : (b : Bool) → ltb bytes (s.start + s.len) ≡ b → Ends bytes (cond b (refuses tables_apart) (gives s))
    go true e = tt
    go false e = ltb-false bytes (s.start + s.len) e

numbered_ends : (bytes w count k : ℕ) (l : List ℕ) (a : Looked Span) → Ends bytes a → Ends bytes (numbered w count k l a)
unfolding numbered
numbered_ends bytes w count k l a h = go (leb count k) (ltb (length l) (w * suc k))
  where
    go : (x y : Bool) → Ends bytes (cond x (refuses number_unknown) (cond y (refuses tables_apart) a))
    go true y = tt
    go false true = tt
    go false false = h

ids_end : (places members : List ℕ) (count c : ℕ) → Ends (length members) (word_ids_in places members count c)
unfolding word_ids_in
ids_end places members count c = numbered_ends (length members) name_slot_size count c places _ (within_ends (length members) (members_of (name_slot_of (entry_at name_slot_size places c))))

span_ends : (details : List ℕ) (at : ℕ) → Ends (length details) (span_at details at)
unfolding span_at
span_ends details at = go (ltb (length details) (at + length_bytes))
  where
    go : (b : Bool) → Ends (length details) (cond b (refuses tables_apart) (within (length details) (record { start = at + length_bytes; len = num 4 at details })))
    go true = tt
    go false = within_ends (length details) (record { start = at + length_bytes; len = num 4 at details })

details_end : (offsets details : List ℕ) (count k : ℕ) → Ends (length details) (word_details_in offsets details count k)
unfolding word_details_in
details_end offsets details count k = numbered_ends (length details) offset_size count k offsets _ (span_ends details (num 4 0 (entry_at offset_size offsets k)))

part_inside : (bytes : ℕ) (a : Looked Span) → Ends bytes a → (s : Span) → Ok s ≡ found a → s.start + s.len ≤ bytes
part_inside bytes (gives p) h s e = let f : s ≡ p = cc in rw f h
part_inside bytes (refuses n) h s e = zero_one (cc)

-- and holds what its bytes hold
part_held : (table : List ℕ) (a : Looked Span) (s : Span) → Ok s ≡ found a → take (s.start + s.len - s.start) (drop s.start table) ≡ held table a
part_held table (gives p) s e =
    let f : s ≡ p = cc in
    ap (λ n. take n (drop s.start table)) (add-sub_cancel_left s.start s.len) ∙ ap (λ x. take x.len (drop x.start table)) f
part_held table (refuses n) s e = zero_one (cc)

none_held : (table : List ℕ) (a : Looked Span) (r : Refusal) → Err r ≡ found a → [] ≡ held table a
none_held table (gives p) r e = zero_one (cc)
none_held table (refuses n) r e = refl

module _ (places members : List ℕ) (count k : ℕ) where
  pub ids_inside : (s : Span) → Ok s ≡ found (word_ids_in places members count k) → s.start + s.len ≤ length members
  ids_inside s e = part_inside (length members) (word_ids_in places members count k) (ids_end places members count k) s e

  pub ids_held : (s : Span) → Ok s ≡ found (word_ids_in places members count k) → take (s.start + s.len - s.start) (drop s.start members) ≡ held members (word_ids_in places members count k)
  ids_held s e = part_held members (word_ids_in places members count k) s e

  pub ids_none : (r : Refusal) → Err r ≡ found (word_ids_in places members count k) → [] ≡ held members (word_ids_in places members count k)
  ids_none r e = none_held members (word_ids_in places members count k) r e

module _ (offsets details : List ℕ) (count k : ℕ) where
  pub details_inside : (s : Span) → Ok s ≡ found (word_details_in offsets details count k) → s.start + s.len ≤ length details
  details_inside s e = part_inside (length details) (word_details_in offsets details count k) (details_end offsets details count k) s e

  pub details_held : (s : Span) → Ok s ≡ found (word_details_in offsets details count k) → take (s.start + s.len - s.start) (drop s.start details) ≡ held details (word_details_in offsets details count k)
  details_held s e = part_held details (word_details_in offsets details count k) s e

  pub details_none : (r : Refusal) → Err r ≡ found (word_details_in offsets details count k) → [] ≡ held details (word_details_in offsets details count k)
  details_none r e = none_held details (word_details_in offsets details count k) r e
