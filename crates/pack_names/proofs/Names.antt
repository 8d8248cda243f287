-- Names that stand one behind another in the store, with their slots and marks: which names `name_rules` finds placed there, and one name more.
-- Assumes nothing.
use Prim.Native.Nat.{ℕ, zero, suc, ◌+◌, ◌*◌, ◌≤◌, ◌<◌}
use native.Mathlib.Decide.{ℕ_discrete}
use native.Mathlib.Numerals.{add-one}
use native.Mathlib.Omega.{arith}
use mathlib.Core.Path.{◌≡◌, refl, sym, ap, ap₂, ◌∙◌}
use mathlib.Core.Bool.{Bool, true, false, not, ◌&&◌}
use mathlib.Core.List.{List, [], ◌∷◌, ◌++◌, map, append_assoc, append-nil}
use lib.ListN.{length, take, drop, get_or, set, length-append, length-map, length-set, get_or-append}
use lib.Seq.{take_at, drop_at, get_or-append_seam, get_or-set_same, get_or-set_other, drop-drop}
use borrow.Author.Tests.{le-leb}
use Rattle.paper.specs.Sizes.{max_categories, max_name_bytes}
use Rattle.paper.specs.Lists.{any, same, joined, sum}
use Rattle.paper.specs.Numbers.Bytes.{le}
use Rattle.paper.specs.CharDef.Reading.{name_bytes}
use Rattle.paper.specs.Computed.ReadPack.{name_rule}
use Rattle.paper.specs.Computed.Rules.{formed}
use Rattle.paper.specs.Tables.Layout.{name_slot_bytes, name_slot_of, name_slots, pieces, name_slot_size}
use Rattle.paper.specs.Tables.Lent.{num, patch, padded}
use Rattle.paper.proofs.Apart.{zero_one}
use Rattle.paper.proofs.Lists.Facts.{joined_length, joined_snoc, map_append, sum_append}
use Rattle.paper.proofs.Tables.Laws.{pieces_table, pieces_length, table_length}
use Rattle.paper.proofs.Tables.Append.{patch_patch, patch_padded, padded_length, entry_more}
use Rattle.paper.proofs.Tables.Room.{zeros, padded_is}
use Rattle.paper.proofs.Tables.Trip.{places_length, wide_place}
use Rattle.name_rules.specs.Placed.{placed, name_of, placed_names}
use Rattle.mark.specs.Mark.{mark}
use Rattle.name_rules.specs.Marked.{Marked}
use Rattle.name_rules.proofs.Placed.{placed_snoc}
use Rattle.pack_names.specs.Names.{Store, Stored, Named}

-- a name behind others in a store of n bytes
stored_part : (n : ℕ) (ns : List (List ℕ)) (name store : List ℕ) (start len : ℕ) → store ≡ padded n (joined (ns ++ (name ∷ [])))
    → length (joined ns) ≡ start → length name ≡ len → take len (drop start store) ≡ name
stored_part n ns name store start len e d l =
    let z : List ℕ = zeros n (joined (ns ++ (name ∷ []))) in
    let f : store ≡ joined ns ++ (name ++ zeros n (joined (ns ++ (name ∷ [])))) =
    e ∙ padded_is n (joined (ns ++ (name ∷ []))) ∙ ap (λ x. x ++ zeros n (joined (ns ++ (name ∷ [])))) (joined_snoc ns name)
    ∙ append_assoc (joined ns) name (zeros n (joined (ns ++ (name ∷ [])))) in
    ap (λ x. take len (drop start x)) f ∙ ap (take len) (drop_at (joined ns) (name ++ z) start d) ∙ take_at name z len l

-- ---- what is placed

slot_read : (start len : ℕ) → start < 65536 → len < 65536
    → name_slot_of (name_slot_bytes (record { start = start; len = len })) ≡ record { start = start; len = len }
unfolding num
slot_read start len a b = ap₂ (λ x y. record { start = x; len = y }) (omega arith) (omega arith)

slots_read : (at : ℕ) (ls : List ℕ) → at + sum ls < 65536 → map name_slot_of (map name_slot_bytes (name_slots at ls)) ≡ name_slots at ls
unfolding name_slots
slots_read at [] h = refl
slots_read at (l ∷ ls) h = ap₂ (λ x xs. x ∷ xs) (slot_read at l (omega arith) (omega arith)) (slots_read (at + l) ls (omega arith))

-- the part that a slot names
all_placed : (store : List ℕ) (at : ℕ) (ns : List (List ℕ)) (more : List ℕ) → drop at store ≡ joined ns ++ more → at + sum (map length ns) ≤ length store
    → map (placed store) (name_slots at (map length ns)) ≡ ns
unfolding name_slots placed
all_placed store at [] more e h = refl
all_placed store at (n ∷ ns) more e h =
    let i : at + length n ≤ length store = omega arith in
    let f : drop at store ≡ n ++ (joined ns ++ more) = e ∙ append_assoc n (joined ns) more in
    let g : drop (at + length n) store ≡ joined ns ++ more =
    sym (drop-drop (length n) at store) ∙ ap (drop (length n)) f ∙ drop_at n (joined ns ++ more) (length n) refl in
    ap₂ (λ x xs. x ∷ xs)
    (rw (le-leb (at + length n) (length store) i) (ap (take (length n)) f ∙ take_at n (joined ns ++ more) (length n) refl))
    (all_placed store (at + length n) ns more g (omega arith))

module _ {ns : List (List ℕ)} {names categories : List ℕ} {n used : ℕ} (z : Stored ns names categories n used) where
  joined_used : length (joined ns) ≡ used
  unfolding name_bytes
  joined_used = joined_length ns ∙ sym z.bytes_is

  pub names_long : length names ≡ max_name_bytes
  names_long = let s = z.short in let j = joined_used in ap length z.stored ∙ padded_length max_name_bytes (joined ns) (omega arith)

  slots_count : length (name_slots 0 (map length ns)) ≡ n
  slots_count = places_length 0 (map length ns) ∙ length-map ns length ∙ sym z.count_is

  pub categories_long : length categories ≡ name_slot_size * max_categories
  categories_long =
      let f = z.few in
      let c = slots_count in
      let t = table_length name_slot_size name_slot_bytes wide_place (name_slots 0 (map length ns)) in
      ap length z.slotted ∙ padded_length (name_slot_size * max_categories) (joined (map name_slot_bytes (name_slots 0 (map length ns)))) (omega arith)

  pub placed_all : placed_names n categories names ≡ ns
  unfolding placed_names name_bytes
  placed_all =
      let s = z.short in
      let b = z.bytes_is in
      let l = names_long in
      let t : List ℕ = joined (map name_slot_bytes (name_slots 0 (map length ns))) in
      ap₂ (λ k m. map (placed names) (map name_slot_of (pieces name_slot_size k m))) (sym slots_count) (z.slotted ∙ padded_is (name_slot_size * max_categories) t)
      ∙ ap (λ m. map (placed names) (map name_slot_of m))
      (pieces_table name_slot_size name_slot_bytes wide_place (name_slots 0 (map length ns)) (zeros (name_slot_size * max_categories) t))
      ∙ ap (map (placed names)) (slots_read 0 (map length ns) (omega arith))
      ∙ all_placed names 0 ns (zeros max_name_bytes (joined ns)) (z.stored ∙ padded_is max_name_bytes (joined ns)) (omega arith)

-- ---- the names one by one

placed_count : (n : ℕ) (categories names : List ℕ) → length (placed_names n categories names) ≡ n
unfolding placed_names
placed_count n categories names =
    length-map (map name_slot_of (pieces name_slot_size n categories)) (placed names) ∙ length-map (pieces name_slot_size n categories) name_slot_of
    ∙ pieces_length name_slot_size n categories

pub placed_at : (n : ℕ) (categories names : List ℕ) (k : ℕ) → k < n → get_or (placed_names n categories names) k [] ≡ name_of k categories names
placed_at zero categories names k h = absurd (omega arith)
placed_at (suc n) categories names k h =
    ap (λ m. get_or (placed_names m categories names) k []) (sym (add-one n)) ∙ ap (λ l. get_or l k []) (placed_snoc names categories n)
    ∙ elim (ℕ_discrete k n) [
      | yes d ↦ ap (λ m. get_or (placed_names n categories names ++ (name_of n categories names ∷ [])) m []) (d ∙ sym (placed_count n categories names))
          ∙ get_or-append_seam (placed_names n categories names) (name_of n categories names) [] [] ∙ ap (λ m. name_of m categories names) (sym d)
      | no d ↦ (let c = placed_count n categories names in get_or-append (placed_names n categories names) _ [] k (omega arith))
          ∙ placed_at n categories names k (omega arith)
    ]

module _ {ns : List (List ℕ)} {s : Store} {n used : ℕ} (z : Named ns s n used) where
  -- the marks are those of the names that are placed
  pub marks_are : Marked n s.categories s.names s.marks
  marks_are k h =
      z.marked k h ∙ ap (λ l. mark (get_or l k [])) (sym (placed_all z.holds)) ∙ ap mark (placed_at n s.categories s.names k h)

-- ---- the last of the names

last_same : {A : Type 0} (xs ys : List A) (x y : A) → xs ++ (x ∷ []) ≡ ys ++ (y ∷ []) → (xs ≡ ys) × (x ≡ y)
last_same [] [] x y e = (refl, cc)
last_same [] (b ∷ []) x y e = zero_one (cc)
last_same [] (b ∷ c ∷ ys) x y e = zero_one (cc)
last_same (a ∷ []) [] x y e = zero_one (cc)
last_same (a ∷ b ∷ xs) [] x y e = zero_one (cc)
last_same (a ∷ xs) (b ∷ ys) x y e =
    let h : a ≡ b = cc in
    let t : xs ++ (x ∷ []) ≡ ys ++ (y ∷ []) = cc in
    let (p, q) = last_same xs ys x y t in
    (ap₂ (λ u v. u ∷ v) h p, q)

bytes_snoc : (ns : List (List ℕ)) (n : List ℕ) → name_bytes (ns ++ (n ∷ [])) ≡ name_bytes ns + length n
unfolding name_bytes
bytes_snoc ns n = ap sum (map_append length ns (n ∷ [])) ∙ sum_append (map length ns) (length n ∷ []) ∙ omega arith

module _ (ns : List (List ℕ)) (name : List ℕ) (s : Store) (i start len : ℕ) (z : Named (ns ++ (name ∷ [])) s (i + 1) (start + len)) where
  parted : (placed_names i s.categories s.names ≡ ns) × (name_of i s.categories s.names ≡ name)
  parted = last_same _ ns _ name (sym (placed_snoc s.names s.categories i) ∙ placed_all z.holds)

  pub before_last : placed_names i s.categories s.names ≡ ns
  before_last = parted.0

  pub last_name : name_of i s.categories s.names ≡ name
  last_name = parted.1

  pub last_stored : length name ≡ len → take len (drop start s.names) ≡ name
  unfolding name_bytes
  last_stored e =
      let b = z.holds.bytes_is in
      let c = bytes_snoc ns name in
      let j = joined_length ns in
      stored_part max_name_bytes ns name s.names start len z.holds.stored (omega arith) e

  -- its rule: well-formed, and none of those before it
  module _ (size : length name ≡ len) (k : ℕ) (whole : k ≡ len) (b : Bool) (e : b ≡ formed (take k (drop start s.names))) where
    formed_is : b ≡ formed name
    formed_is = e ∙ ap (λ m. formed (take m (drop start s.names))) whole ∙ ap formed (last_stored size)

    pub ill : b ≡ false → b ≡ name_rule ns name
    unfolding name_rule
    ill h = h ∙ sym (ap (λ x. x && not (any (same name) ns)) (sym formed_is ∙ h))

    pub new_or_not : b ≡ true → (r : Bool) → r ≡ not (any (same (name_of i s.categories s.names)) (placed_names i s.categories s.names))
        → r ≡ name_rule ns name
    unfolding name_rule
    new_or_not h r q =
        q ∙ ap₂ (λ x y. not (any (same x) y)) last_name before_last ∙ ap (λ x. x && not (any (same name) ns)) (sym h ∙ formed_is)

-- ---- one name more

-- its slot, by two writes
pub two_puts : (at a b : ℕ) (l l₁ l₂ : List ℕ) → at + 4 ≤ length l → l₁ ≡ patch at (le 2 a) l → l₂ ≡ patch (at + 2) (le 2 b) l₁
    → l₂ ≡ patch at (name_slot_bytes (record { start = a; len = b })) l
two_puts at a b l l₁ l₂ h p q = q ∙ ap (patch (at + 2) (le 2 b)) p ∙ patch_patch at (at + 2) (le 2 a) (le 2 b) l refl (omega arith)

slots_snoc : (at : ℕ) (ls : List ℕ) (k : ℕ) → name_slots at (ls ++ (k ∷ [])) ≡ name_slots at ls ++ (record { start = at + sum ls; len = k } ∷ [])
unfolding name_slots
slots_snoc at [] k = let e : at ≡ at + 0 = omega arith in ap (λ m. record { start = m; len = k } ∷ []) e
slots_snoc at (l ∷ ls) k =
    let e : at + l + sum ls ≡ at + (l + sum ls) = omega arith in
    ap (λ m. record { start = at; len = l } ∷ m) (slots_snoc (at + l) ls k ∙ ap (λ m. name_slots (at + l) ls ++ (record { start = m; len = k } ∷ [])) e)

module _ {ns : List (List ℕ)} {s₀ : Store} {i used : ℕ} (z : Named ns s₀ i used) (s₁ : Store) (len : ℕ) (name : List ℕ) (size : length name ≡ len)
    (few : i < max_categories) (fits : used + len ≤ max_name_bytes)
    (put : s₁.names ≡ patch used name s₀.names)
    (slot : s₁.categories ≡ patch (name_slot_size * i) (name_slot_bytes (record { start = used; len = len })) s₀.categories) where
  stored_more : Stored (ns ++ (name ∷ [])) s₁.names s₁.categories (i + 1) (used + len)
  unfolding name_bytes
  stored_more =
      let h = z.holds in
      let c = h.count_is in
      let b = h.bytes_is in
      let j : length (joined ns) ≡ used = joined_used h in
      let n : length (name_slots 0 (map length ns)) ≡ i = slots_count h in
      let a : length (ns ++ (name ∷ [])) ≡ length ns + 1 = length-append ns (name ∷ []) in
      let d = bytes_snoc ns name in
      let u : used ≡ 0 + sum (map length ns) = omega arith in
      record {
        count_is = omega arith;
        bytes_is = omega arith;
        few = omega arith;
        short = fits;
        stored = put ∙ ap₂ (λ k l. patch k name l) (sym j) h.stored ∙ patch_padded max_name_bytes (joined ns) name (omega arith)
            ∙ ap (padded max_name_bytes) (sym (joined_snoc ns name));
        slotted = slot
            ∙ ap₂ (λ p l. patch (name_slot_size * i) p l) (sym (append-nil (name_slot_bytes (record { start = used; len = len })))) h.slotted
            ∙ entry_more name_slot_size name_slot_bytes wide_place (name_slots 0 (map length ns)) (record { start = used; len = len } ∷ []) (name_slot_size * i)
            (name_slot_size * max_categories) (omega arith) (omega arith)
            ∙ ap (λ l. padded (name_slot_size * max_categories) (joined (map name_slot_bytes l)))
            (ap₂ (λ p q. name_slots 0 (map length ns) ++ (record { start = p; len = q } ∷ [])) u (sym size)
            ∙ sym (slots_snoc 0 (map length ns) (length name)) ∙ ap (name_slots 0) (sym (map_append length ns (name ∷ []))));
      }

  pub named_more : s₁.marks ≡ set s₀.marks i (mark (take len (drop used s₁.names))) → Named (ns ++ (name ∷ [])) s₁ (i + 1) (used + len)
  named_more e =
      let l = z.marks_long in
      let c = z.holds.count_is in
      let own : take len (drop used s₁.names) ≡ name = stored_part max_name_bytes ns name s₁.names used len stored_more.stored (joined_used z.holds) size in
      record {
        holds = stored_more;
        marks_long = ap length e ∙ length-set s₀.marks i _ ∙ l;
        marked = λ k h.
            ap (λ x. get_or x k 0) e
            ∙ elim (ℕ_discrete k i) [
              | yes d ↦ ap (λ m. get_or (set s₀.marks i (mark (take len (drop used s₁.names)))) m 0) d ∙ get_or-set_same s₀.marks i _ 0 (omega arith)
                  ∙ ap mark (own ∙ sym (ap (λ m. get_or (ns ++ (name ∷ [])) m []) (d ∙ c) ∙ get_or-append_seam ns name [] []))
              | no d ↦ get_or-set_other s₀.marks i k _ 0 d ∙ z.marked k (omega arith) ∙ ap mark (sym (get_or-append ns (name ∷ []) [] k (omega arith)))
            ];
      }
