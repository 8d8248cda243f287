-- Names over tables handed in: what the code reads at an entry is the paper's slot, and the entries that are left decide as all do, whether
-- a name runs past the store and which number a name has.
-- Assumes nothing.
use Prim.Native.Nat.{ℕ, ◌+◌, ◌*◌, ◌-◌, ◌≤◌, ◌<◌}
use native.Mathlib.Omega.{arith}
use mathlib.Core.Path.{◌≡◌, refl, sym, ap, ap₂, ◌∙◌}
use mathlib.Core.Bool.{Bool, true, false, not, ◌||◌}
use mathlib.Core.List.{List, [], ◌∷◌, map}
use lib.ListN.{length, take, drop, length-take, length-drop}
use lib.Seq.{take_all, length-take-le}
use borrow.Author.Tests.{lt-ltb, le-ltb, ltb-false}
use Rattle.paper.specs.Lists.{any, same}
use Rattle.paper.specs.Tables.Layout.{name_slot_size}
use Rattle.paper.specs.Rows.Numbers.{name_slots_of, name_in, past_store}
use Rattle.paper.specs.Tables.Layout.{NameSlot, name_slot_of}
use Rattle.paper.specs.Tables.Lent.{num, got}
use Rattle.paper.proofs.Tables.Laws.{got_in, left, left_all, left_none, left_more}
use Rattle.table_rules.proofs.Turn.{entry}
use Rattle.table_rules.proofs.Entries.{first_got, field_got, inside}
use Rattle.seek.specs.Finds.{Finds}
use Rattle.seek.proofs.Compare.{differs}
use Rattle.seek.proofs.Search.{Searching, search_start, search_hit, search_on, search_done}
use Rattle.std.specs.Prelude.{None, Some}

-- the slots that a loop has left
abbrev pub slots_left : List ℕ → ℕ → ℕ → List NameSlot
slots_left l n i = map name_slot_of (left name_slot_size n i l)

abbrev slot_at : List ℕ → ℕ → NameSlot
slot_at l i = name_slot_of (entry name_slot_size i l)

none_left : (l : List ℕ) (n i : ℕ) → n ≤ i → slots_left l n i ≡ []
none_left l n i h = ap (map name_slot_of) (left_none name_slot_size n i l h)

-- the name from its start to its end is the name
whole_name : (store name : List ℕ) (start len : ℕ) → len ≡ length name
    → same (drop 0 (take len name)) (take (len - 0) (drop start store)) ≡ same name (take len (drop start store))
whole_name store name start len e =
    let k : len - 0 ≡ len = omega arith in
    ap₂ (λ x m. same x (take m (drop start store))) (take_all len name (omega arith)) k

neither : (a b : Bool) → (a || b) ≡ false → (a ≡ false) × (b ≡ false)
neither true b e = (e, absurd (let z : ◌≡◌ {A = ℕ} 0 1 = cc in omega arith))
neither false b e = (refl, e)

module _ (l : List ℕ) (n i : ℕ) (lt : i < n) where
  one_left : slots_left l n i ≡ slot_at l i ∷ slots_left l n (i + 1)
  one_left = ap (map name_slot_of) (left_more name_slot_size n i l lt)

  module _ (long : name_slot_size * n ≤ length l) where
    start_is : (start : ℕ) → start ≡ got 2 (name_slot_size * i) l → start ≡ (slot_at l i).start
    start_is start e = e ∙ first_got 2 name_slot_size i l (omega arith) (inside name_slot_size i n l lt long)

    len_is : (len : ℕ) → len ≡ got 2 (name_slot_size * i + 2) l → len ≡ (slot_at l i).len
    len_is len e = e ∙ field_got 2 2 name_slot_size i l (omega arith) (inside name_slot_size i n l lt long)

-- a slot by itself, as a slice has it, and what is read of it
module _ (l : List ℕ) (n i : ℕ) (lt : i < n) (long : name_slot_size * n ≤ length l) where
  abbrev slot_slice : List ℕ
  slot_slice = take (name_slot_size * i + name_slot_size - name_slot_size * i) (drop (name_slot_size * i) l)

  in_slice : (k : ℕ) → k + 2 ≤ name_slot_size → got 2 k slot_slice ≡ num 2 k (entry name_slot_size i l)
  in_slice k h =
      let w : name_slot_size * i + name_slot_size - name_slot_size * i ≡ name_slot_size = omega arith in
      let there = inside name_slot_size i n l lt long in
      let d : length (drop (name_slot_size * i) l) ≡ length l - name_slot_size * i = length-drop (name_slot_size * i) l in
      let e : length (entry name_slot_size i l) ≡ name_slot_size = length-take-le name_slot_size (drop (name_slot_size * i) l) (omega arith) in
      ap (λ m. got 2 k (take m (drop (name_slot_size * i) l))) w ∙ got_in 2 k (entry name_slot_size i l) (omega arith)

  pub start_read : got 2 0 slot_slice ≡ got 2 (name_slot_size * i) l
  start_read = in_slice 0 (omega arith) ∙ sym (first_got 2 name_slot_size i l (omega arith) (inside name_slot_size i n l lt long))

  pub len_read : got 2 2 slot_slice ≡ got 2 (name_slot_size * i + 2) l
  len_read = in_slice 2 (omega arith) ∙ sym (field_got 2 2 name_slot_size i l (omega arith) (inside name_slot_size i n l lt long))

-- ---- does a name run past the store?

module _ (store l : List ℕ) (n : ℕ) where
  pub inside_begins : any (past_store store) (slots_left l n 0) ≡ any (past_store store) (name_slots_of l n)
  inside_begins = ap (λ ps. any (past_store store) (map name_slot_of ps)) (left_all name_slot_size n l)

  module _ (i : ℕ) (v : Bool) (inv : any (past_store store) (slots_left l n i) ≡ v) where
    opened : i < n → (past_store store (slot_at l i) || any (past_store store) (slots_left l n (i + 1))) ≡ v
    opened lt = sym (ap (any (past_store store)) (one_left l n i lt)) ∙ inv

    pub inside_ends : n ≤ i → true ≡ not v
    inside_ends h = ap not (sym (ap (any (past_store store)) (none_left l n i h)) ∙ inv)

    module _ (lt : i < n) (long : name_slot_size * n ≤ length l) (start len : ℕ)
        (es : start ≡ got 2 (name_slot_size * i) l) (el : len ≡ got 2 (name_slot_size * i + 2) l) where
      past_is : (slot_at l i).start + (slot_at l i).len ≡ start + len
      past_is = sym (ap₂ (λ a b. a + b) (start_is l n i lt long start es) (len_is l n i lt long len el))

      pub inside_fails : length store < start + len → false ≡ not v
      inside_fails h =
          ap not (sym (ap (λ b. b || any (past_store store) (slots_left l n (i + 1))) (lt-ltb (length store) ((slot_at l i).start + (slot_at l i).len) (omega (arith, past_is)))) ∙ opened lt)

      pub inside_goes : start + len ≤ length store → any (past_store store) (slots_left l n (i + 1)) ≡ v
      inside_goes h =
          sym (ap (λ b. b || any (past_store store) (slots_left l n (i + 1))) (le-ltb (length store) ((slot_at l i).start + (slot_at l i).len) (omega (arith, past_is)))) ∙ opened lt

-- ---- the search

pub record Placing (store l : List ℕ) (n : ℕ) (name : List ℕ) (i : ℕ) : Type 0 where
  pub long : name_slot_size * n ≤ length l
  pub none_past : any (past_store store) (slots_left l n i) ≡ false
  pub seen : Searching (map (name_in store) (name_slots_of l n)) name i (map (name_in store) (slots_left l n i))

pub place_start : (store l : List ℕ) (n : ℕ) (name : List ℕ) → name_slot_size * n ≤ length l → any (past_store store) (name_slots_of l n) ≡ false → Placing store l n name 0
place_start store l n name h e =
    record {
      long = h;
      none_past = inside_begins store l n ∙ e;
      seen = rw (left_all name_slot_size n l) (search_start (map (name_in store) (name_slots_of l n)) name);
    }

module _ {store l : List ℕ} {n : ℕ} {name : List ℕ} {i : ℕ} (z : Placing store l n name i) where
  pub place_done : n ≤ i → Finds (map (name_in store) (name_slots_of l n)) name None
  place_done h = search_done z.seen (ap (map (name_in store)) (none_left l n i h))

  module _ (lt : i < n) where
    first : (past_store store (slot_at l i) ≡ false) × (any (past_store store) (slots_left l n (i + 1)) ≡ false)
    first = neither (past_store store (slot_at l i)) _ (opened store l n i false z.none_past lt)

    next : map (name_in store) (slots_left l n i) ≡ name_in store (slot_at l i) ∷ map (name_in store) (slots_left l n (i + 1))
    next = ap (map (name_in store)) (one_left l n i lt)

    passed : false ≡ same name (name_in store (slot_at l i)) → Placing store l n name (i + 1)
    passed h = record { long = z.long; none_past = first.1; seen = search_on z.seen _ _ next h }

    -- a name of another length: its slot has the length of the name, since that does not run past the store
    pub place_other : (len : ℕ) → len ≡ got 2 (name_slot_size * i + 2) l → (len ≡ length name → ⊥) → Placing store l n name (i + 1)
    place_other len el h =
        let p : (slot_at l i).start + (slot_at l i).len ≤ length store = ltb-false (length store) ((slot_at l i).start + (slot_at l i).len) first.0 in
        let k : length (name_in store (slot_at l i)) ≡ (slot_at l i).len = simp (length-take, length-drop) (omega arith) in
        passed (differs name (name_in store (slot_at l i)) (λ d. h (len_is l n i lt z.long len el ∙ sym k ∙ sym d)))

    -- a name of the same length k: its bytes decide
    module _ (start len k : ℕ) (es : start ≡ got 2 (name_slot_size * i) l) (el : len ≡ got 2 (name_slot_size * i + 2) l) (whole : k ≡ length name)
        (r : Bool) (er : r ≡ same (drop 0 (take k name)) (take (k - 0) (drop start store))) (e : len ≡ k) where
      is_name : r ≡ same name (name_in store (slot_at l i))
      is_name =
          er ∙ whole_name store name start k whole
          ∙ ap₂ (λ m j. same name (take m (drop j store))) (sym e ∙ len_is l n i lt z.long len el) (start_is l n i lt z.long start es)

      pub place_hit : r ≡ true → Finds (map (name_in store) (name_slots_of l n)) name (Some i)
      place_hit h = search_hit z.seen _ _ next (sym h ∙ is_name)

      pub place_on : r ≡ false → Placing store l n name (i + 1)
      place_on h = passed (sym h ∙ is_name)
