-- A reading's tables, handed in, are that reading; and tables that are handed in are their reading's. Assumes nothing.
use Prim.Native.Nat.{ℕ, zero, suc, ◌+◌, ◌*◌, ◌≤◌, ◌<◌}
use native.Mathlib.Omega.{arith}
use mathlib.Core.Path.{◌≡◌, refl, sym, ap, ap₂, ◌∙◌, subst}
use mathlib.Core.Bool.{Bool, true, false, not, cond, ◌&&◌}
use mathlib.Core.List.{List, [], ◌∷◌, ◌++◌, map, append_assoc, append-nil}
use mathlib.Core.Option.{none, some}
use lib.Dec.{T, leb, ltb, eqb}
use lib.ListN.{length, take, drop, get_or, length-append, length-drop, length-map}
use lib.Seq.{take-append_seam, drop-append_seam, take-add, length-take-le, drop-length}
use mir.Facts.{and_yes, yes_and, leb_yes, yes_leb, ltb_yes, yes_ltb, eqb_yes, yes_eqb}
use borrow.Author.Tests.{le-leb}
use Rattle.paper.specs.Sizes.{max_categories, max_name_bytes, max_category_lines, max_ranges, max_references, max_u16, max_u32}
use Rattle.paper.specs.Lists.{all, empty, joined, sum}
use Rattle.paper.specs.Text.Scalar.{WellFormed}
use Rattle.paper.specs.Numbers.Bytes.{le, value, is_byte}
use Rattle.paper.specs.CharDef.Reading.{Definition, Range, Reading, Within, name_bytes, references}
use Rattle.paper.specs.Pack.Fields.{flag}
use Rattle.paper.specs.Pack.Rules.{is_bound, once, numbered, PackRules}
use Rattle.paper.specs.Pack.Rules as rule
use Rattle.paper.specs.Tables.HandedIn.{HoldTogether, OfBytes}
use Rattle.paper.specs.Tables.Layout.{pieces, NameSlot, RangeSlot, name_slot_bytes, definition_bytes, slot_bytes, name_slot_of, definition_of, slot_of, name_slots, range_slots, split, ranging, Tables, counts_of, numbers_of, layout, used, behind, name_slot_size, definition_size, range_slot_size, reference_size, invoke_at, group_at}
use Rattle.paper.specs.Tables.Lent.{num}
use Rattle.paper.specs.Computed.HandedIn.{enough, name_slots_stand, slots_stand, flagged, name_slots_in, names_in, slots_in, numbers_in, decoded, holds, handed_in}
use Rattle.paper.specs.Computed.Rules.{formed}
use Rattle.paper.specs.declared.Counts.{Counts}
use Rattle.paper.proofs.Lists.Facts.{all_append, all_left, all_right, joined_length}
use Rattle.paper.proofs.Lists.Facts.{T→true, true→T}
use Rattle.paper.proofs.Pack.Rules.{each_all, all_each, formed_is, is_formed}
use Rattle.paper.proofs.Pack.Trip.{bound_bits}
use Rattle.paper.proofs.Tables.Laws.{whole, field_back, pieces_table, table_length, pieces_length, joined_pieces, pieces_whole, all_take, all_drop, short, value_small, map_back, value_le}

-- the tests with their numbers written out
is_lt : (a b : ℕ) → a < b → T (ltb a b)
is_lt a b h = yes_ltb h

is_le : (a b : ℕ) → a ≤ b → T (leb a b)
is_le a b h = yes_leb h

is_eq : (a b : ℕ) → a ≡ b → T (eqb a b)
is_eq a b h = yes_eqb h

both : {a b : Bool} → a ≡ true → b ≡ true → (a && b) ≡ true
both s t = rw (s, t)

-- ---- one law for every table

module _ {A : Type 0} (w : ℕ) (f : A → List ℕ) (g : List ℕ → A) where
  there : ((x : A) → length (f x) ≡ w) → (ok : A → Bool) → ((x : A) → T (ok x) → g (f x) ≡ x)
      → (xs : List A) (n : ℕ) (rest : List ℕ) → length xs ≡ n → T (all ok xs) → map g (pieces w n (joined (map f xs) ++ rest)) ≡ xs
  there wide ok back xs n rest e t =
      ap (λ m. map g (pieces w m (joined (map f xs) ++ rest))) (sym e) ∙ ap (map g) (pieces_table w f wide xs rest) ∙ map_back ok f g back xs t

  again : (ok : List ℕ → Bool) → ((p : List ℕ) → T (ok p) → f (g p) ≡ p)
      → (n : ℕ) (l : List ℕ) → T (all ok (pieces w n l)) → joined (map f (map g (pieces w n l))) ≡ take (w * n) l
  again ok back n l t = ap joined (map_back ok g f back (pieces w n l) t) ∙ joined_pieces w n l

-- ---- entries

small : ℕ → Bool
small n = ltb n (max_u16 + 1)

two : (n : ℕ) → T (small n) → num 2 0 (le 2 n) ≡ n
unfolding num small
two n t = let h : n < max_u16 + 1 = ltb_yes t in omega arith

small_place : NameSlot → Bool
small_place p = small p.start && small p.len

place_there : (p : NameSlot) → T (small_place p) → name_slot_of (name_slot_bytes p) ≡ p
unfolding num small small_place
place_there p t =
    let h = and_yes (ltb p.start (max_u16 + 1)) (ltb p.len (max_u16 + 1)) t in
    ap₂ (λ a b. record { start = a; len = b }) (two p.start h.0) (two p.len h.1)

small_definition : Definition → Bool
small_definition d = ltb d.len (max_u32 + 1)

flag_there : (b : Bool) → eqb (flag b) 1 ≡ b
flag_there true = refl
flag_there false = refl

four : (n : ℕ) → n < max_u32 + 1 → num 4 0 (le 4 n) ≡ n
unfolding num
four n h = value_le 4 n h

definition_there : (d : Definition) → T (small_definition d) → definition_of (definition_bytes d) ≡ d
unfolding num small_definition
definition_there d t =
    let a : value (le 4 d.len) ≡ d.len = value_le 4 d.len (ltb_yes t) in
    rw (flag_there d.invoke, flag_there d.group) (ap (λ n. record { invoke = d.invoke; group = d.group; len = n }) a)

small_row : RangeSlot → Bool
small_row r = small r.lower && (small r.upper && (small r.first && small r.count))

row_is : (r : RangeSlot) (a b c d : ℕ) → a ≡ r.lower → b ≡ r.upper → c ≡ r.first → d ≡ r.count
    → ◌≡◌ {A = RangeSlot} (record { lower = a; upper = b; first = c; count = d }) r
row_is r a b c d e f g h = rw (e, f, g, h)

row_there : (r : RangeSlot) → T (small_row r) → slot_of (slot_bytes r) ≡ r
unfolding num small small_row
row_there r t =
    let h = and_yes (small r.lower) _ t in
    let i = and_yes (small r.upper) _ h.1 in
    let j = and_yes (small r.first) (small r.count) i.1 in
    row_is r _ _ _ _ (two r.lower h.0) (two r.upper i.0) (two r.first j.0) (two r.count j.1)

-- the last field of an entry
last_back : (v k : ℕ) (p : List ℕ) → T (all is_byte p) → length p ≡ k + v → le v (num v k p) ≡ drop k p
last_back v k p t e =
    sym (append-nil (le v (num v k p))) ∙ ap (λ l. le v (num v k p) ++ l) (sym (ap (λ m. drop m p) (sym e) ∙ drop-length p)) ∙ field_back v k p t (omega arith)

place_back : (p : List ℕ) → T (whole name_slot_size p) → name_slot_bytes (name_slot_of p) ≡ p
place_back p t =
    let h = and_yes (eqb (length p) 4) (all is_byte p) t in
    let e : length p ≡ 4 = eqb_yes h.0 in
    ap (λ l. le 2 (num 2 0 p) ++ l) (last_back 2 2 p h.1 e) ∙ field_back 2 0 p h.1 (omega arith)

row_back : (p : List ℕ) → T (whole range_slot_size p) → slot_bytes (slot_of p) ≡ p
row_back p t =
    let h = and_yes (eqb (length p) 8) (all is_byte p) t in
    let e : length p ≡ 8 = eqb_yes h.0 in
    ap (λ l. le 2 (num 2 0 p) ++ l)
    (ap (λ l. le 2 (num 2 2 p) ++ l)
    (ap (λ l. le 2 (num 2 4 p) ++ l) (last_back 2 6 p h.1 e) ∙ field_back 2 4 p h.1 (omega arith))
    ∙ field_back 2 2 p h.1 (omega arith))
    ∙ field_back 2 0 p h.1 (omega arith)

number_back : (p : List ℕ) → T (whole reference_size p) → le 2 (num 2 0 p) ≡ p
number_back p t =
    let h = and_yes (eqb (length p) 2) (all is_byte p) t in
    let e : length p ≡ 2 = eqb_yes h.0 in
    last_back 2 0 p h.1 e

flag_back : (n : ℕ) → n ≤ 1 → flag (eqb n 1) ≡ n
flag_back zero h = refl
flag_back (suc zero) h = refl
flag_back (suc (suc n)) h = absurd (omega arith)

definition_back : (p : List ℕ) → T (whole definition_size p && flagged p) → definition_bytes (definition_of p) ≡ p
unfolding flagged
definition_back p t = go p (eqb_yes h.0) (leb_yes k.0) (leb_yes k.1) (field_back 4 0 p h.1 (let e : length p ≡ 6 = eqb_yes h.0 in omega arith))
  where
    g : T (whole definition_size p) × T (flagged p)
    g = and_yes (whole definition_size p) (flagged p) t

    h : T (eqb (length p) 6) × T (all is_byte p)
    h = and_yes (eqb (length p) 6) (all is_byte p) g.0

    k : T (leb (get_or p invoke_at 0) 1) × T (leb (get_or p group_at 0) 1)
    k = and_yes (leb (get_or p invoke_at 0) 1) (leb (get_or p group_at 0) 1) g.1

    go : (p : List ℕ) → length p ≡ 6 → get_or p invoke_at 0 ≤ 1 → get_or p group_at 0 ≤ 1 → le 4 (num 4 0 p) ++ drop 4 p ≡ p
        → le 4 (num 4 0 p) ++ (flag (eqb (get_or p invoke_at 0) 1) ∷ flag (eqb (get_or p group_at 0) 1) ∷ []) ≡ p
    go (a ∷ b ∷ c ∷ d ∷ e ∷ f ∷ []) z x y q = rw (flag_back e x, flag_back f y) q
    go (a ∷ b ∷ c ∷ d ∷ e ∷ f ∷ g ∷ s) z x y q = absurd (omega arith)
    go [] z x y q = absurd (omega arith)
    go (a ∷ []) z x y q = absurd (omega arith)
    go (a ∷ b ∷ []) z x y q = absurd (omega arith)
    go (a ∷ b ∷ c ∷ []) z x y q = absurd (omega arith)
    go (a ∷ b ∷ c ∷ d ∷ []) z x y q = absurd (omega arith)
    go (a ∷ b ∷ c ∷ d ∷ e ∷ []) z x y q = absurd (omega arith)

-- ---- one behind another

split_joined : (xs : List (List ℕ)) (rest : List ℕ) → split (map length xs) (joined xs ++ rest) ≡ xs
unfolding split
split_joined [] rest = refl
split_joined (x ∷ xs) rest =
    rw (append_assoc x (joined xs) rest, take-append_seam x (joined xs ++ rest), drop-append_seam x (joined xs ++ rest), split_joined xs rest)

joined_split : (ns l : List ℕ) → joined (split ns l) ≡ take (sum ns) l
unfolding split
joined_split [] l = refl
joined_split (n ∷ ns) l = ap (λ m. take n l ++ m) (joined_split ns (drop n l)) ∙ sym (take-add n (sum ns) l)

split_lengths : (ns l : List ℕ) → sum ns ≤ length l → map length (split ns l) ≡ ns
unfolding split
split_lengths [] l h = refl
split_lengths (n ∷ ns) l h =
    ap₂ (λ a b. a ∷ b) (length-take-le n l (omega arith)) (split_lengths ns (drop n l) (simp length-drop (omega arith)))

places_lens : (at : ℕ) (ns : List ℕ) → map (λ p. p.len) (name_slots at ns) ≡ ns
unfolding name_slots
places_lens at [] = refl
places_lens at (n ∷ ns) = ap (λ l. n ∷ l) (places_lens (at + n) ns)

pub places_length : (at : ℕ) (ns : List ℕ) → length (name_slots at ns) ≡ length ns
unfolding name_slots
places_length at [] = refl
places_length at (n ∷ ns) = ap suc (places_length (at + n) ns)

places_small : (at : ℕ) (ns : List ℕ) → at + sum ns < max_u16 + 1 → T (all small_place (name_slots at ns))
unfolding name_slots small small_place
places_small at [] h = tt
places_small at (n ∷ ns) h =
    yes_and (ltb at (max_u16 + 1) && ltb n (max_u16 + 1)) _ (yes_and (ltb at (max_u16 + 1)) (ltb n (max_u16 + 1)) (is_lt at (max_u16 + 1) (omega arith)) (is_lt n (max_u16 + 1) (omega arith)))
    (places_small (at + n) ns (omega arith))

places_stand : (total at : ℕ) (xs : List (List ℕ)) → T (all (λ x. not (empty x)) xs) → at + sum (map length xs) ≡ total
    → T (name_slots_stand total at (name_slots at (map length xs)))
unfolding name_slots_stand name_slots
places_stand total at [] t e = is_eq at total (omega arith)
places_stand total at (x ∷ xs) t e =
    let h = and_yes (not (empty x)) (all (λ y. not (empty y)) xs) t in
    yes_and (eqb at at) _ (is_eq at at refl)
    (yes_and (ltb 0 (length x)) _ (yes_ltb (filled x h.0))
    (yes_and (leb (at + length x) total) _ (is_le (at + length x) total (omega arith)) (places_stand total (at + length x) xs h.1 (omega arith))))
  where
    filled : (x : List ℕ) → T (not (empty x)) → 0 < length x
    filled [] t = absurd t
    filled (a ∷ x) t = omega arith

record Standing (total at : ℕ) (ps : List NameSlot) : Type 0 where
  again_places : name_slots at (map (λ p. p.len) ps) ≡ ps
  adds_up : at + sum (map (λ p. p.len) ps) ≡ total
  none_empty : T (all (λ n. ltb 0 n) (map (λ p. p.len) ps))

standing : (total at : ℕ) (ps : List NameSlot) → T (name_slots_stand total at ps) → Standing total at ps
unfolding name_slots_stand name_slots
standing total at [] t = let e : at ≡ total = eqb_yes t in record { again_places = refl; adds_up = omega arith; none_empty = tt }
standing total at (p ∷ ps) t =
    let h = and_yes (eqb p.start at) _ t in
    let i = and_yes (ltb 0 p.len) _ h.1 in
    let j = and_yes (leb (at + p.len) total) (name_slots_stand total (at + p.len) ps) i.1 in
    let s = standing total (at + p.len) ps j.1 in
    let e : p.start ≡ at = eqb_yes h.0 in
    record {
      again_places = ap₂ (λ (a : NameSlot) (l : List NameSlot). a ∷ l) (ap (λ (a : ℕ). record { start = a; len = p.len }) (sym e)) s.again_places;
      adds_up = let k = s.adds_up in omega arith;
      none_empty = yes_and (ltb 0 p.len) _ i.0 s.none_empty;
    }

-- ---- ranges

pub rows_length : (at : ℕ) (gs : List Range) → length (range_slots at gs) ≡ length gs
unfolding range_slots
rows_length at [] = refl
rows_length at (g ∷ gs) = ap suc (rows_length (at + length g.categories) gs)

bounded : Range → Bool
bounded g = is_bound g.lower && is_bound g.upper

bound_small : (a : ℕ) → T (is_bound a) → T (small a)
unfolding small
bound_small a t = is_lt a (max_u16 + 1) (bound_bits a t)

less : (n : ℕ) → n < max_u16 + 1 → T (small n)
unfolding small
less n h = yes_ltb h

rows_small : (at : ℕ) (gs : List Range) → T (all bounded gs) → at + references gs < max_u16 + 1 → T (all small_row (range_slots at gs))
unfolding range_slots small_row bounded references
rows_small at [] t h = tt
rows_small at (g ∷ gs) t h =
    let i = and_yes (bounded g) (all bounded gs) t in
    let j = and_yes (is_bound g.lower) (is_bound g.upper) i.0 in
    yes_and (small_row (record { lower = g.lower; upper = g.upper; first = at; count = length g.categories })) _
    (yes_and (small g.lower) _ (bound_small g.lower j.0)
    (yes_and (small g.upper) _ (bound_small g.upper j.1)
    (yes_and (small at) (small (length g.categories)) (less at (omega arith)) (less (length g.categories) (omega arith)))))
    (rows_small (at + length g.categories) gs i.1 (omega arith))

rows_stand : (total at : ℕ) (gs : List Range) → T (all bounded gs) → at + references gs ≡ total → T (slots_stand total at (range_slots at gs))
unfolding slots_stand range_slots bounded references
rows_stand total at [] t e = is_eq at total (omega arith)
rows_stand total at (g ∷ gs) t e =
    let i = and_yes (bounded g) (all bounded gs) t in
    let j = and_yes (is_bound g.lower) (is_bound g.upper) i.0 in
    yes_and (eqb at at) _ (is_eq at at refl)
    (yes_and (is_bound g.lower) _ j.0
    (yes_and (is_bound g.upper) _ j.1
    (yes_and (leb (at + length g.categories) total) _ (is_le (at + length g.categories) total (omega arith)) (rows_stand total (at + length g.categories) gs i.1 (omega arith)))))

ranging_rows : (at : ℕ) (gs : List Range) (rest : List ℕ) → ranging (range_slots at gs) (numbers_of gs ++ rest) ≡ gs
unfolding ranging range_slots
ranging_rows at [] rest = refl
ranging_rows at (g ∷ gs) rest =
    rw (
      append_assoc g.categories (numbers_of gs) rest,
      take-append_seam g.categories (numbers_of gs ++ rest),
      drop-append_seam g.categories (numbers_of gs ++ rest),
      ranging_rows (at + length g.categories) gs rest,
    )

pub numbers_length : (gs : List Range) → length (numbers_of gs) ≡ references gs
unfolding references
numbers_length [] = refl
numbers_length (g ∷ gs) = length-append g.categories (numbers_of gs) ∙ ap (λ m. length g.categories + m) (numbers_length gs)

rows_counts : (at : ℕ) (gs : List Range) → map (λ r. r.count) (range_slots at gs) ≡ map (λ g. length g.categories) gs
unfolding range_slots
rows_counts at [] = refl
rows_counts at (g ∷ gs) = ap (λ l. length g.categories ∷ l) (rows_counts (at + length g.categories) gs)

record Ranged (at : ℕ) (rs : List RangeSlot) (l : List ℕ) : Type 0 where
  again_rows : range_slots at (ranging rs l) ≡ rs
  again_numbers : numbers_of (ranging rs l) ≡ l
  in_bounds : T (all bounded (ranging rs l))
  as_many : length (ranging rs l) ≡ length rs

ranged : (total at : ℕ) (rs : List RangeSlot) (l : List ℕ) → T (slots_stand total at rs) → at + length l ≡ total → Ranged at rs l
unfolding slots_stand range_slots ranging bounded
ranged total at [] [] t e = record { again_rows = refl; again_numbers = refl; in_bounds = tt; as_many = refl }
ranged total at [] (x ∷ l) t e = absurd (let d : at ≡ total = eqb_yes t in omega arith)
ranged total at (r ∷ rs) l t e =
    let h = and_yes (eqb r.first at) _ t in
    let i = and_yes (is_bound r.lower) _ h.1 in
    let j = and_yes (is_bound r.upper) _ i.1 in
    let k = and_yes (leb (at + r.count) total) (slots_stand total (at + r.count) rs) j.1 in
    let le : at + r.count ≤ total = leb_yes k.0 in
    let d : r.first ≡ at = eqb_yes h.0 in
    let n : length (take r.count l) ≡ r.count = length-take-le r.count l (omega arith) in
    let s = ranged total (at + r.count) rs (drop r.count l) k.1 (simp length-drop (omega arith)) in
    record {
      again_rows = ap₂ (λ (a : RangeSlot) (b : List RangeSlot). a ∷ b) (row_is r _ _ _ _ refl refl (sym d) n)
          (ap (λ (m : ℕ). range_slots (at + m) (ranging rs (drop r.count l))) n ∙ s.again_rows);
      again_numbers = ap (λ (m : List ℕ). take r.count l ++ m) s.again_numbers ∙ lib.ListN.take-append-drop r.count l;
      in_bounds = yes_and (is_bound r.lower && is_bound r.upper) _ (yes_and (is_bound r.lower) (is_bound r.upper) i.0 j.0) s.in_bounds;
      as_many = ap suc s.as_many;
    }

-- ---- a reading's tables, with anything behind them, are that reading

pub wide_place : (p : NameSlot) → length (name_slot_bytes p) ≡ name_slot_size
wide_place p = refl

pub wide_definition : (d : Definition) → length (definition_bytes d) ≡ definition_size
wide_definition d = refl

pub wide_row : (r : RangeSlot) → length (slot_bytes r) ≡ range_slot_size
wide_row r = refl

pub wide_number : (n : ℕ) → length (le reference_size n) ≡ reference_size
wide_number n = refl

-- a table and what stands behind it is long enough
room : {A : Type 0} (w : ℕ) (f : A → List ℕ) → ((x : A) → length (f x) ≡ w) → (xs : List A) (n : ℕ) (rest : List ℕ) → length xs ≡ n
    → w * n ≤ length (joined (map f xs) ++ rest)
room w f wide xs n rest e =
    let a : length (joined (map f xs) ++ rest) ≡ length (joined (map f xs)) + length rest = length-append (joined (map f xs)) rest in
    let b : length (joined (map f xs)) ≡ w * length xs = table_length w f wide xs in
    let c : w * length xs ≡ w * n = ap (λ m. w * m) e in
    omega arith

all_lt : (k : ℕ) (l : List ℕ) → k ≤ max_u16 + 1 → T (all (λ c. ltb c k) l) → T (all small l)
unfolding small
all_lt k [] h t = tt
all_lt k (x ∷ l) h t =
    let i = and_yes (ltb x k) (all (λ c. ltb c k) l) t in
    let j : x < k = ltb_yes i.0 in
    yes_and (ltb x (max_u16 + 1)) (all small l) (is_lt x (max_u16 + 1) (omega arith)) (all_lt k l h i.1)

-- the rules as the tests of tables have them
record Kept (r : Reading) : Type 0 where
  within : Within r
  some_byte : T (all (λ n. not (empty n)) r.names)
  well : T (all formed r.names)
  single : T (once r.names)
  lengths : T (all (λ d. ltb d.len (max_u32 + 1)) r.definitions)
  bounds : T (all (λ g. is_bound g.lower && is_bound g.upper) r.ranges)
  known : T (all (λ c. ltb c (length r.names)) (numbers_of r.ranges))

known_apart : (p : ℕ → Bool) (gs : List Range) → T (all (λ g. all p g.categories) gs) → T (all p (numbers_of gs))
known_apart p [] t = tt
known_apart p (g ∷ gs) t =
    let h = and_yes (all p g.categories) _ t in
    all_append p g.categories (numbers_of gs) h.0 (known_apart p gs h.1)

known_together : (p : ℕ → Bool) (gs : List Range) → T (all p (numbers_of gs)) → T (all (λ g. all p g.categories) gs)
known_together p [] t = tt
known_together p (g ∷ gs) t =
    yes_and (all p g.categories) _ (all_left p g.categories (numbers_of gs) t) (known_together p gs (all_right p g.categories (numbers_of gs) t))

keeps : (r : Reading) → PackRules r → Kept r
unfolding rule.bounded numbered
keeps r k =
    record {
      within = k.limits;
      some_byte = k.names_some;
      well = each_all WellFormed formed is_formed r.names k.names_formed;
      single = k.names_once;
      lengths = k.lengths;
      bounds = k.bounds;
      known = known_apart (λ c. ltb c (length r.names)) r.ranges k.known;
    }

kept : (r : Reading) → Kept r → PackRules r
unfolding rule.bounded numbered
kept r k =
    record {
      limits = k.within;
      names_some = k.some_byte;
      names_formed = all_each WellFormed formed formed_is r.names k.well;
      names_once = k.single;
      lengths = k.lengths;
      bounds = k.bounds;
      known = known_together (λ c. ltb c (length r.names)) r.ranges k.known;
    }

module _ (r : Reading) (x : Tables) (ok : Kept r) where
  t : Tables
  t = behind (layout r) x

  n : Counts
  n = counts_of r

  places_in : name_slots_in t n ≡ name_slots 0 (map length r.names)
  unfolding name_slots_in t n behind layout counts_of name_bytes
  places_in =
      let w = ok.within in
      let h : sum (map length r.names) ≤ max_name_bytes = w.names_fit in
      there name_slot_size name_slot_bytes name_slot_of wide_place small_place place_there (name_slots 0 (map length r.names)) (length r.names) x.categories
      (places_length 0 (map length r.names) ∙ length-map r.names length) (places_small 0 (map length r.names) (omega arith))

  names_in_lem : names_in t n ≡ r.names
  unfolding names_in t behind layout
  names_in_lem =
      ap (λ ps. split (map (λ p. p.len) ps) (joined r.names ++ x.names)) places_in
      ∙ ap (λ l. split l (joined r.names ++ x.names)) (places_lens 0 (map length r.names))
      ∙ split_joined r.names x.names

  definitions_in : map definition_of (pieces definition_size n.definitions t.definitions) ≡ r.definitions
  unfolding t n behind layout counts_of small_definition
  definitions_in = there definition_size definition_bytes definition_of wide_definition small_definition definition_there r.definitions (length r.definitions) x.definitions refl ok.lengths

  rows_in : slots_in t n ≡ range_slots 0 r.ranges
  unfolding slots_in t n behind layout counts_of bounded
  rows_in =
      let w = ok.within in
      let h : references r.ranges ≤ max_references = w.references_fit in
      there range_slot_size slot_bytes slot_of wide_row small_row row_there (range_slots 0 r.ranges) (length r.ranges) x.ranges
      (rows_length 0 r.ranges) (rows_small 0 r.ranges ok.bounds (omega arith))

  numbers_in_lem : numbers_in t n ≡ numbers_of r.ranges
  unfolding numbers_in t n behind layout counts_of
  numbers_in_lem =
      let w = ok.within in
      let h : length r.names ≤ max_categories = w.categories_fit in
      there reference_size (le reference_size) (num reference_size 0) wide_number small two (numbers_of r.ranges) (references r.ranges) x.references
      (numbers_length r.ranges) (all_lt (length r.names) (numbers_of r.ranges) (omega arith) ok.known)

  ranges_in : ranging (slots_in t n) (numbers_in t n) ≡ r.ranges
  ranges_in =
      ap₂ ranging rows_in (numbers_in_lem ∙ sym (append-nil (numbers_of r.ranges))) ∙ ranging_rows 0 r.ranges []

  flags_in : T (all flagged (pieces definition_size n.definitions t.definitions))
  unfolding t n behind layout counts_of flagged
  flags_in = subst (λ l. T (all flagged l)) (sym (pieces_table definition_size definition_bytes wide_definition r.definitions x.definitions)) (go r.definitions)
    where
      one : (b : Bool) → flag b ≤ 1
      one true = omega arith
      one false = omega arith

      go : (ds : List Definition) → T (all flagged (map definition_bytes ds))
      go [] = tt
      go (d ∷ ds) = yes_and (flagged (definition_bytes d)) _ (yes_and (leb (flag d.invoke) 1) (leb (flag d.group) 1) (yes_leb (one d.invoke)) (yes_leb (one d.group))) (go ds)

  enough_in : enough (length t.names) (length t.categories) (length t.definitions) (length t.ranges) (length t.references) n ≡ true
  unfolding t n behind layout counts_of enough name_bytes
  enough_in =
      let w = ok.within in
      let a : length (joined r.names ++ x.names) ≡ length (joined r.names) + length x.names = length-append (joined r.names) x.names in
      let b : length (joined r.names) ≡ sum (map length r.names) = joined_length r.names in
      both (le-leb _ _ w.categories_fit) (both (le-leb _ _ w.names_fit) (both (le-leb _ _ w.definitions_fit) (both (le-leb _ _ w.ranges_fit) (both (le-leb _ _ w.references_fit)
      (both (le-leb (sum (map length r.names)) (length (joined r.names ++ x.names)) (omega arith))
      (both (le-leb _ _ (room name_slot_size name_slot_bytes wide_place (name_slots 0 (map length r.names)) (length r.names) x.categories (places_length 0 (map length r.names) ∙ length-map r.names length)))
      (both (le-leb _ _ (room definition_size definition_bytes wide_definition r.definitions (length r.definitions) x.definitions refl))
      (both (le-leb _ _ (room range_slot_size slot_bytes wide_row (range_slots 0 r.ranges) (length r.ranges) x.ranges (rows_length 0 r.ranges)))
      (le-leb _ _ (room reference_size (le reference_size) wide_number (numbers_of r.ranges) (references r.ranges) x.references (numbers_length r.ranges)))))))))))

  stand : T (name_slots_stand n.bytes 0 (name_slots 0 (map length r.names)))
  unfolding n counts_of name_bytes
  stand = places_stand (sum (map length r.names)) 0 r.names ok.some_byte (omega arith)

  stand_rows : T (slots_stand n.references 0 (range_slots 0 r.ranges))
  unfolding n counts_of bounded
  stand_rows = rows_stand (references r.ranges) 0 r.ranges ok.bounds (omega arith)

  known_in : T (all (λ c. ltb c n.categories) (numbers_of r.ranges))
  unfolding n counts_of
  known_in = ok.known

  holds_in : holds t n ≡ true
  unfolding holds
  holds_in =
      both enough_in
      (both (ap (name_slots_stand n.bytes 0) places_in ∙ T→true _ stand)
      (both (T→true (all flagged (pieces definition_size n.definitions t.definitions)) flags_in)
      (both (ap (slots_stand n.references 0) rows_in ∙ T→true _ stand_rows)
      (both (ap (all (λ c. ltb c n.categories)) numbers_in_lem ∙ T→true _ known_in)
      (both (ap (all formed) names_in_lem ∙ T→true _ ok.well) (ap (once) names_in_lem ∙ T→true _ ok.single))))))

-- the law
pub handed_in_lem : (r : Reading) (x : Tables) → PackRules r → handed_in (behind (layout r) x) (counts_of r) ≡ some r
unfolding handed_in decoded t n
handed_in_lem r x k = let ok = keeps r k in rw (holds_in r x ok, names_in_lem r x ok, definitions_in r x ok, ranges_in r x ok)

-- ---- tables that are handed in are the layout of their reading

pub record Enough (names categories definitions ranges references : ℕ) (n : Counts) : Type 0 where
  pub limits : (n.categories ≤ max_categories) × ((n.bytes ≤ max_name_bytes) × ((n.definitions ≤ max_category_lines) × ((n.ranges ≤ max_ranges) × (n.references ≤ max_references))))
  pub for_names : n.bytes ≤ names
  pub for_categories : name_slot_size * n.categories ≤ categories
  pub for_definitions : definition_size * n.definitions ≤ definitions
  pub for_ranges : range_slot_size * n.ranges ≤ ranges
  pub for_references : reference_size * n.references ≤ references

pub says : (a b c d e : ℕ) (n : Counts) → T (enough a b c d e n) → Enough a b c d e n
unfolding enough
says a b c d e n t =
    let t1 = and_yes (leb n.categories max_categories) _ t in
    let t2 = and_yes (leb n.bytes max_name_bytes) _ t1.1 in
    let t3 = and_yes (leb n.definitions max_category_lines) _ t2.1 in
    let t4 = and_yes (leb n.ranges max_ranges) _ t3.1 in
    let t5 = and_yes (leb n.references max_references) _ t4.1 in
    let t6 = and_yes (leb n.bytes a) _ t5.1 in
    let t7 = and_yes (leb (name_slot_size * n.categories) b) _ t6.1 in
    let t8 = and_yes (leb (definition_size * n.definitions) c) _ t7.1 in
    let t9 = and_yes (leb (range_slot_size * n.ranges) d) (leb (reference_size * n.references) e) t8.1 in
    record {
      limits = (leb_yes t1.0, (leb_yes t2.0, (leb_yes t3.0, (leb_yes t4.0, leb_yes t5.0))));
      for_names = leb_yes t6.0;
      for_categories = leb_yes t7.0;
      for_definitions = leb_yes t8.0;
      for_ranges = leb_yes t9.0;
      for_references = leb_yes t9.1;
    }

-- the test's parts
pub record Parts (t : Tables) (n : Counts) : Type 0 where
  pub long : Enough (length t.names) (length t.categories) (length t.definitions) (length t.ranges) (length t.references) n
  pub placed : T (name_slots_stand n.bytes 0 (name_slots_in t n))
  pub flags : T (all flagged (pieces definition_size n.definitions t.definitions))
  pub rowed : T (slots_stand n.references 0 (slots_in t n))
  pub known : T (all (λ c. ltb c n.categories) (numbers_in t n))
  pub well : T (all formed (names_in t n))
  pub single : T (once (names_in t n))

pub parts : (t : Tables) (n : Counts) → T (holds t n) → Parts t n
unfolding holds
parts t n h =
    let h1 = and_yes (enough (length t.names) (length t.categories) (length t.definitions) (length t.ranges) (length t.references) n) _ h in
    let h2 = and_yes (name_slots_stand n.bytes 0 (name_slots_in t n)) _ h1.1 in
    let h3 = and_yes (all flagged (pieces definition_size n.definitions t.definitions)) _ h2.1 in
    let h4 = and_yes (slots_stand n.references 0 (slots_in t n)) _ h3.1 in
    let h5 = and_yes (all (λ c. ltb c n.categories) (numbers_in t n)) _ h4.1 in
    let h6 = and_yes (all formed (names_in t n)) (once (names_in t n)) h5.1 in
    record {
      long = says _ _ _ _ _ n h1.0;
      placed = h2.0;
      flags = h3.0;
      rowed = h4.0;
      known = h5.0;
      well = h6.0;
      single = h6.1;
    }

all_both : {A : Type 0} (p q : A → Bool) (l : List A) → T (all p l) → T (all q l) → T (all (λ x. p x && q x) l)
all_both p q [] s t = tt
all_both p q (x ∷ l) s t =
    let a = and_yes (p x) (all p l) s in
    let b = and_yes (q x) (all q l) t in
    yes_and (p x && q x) _ (yes_and (p x) (q x) a.0 b.0) (all_both p q l a.1 b.1)

pub counts_is : (n : Counts) (a b c d e : ℕ) → a ≡ n.categories → b ≡ n.definitions → c ≡ n.ranges → d ≡ n.references → e ≡ n.bytes
    → ◌≡◌ {A = Counts} (record { categories = a; definitions = b; ranges = c; references = d; bytes = e }) n
counts_is n a b c d e f g h i j = rw (f, g, h, i, j)

count_numbers : (t : Tables) (n : Counts) → length (numbers_in t n) ≡ n.references
unfolding numbers_in
count_numbers t n = length-map (pieces reference_size n.references t.references) (num reference_size 0) ∙ pieces_length reference_size n.references t.references

count_names : (r : Reading) (n : Counts) → counts_of r ≡ n → length r.names ≡ n.categories
unfolding counts_of
count_names r n e = ap (λ m. m.categories) e

within_from : (r : Reading) (n : Counts) → counts_of r ≡ n
    → (n.categories ≤ max_categories) × ((n.bytes ≤ max_name_bytes) × ((n.definitions ≤ max_category_lines) × ((n.ranges ≤ max_ranges) × (n.references ≤ max_references)))) → Within r
unfolding counts_of
within_from r n e k =
    let a : length r.names ≡ n.categories = ap (λ m. m.categories) e in
    let b : length r.definitions ≡ n.definitions = ap (λ m. m.definitions) e in
    let c : length r.ranges ≡ n.ranges = ap (λ m. m.ranges) e in
    let d : references r.ranges ≡ n.references = ap (λ m. m.references) e in
    let f : name_bytes r.names ≡ n.bytes = ap (λ m. m.bytes) e in
    record { categories_fit = omega arith; names_fit = omega arith; definitions_fit = omega arith; ranges_fit = omega arith; references_fit = omega arith }

as_bounded : (gs : List Range) → T (all bounded gs) → T (all (λ g. is_bound g.lower && is_bound g.upper) gs)
unfolding bounded
as_bounded gs t = t

lengths_small : (n : ℕ) (l : List ℕ) → T (all is_byte l) → T (all (λ d. ltb d.len (max_u32 + 1)) (map definition_of (pieces definition_size n l)))
unfolding pieces num
lengths_small zero l t = tt
lengths_small (suc n) l t =
    yes_and (ltb (value (take 4 (take 6 l))) (max_u32 + 1)) _
    (is_lt (value (take 4 (take 6 l))) (max_u32 + 1) (value_small 4 (take 4 (take 6 l)) (all_take is_byte 4 (take 6 l) (all_take is_byte 6 l t)) (short 4 (take 6 l))))
    (lengths_small n (drop 6 l) (all_drop is_byte 6 l t))

module _ (t : Tables) (n : Counts) (h : Parts t n) where
  -- the names are as long as their slots say
  pub names_lens : map length (names_in t n) ≡ map (λ p. p.len) (name_slots_in t n)
  unfolding names_in
  names_lens =
      let s = standing n.bytes 0 (name_slots_in t n) h.placed in
      let e = s.adds_up in
      let k = h.long.for_names in
      split_lengths (map (λ p. p.len) (name_slots_in t n)) t.names (omega arith)

  used_names : joined (names_in t n) ≡ take n.bytes t.names
  unfolding names_in
  used_names =
      let s = standing n.bytes 0 (name_slots_in t n) h.placed in
      let d = s.adds_up in
      let e : sum (map (λ p. p.len) (name_slots_in t n)) ≡ n.bytes = omega arith in
      joined_split (map (λ p. p.len) (name_slots_in t n)) t.names ∙ ap (λ m. take m t.names) e

  ranges_are : Ranged 0 (slots_in t n) (numbers_in t n)
  unfolding numbers_in
  ranges_are =
      let e : length (map (num reference_size 0) (pieces reference_size n.references t.references)) ≡ n.references =
      length-map (pieces reference_size n.references t.references) (num reference_size 0) ∙ pieces_length reference_size n.references t.references in
      ranged n.references 0 (slots_in t n) (numbers_in t n) h.rowed (omega arith)

  -- the ranges have as many categories as their slots say
  pub ranges_counts : map (λ g. length g.categories) (ranging (slots_in t n) (numbers_in t n)) ≡ map (λ r. r.count) (slots_in t n)
  ranges_counts = sym (rows_counts 0 (ranging (slots_in t n) (numbers_in t n))) ∙ ap (map (λ r. r.count)) ranges_are.again_rows

  -- the counts are the reading's
  pub counts_are : counts_of (decoded t n) ≡ n
  unfolding counts_of decoded name_bytes slots_in name_slots_in
  counts_are =
      let s = standing n.bytes 0 (name_slots_in t n) h.placed in
      let adds = s.adds_up in
      let sums : sum (map length (names_in t n)) ≡ sum (map (λ p. p.len) (name_slots_in t n)) = ap sum names_lens in
      let many : length (map length (names_in t n)) ≡ length (map (λ p. p.len) (name_slots_in t n)) = ap length names_lens in
      let e1 = length-map (names_in t n) length in
      let e2 = length-map (name_slots_in t n) (λ p. p.len) in
      let e3 = length-map (pieces name_slot_size n.categories t.categories) name_slot_of in
      let e4 = pieces_length name_slot_size n.categories t.categories in
      let f1 = length-map (pieces definition_size n.definitions t.definitions) definition_of in
      let f2 = pieces_length definition_size n.definitions t.definitions in
      let g1 = ranges_are.as_many in
      let g2 = length-map (pieces range_slot_size n.ranges t.ranges) slot_of in
      let g3 = pieces_length range_slot_size n.ranges t.ranges in
      counts_is n _ _ _ _ _ (omega arith) (f1 ∙ f2) (g1 ∙ g2 ∙ g3) references_are (omega arith)
    where
      references_are : references (ranging (slots_in t n) (numbers_in t n)) ≡ n.references
      references_are = sym (numbers_length (ranging (slots_in t n) (numbers_in t n))) ∙ ap length ranges_are.again_numbers ∙ count_numbers t n

  some_names : T (all (λ l. not (empty l)) (names_in t n))
  some_names = go (names_in t n) (subst (λ l. T (all (λ k. ltb 0 k) l)) (sym names_lens) (standing n.bytes 0 (name_slots_in t n) h.placed).none_empty)
    where
      go : (ls : List (List ℕ)) → T (all (λ k. ltb 0 k) (map length ls)) → T (all (λ l. not (empty l)) ls)
      go [] u = tt
      go ([] ∷ ls) u = absurd u
      go ((a ∷ l) ∷ ls) u = go ls (and_yes (ltb 0 (suc (length l))) _ u).1

-- every number of a reference is a name's
numbers_known : (t : Tables) (n : Counts) → Parts t n → T (all (λ c. ltb c (length (decoded t n).names)) (numbers_of (decoded t n).ranges))
unfolding decoded
numbers_known t n h =
    subst (λ l. T (all (λ c. ltb c (length (names_in t n))) l)) (sym (ranges_are t n h).again_numbers)
    (subst (λ m. T (all (λ c. ltb c m) (numbers_in t n))) (sym (count_names (decoded t n) n (counts_are t n h))) h.known)

module _ (t : Tables) (n : Counts) (b : OfBytes t) (h : Parts t n) where
  used_categories : joined (map name_slot_bytes (name_slots 0 (map length (names_in t n)))) ≡ take (name_slot_size * n.categories) t.categories
  unfolding name_slots_in
  used_categories =
      ap (λ l. joined (map name_slot_bytes (name_slots 0 l))) (names_lens t n h)
      ∙ ap (λ l. joined (map name_slot_bytes l)) (standing n.bytes 0 (name_slots_in t n) h.placed).again_places
      ∙ go
    where
      go : joined (map name_slot_bytes (name_slots_in t n)) ≡ take (name_slot_size * n.categories) t.categories
      go = again name_slot_size name_slot_bytes name_slot_of (whole name_slot_size) place_back n.categories t.categories
          (pieces_whole name_slot_size n.categories t.categories b.in_categories h.long.for_categories)

  used_definitions : joined (map definition_bytes (map definition_of (pieces definition_size n.definitions t.definitions))) ≡ take (definition_size * n.definitions) t.definitions
  used_definitions =
      again definition_size definition_bytes definition_of (λ p. whole definition_size p && flagged p) definition_back n.definitions t.definitions
      (all_both (whole definition_size) flagged (pieces definition_size n.definitions t.definitions)
      (pieces_whole definition_size n.definitions t.definitions b.in_definitions h.long.for_definitions) h.flags)

  used_ranges : joined (map slot_bytes (range_slots 0 (ranging (slots_in t n) (numbers_in t n)))) ≡ take (range_slot_size * n.ranges) t.ranges
  unfolding slots_in
  used_ranges =
      ap (λ l. joined (map slot_bytes l)) (ranges_are t n h).again_rows
      ∙ again range_slot_size slot_bytes slot_of (whole range_slot_size) row_back n.ranges t.ranges
      (pieces_whole range_slot_size n.ranges t.ranges b.in_ranges h.long.for_ranges)

  used_references : joined (map (le reference_size) (numbers_of (ranging (slots_in t n) (numbers_in t n)))) ≡ take (reference_size * n.references) t.references
  unfolding numbers_in
  used_references =
      ap (λ l. joined (map (le reference_size) l)) (ranges_are t n h).again_numbers
      ∙ again reference_size (le reference_size) (num reference_size 0) (whole reference_size) number_back n.references t.references
      (pieces_whole reference_size n.references t.references b.in_references h.long.for_references)

  rules_kept : Kept (decoded t n)
  unfolding decoded
  rules_kept =
      let k = h.long.limits in
      let e = counts_are t n h in
      record {
        within = within_from (decoded t n) n e k;
        some_byte = some_names t n h;
        well = h.well;
        single = h.single;
        lengths = lengths_small n.definitions t.definitions b.in_definitions;
        bounds = bounds_are;
        known = numbers_known t n h;
      }
    where
      bounds_are : T (all (λ g. is_bound g.lower && is_bound g.upper) (ranging (slots_in t n) (numbers_in t n)))
      bounds_are = as_bounded (ranging (slots_in t n) (numbers_in t n)) (ranges_are t n h).in_bounds

pub tables_is : (t : Tables) (a b c d e : List ℕ) → a ≡ t.names → b ≡ t.categories → c ≡ t.definitions → d ≡ t.ranges → e ≡ t.references
    → ◌≡◌ {A = Tables} (record { names = a; categories = b; definitions = c; ranges = d; references = e }) t
tables_is t a b c d e f g h i j = rw (f, g, h, i, j)

laid : (t : Tables) (n : Counts) → OfBytes t → Parts t n → layout (decoded t n) ≡ used n t
unfolding layout decoded used
laid t n b h =
    tables_is (used n t) _ _ _ _ _ (used_names t n h) (used_categories t n b h) (used_definitions t n b h) (used_ranges t n b h) (used_references t n b h)

-- what is handed in
pub handed_holds : (t : Tables) (n : Counts) → OfBytes t → T (holds t n) → HoldTogether t n (decoded t n)
handed_holds t n b u =
    let h = parts t n u in
    record { laid_out = laid t n b h; counted = counts_are t n h; rules = kept (decoded t n) (rules_kept t n b h) }

-- its limits and its numbers, which need no bytes
pub handed_fits : (t : Tables) (n : Counts) → T (holds t n) → Within (decoded t n) × T (numbered (decoded t n))
unfolding numbered
handed_fits t n u =
    let h = parts t n u in
    let k = known_together (λ c. ltb c (length (decoded t n).names)) (decoded t n).ranges (numbers_known t n h) in
    (within_from (decoded t n) n (counts_are t n h) h.long.limits, k)

pub handed_back : (t : Tables) (n : Counts) (r : Reading) → OfBytes t → handed_in t n ≡ some r → HoldTogether t n r
unfolding handed_in
handed_back t n r b e = go (holds t n) refl e
  where
    go : (x : Bool) → holds t n ≡ x → cond x (some (decoded t n)) none ≡ some r → HoldTogether t n r
    go true q e =
        let d : decoded t n ≡ r = cc in
        subst (λ s. HoldTogether t n s) d (handed_holds t n b (true→T (holds t n) q))
    go false q e = absurd (let z : ◌≡◌ {A = ℕ} 0 1 = cc in omega arith)
