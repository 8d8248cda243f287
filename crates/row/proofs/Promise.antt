-- What the walk made is what `build_lookup_table` promises; two outcomes that the promise allows coincide; and what it leaves is what lookups
-- ask of tables as built.
-- Assumes nothing.
use Prim.Native.Nat.{ℕ, ◌+◌, ◌≤◌, ◌<◌}
use native.Mathlib.Omega.{arith}
use mathlib.Core.Path.{◌≡◌, refl, sym, ap, ap₂, ◌∙◌, subst}
use mathlib.Core.Bool.{Bool, true, false, cond, ◌||◌}
use mathlib.Core.List.{List, [], ◌∷◌, ◌++◌, map}
use mathlib.Core.Option.{none, some}
use lib.Dec.{T, ltb}
use lib.ListN.{length, take, drop, length-map}
use lib.Seq.{sets, sets-eq, take_at}
use borrow.Author.Tests.{lt-ltb, le-ltb, ltb-true, ltb-false}
use Rattle.paper.specs.Refusals.{table_room_short, tables_apart}
use Rattle.paper.specs.Sizes.{max_flat_row}
use Rattle.paper.specs.Lists.{any, joined, offsets_from}
use Rattle.paper.specs.CharDef.Reading.{Reading}
use Rattle.paper.specs.Rows.Covering.{default, boundaries, rows}
use Rattle.paper.specs.Rows.Flat.{flat_pool}
use Rattle.paper.specs.Rows.Build.{built, refused_by, rows_needed, places_needed, row_overlong, row_room_short, rows_built}
use Rattle.paper.specs.Rows.Lookup.{LookupTables, RowsLeft}
use Rattle.paper.specs.Rows.Numbers.{find_name}
use Rattle.paper.specs.Tables.Layout.{Tables}
use Rattle.paper.specs.Computed.HandedIn.{decoded, holds, handed_in}
use Rattle.paper.specs.declared.Counts.{Counts}
use Rattle.paper.proofs.Apart.{zero_one, none_some}
use Rattle.paper.proofs.Lists.Facts.{T→true, joined_length, offsets_length}
use Rattle.paper.proofs.Rows.Boundaries.{row_for_each}
use Rattle.cover.specs.Slots.{slots_got}
use Rattle.fallback.specs.Fallback.{found_row}
use Rattle.fallback.proofs.Default.{fallback_met}
use Rattle.fill_rows.specs.Walked.{RowRoom, boundaries_of, rows_of, larger, longest_of, NeedIs, Filled}
use Rattle.fill_rows.specs.declared.Need.{Need}
use Rattle.row_room.specs.Room.{RoomIs}
use Rattle.row.specs.Built.{answer_to, given, ahead, filled, leaves, BuildsRows}
use Rattle.row.specs.Made.{RoomFor, Made, Kept, MadeOr17}
use Rattle.row.specs.declared.RowCounts.{RowCounts}
use Rattle.row.proofs.Meets.{boundaries_met, rows_met}
use Rattle.std.specs.Prelude.{Err, Ok, Result}
use Rattle.paper.specs.declared.Refusal.{Refusal}

-- ---- refused or made, by the need and the test of the room

abbrev Decides : (rows places : ℕ) → RowRoom → Bool → Type 0
Decides rows places lent b = RoomIs rows places (length lent.boundaries) (length lent.starts) (length lent.lengths) (length lent.pool) b

module _ (bs : List ℕ) (ws : List (List ℕ)) (lent : RowRoom) (n : Need) (b : Bool) (is : NeedIs bs ws n) (r : Decides n.rows n.places lent b) where
  decided : Decides (length bs) (length (joined ws)) lent b
  decided = subst (λ y. Decides (length bs) y lent b) is.count_places (subst (λ x. Decides x n.places lent b) is.count_rows r)

  pub rows_made : (after : RowRoom) → b ≡ true → Filled bs ws lent after → Made bs ws lent after n.rows n.places
  rows_made after e f =
      record {
        roomy = subst (Decides (length bs) (length (joined ws)) lent) e decided;
        filled = f;
        count_rows = is.count_rows;
        count_places = is.count_places;
      }

  pub rows_kept : b ≡ false → Kept bs ws lent lent table_room_short 0
  rows_kept e = record { short = subst (Decides (length bs) (length (joined ws)) lent) e decided; is_17 = refl; at_0 = refl; same = refl }

-- ---- over a reading: 17 is the paper's, and the memory too

places_exact : (r : Reading) → places_needed r ≡ length (joined (rows r))
unfolding places_needed
places_exact r = sym (joined_length (rows r))

-- what is set from the front stands there, and what lay behind it stays
pub set_ahead : (x l : List ℕ) → length x ≤ length l → sets l 0 x ≡ ahead x l
set_ahead x l h = let e : 0 + length x ≡ length x = omega arith in sets-eq x l 0 (omega arith) ∙ ap (λ k. x ++ drop k l) e

room_same : (lent : RowRoom) (a b c d : List ℕ) → lent.boundaries ≡ a → lent.starts ≡ b → lent.lengths ≡ c → lent.pool ≡ d
    → lent ≡ record { boundaries = a; starts = b; lengths = c; pool = d }
room_same lent a b c d p q r s =
    ap₂ (λ x y. record { boundaries = x; starts = y; lengths = lent.lengths; pool = lent.pool }) p q
    ∙ ap₂ (λ x y. record { boundaries = a; starts = b; lengths = x; pool = y }) r s

module _ (r : Reading) (lent : RowRoom) where
  abbrev shortage : Bool
  shortage = row_room_short r (length lent.boundaries) (length lent.starts) (length lent.lengths) (length lent.pool)

  roomy_not : RoomFor (boundaries r) (rows r) lent → shortage ≡ false
  unfolding row_room_short rows_needed
  roomy_not h =
      let p : places_needed r ≤ length lent.pool = subst (λ k. k ≤ length lent.pool) (sym (places_exact r)) h.in_pool in
      rw (le-ltb (length lent.boundaries) (length (boundaries r)) h.in_boundaries, le-ltb (length lent.starts) (length (boundaries r)) h.in_starts)
      (rw (le-ltb (length lent.lengths) (length (boundaries r)) h.in_lengths, le-ltb (length lent.pool) (places_needed r) p))

  short_is : (RoomFor (boundaries r) (rows r) lent → ⊥) → shortage ≡ true
  unfolding row_room_short rows_needed
  short_is h =
      go (ltb (length lent.boundaries) (length (boundaries r))) (ltb (length lent.starts) (length (boundaries r)))
      (ltb (length lent.lengths) (length (boundaries r))) (ltb (length lent.pool) (places_needed r)) refl refl refl refl
    where
      go : (a b c d : Bool) → ltb (length lent.boundaries) (length (boundaries r)) ≡ a → ltb (length lent.starts) (length (boundaries r)) ≡ b
          → ltb (length lent.lengths) (length (boundaries r)) ≡ c → ltb (length lent.pool) (places_needed r) ≡ d → (a || b || c || d) ≡ true
      go true b c d ea eb ec ed = refl
      go false true c d ea eb ec ed = refl
      go false false true d ea eb ec ed = refl
      go false false false true ea eb ec ed = refl
      go false false false false ea eb ec ed =
          absurd (h (record {
            in_boundaries = ltb-false (length lent.boundaries) (length (boundaries r)) ea;
            in_starts = ltb-false (length lent.starts) (length (boundaries r)) eb;
            in_lengths = ltb-false (length lent.lengths) (length (boundaries r)) ec;
            in_pool = subst (λ k. k ≤ length lent.pool) (places_exact r) (ltb-false (length lent.pool) (places_needed r) ed);
          }))

  filled_so : (after : RowRoom) → RoomFor (boundaries r) (rows r) lent → Filled (boundaries r) (rows r) lent after → after ≡ filled r lent
  unfolding filled flat_pool
  filled_so after h f =
      let e : length (rows r) ≡ length (boundaries r) = row_for_each r in
      room_same after _ _ _ _ (f.boundaries ∙ set_ahead (boundaries r) lent.boundaries h.in_boundaries)
      (f.starts ∙ set_ahead (offsets_from 0 (rows r)) lent.starts (omega (arith, offsets_length 0 (rows r), h.in_starts)))
      (f.lengths ∙ set_ahead (map length (rows r)) lent.lengths (omega (arith, length-map (rows r) length, h.in_lengths)))
      (f.pool ∙ set_ahead (joined (rows r)) lent.pool h.in_pool)

-- ---- over tables handed in

-- with the fallback that is found there, the rows of the walk are the reading's
rows_found : (t : Tables) (n : Counts) → T (holds t n) → (ds : List ℕ) → ds ≡ found_row (find_name t.names t.categories n.categories default)
    → rows_of ds (slots_got 0 n.ranges t.ranges) t.references ≡ rows (decoded t n)
rows_found t n h ds e = ap (λ d. rows_of d (slots_got 0 n.ranges t.ranges) t.references) (e ∙ fallback_met t n h) ∙ rows_met t n h

module _ (t : Tables) (n : Counts) (lent : RowRoom) where
  pub builds_apart : holds t n ≡ false → BuildsRows t n lent lent (Err (record { number = tables_apart; place = 0 }))
  unfolding handed_in rows_built
  builds_apart e = record { answer = rw e; memory = rw e }

  module _ (h : T (holds t n)) where
    answer_is : answer_to t n lent ≡ cond (shortage (decoded t n) lent) (refused_by table_room_short) built
    unfolding handed_in rows_built
    answer_is = rw (T→true (holds t n) h)

    builds_so : (after : RowRoom) (a : Result RowCounts Refusal) → MadeOr17 (boundaries (decoded t n)) (rows (decoded t n)) lent after a → BuildsRows t n lent after a
    unfolding rows_needed
    builds_so after (Ok k) m =
        let e : answer_to t n lent ≡ built = answer_is ∙ ap (λ b. cond b (refused_by table_room_short) built) (roomy_not (decoded t n) lent m.roomy) in
        record {
          answer = counts m.count_rows m.count_places ∙ ap (given (decoded t n)) (sym e);
          memory = filled_so (decoded t n) lent after m.roomy m.filled ∙ ap (λ b. leaves (decoded t n) b lent) (sym e);
        }
      where
        counts : k.rows ≡ length (boundaries (decoded t n)) → k.places ≡ length (joined (rows (decoded t n))) → Ok k ≡ given (decoded t n) built
        counts p q = ap₂ (λ x y. Ok (record { rows = x; places = y })) p (q ∙ sym (places_exact (decoded t n)))
    builds_so after (Err e) m =
        let f : answer_to t n lent ≡ refused_by table_room_short = answer_is ∙ ap (λ b. cond b (refused_by table_room_short) built) (short_is (decoded t n) lent m.short) in
        record {
          answer = refusal m.is_17 m.at_0 ∙ ap (given (decoded t n)) (sym f);
          memory = m.same ∙ ap (λ b. leaves (decoded t n) b lent) (sym f);
        }
      where
        refusal : e.number ≡ table_room_short → e.place ≡ 0 → Err e ≡ given (decoded t n) (refused_by table_room_short)
        refusal p q = ap₂ (λ x y. Err (record { number = x; place = y })) p q

    pub builds_rows : (ds : List ℕ) (after : RowRoom) (a : Result RowCounts Refusal) → ds ≡ found_row (find_name t.names t.categories n.categories default)
        → MadeOr17 (boundaries_of (slots_got 0 n.ranges t.ranges)) (rows_of ds (slots_got 0 n.ranges t.ranges) t.references) lent after a
        → BuildsRows t n lent after a
    builds_rows ds after a e m =
        builds_so after a
        (subst (λ ws. MadeOr17 (boundaries (decoded t n)) ws lent after a) (rows_found t n h ds e)
        (subst (λ bs. MadeOr17 bs (rows_of ds (slots_got 0 n.ranges t.ranges) t.references) lent after a) (boundaries_met t n h) m))

-- ---- NOTHING IS LEFT OPEN: two outcomes that the promise allows coincide, in the answer and in the memory

pub built_one : {t : Tables} {n : Counts} {lent a b : RowRoom} {r s : Result RowCounts Refusal} → BuildsRows t n lent a r → BuildsRows t n lent b s → (r ≡ s) × (a ≡ b)
built_one p q = (p.answer ∙ sym q.answer, p.memory ∙ sym q.memory)

-- ---- the answers

module _ {t : Tables} {n : Counts} {lent after : RowRoom} {a : Result RowCounts Refusal} (p : BuildsRows t n lent after a) where
  -- 26 exactly where no reading is handed in, and nothing is changed
  pub apart_given : handed_in t n ≡ none → (a ≡ Err (record { number = tables_apart; place = 0 })) × (after ≡ lent)
  unfolding rows_built
  apart_given e = (p.answer ∙ rw e, p.memory ∙ rw e)

  module _ (r : Reading) (e : handed_in t n ≡ some r) where
    read_so : decoded t n ≡ r
    unfolding handed_in
    read_so = go (holds t n) e
      where
        go : (b : Bool) → cond b (some (decoded t n)) none ≡ some r → decoded t n ≡ r
        go true f = cc
        go false f = none_some f

    answer_so : answer_to t n lent ≡ cond (shortage r lent) (refused_by table_room_short) built
    unfolding rows_built
    answer_so = rw e

    -- 17 where a slice is below the exact need, and nothing is changed
    pub short_given : shortage r lent ≡ true → (a ≡ Err (record { number = table_room_short; place = 0 })) × (after ≡ lent)
    short_given s =
        let q : answer_to t n lent ≡ refused_by table_room_short = answer_so ∙ ap (λ b. cond b (refused_by table_room_short) built) s in
        (p.answer ∙ ap (given (decoded t n)) q, p.memory ∙ ap (λ b. leaves (decoded t n) b lent) q)

    -- otherwise the reading's rows
    pub rows_given : shortage r lent ≡ false → (a ≡ Ok (record { rows = rows_needed r; places = places_needed r })) × (after ≡ filled r lent)
    rows_given s =
        let q : answer_to t n lent ≡ built = answer_so ∙ ap (λ b. cond b (refused_by table_room_short) built) s in
        (p.answer ∙ ap₂ given read_so q, p.memory ∙ ap₂ (λ x b. leaves x b lent) read_so q)

-- ---- what is left is what lookups ask, where as many boundaries are lent as there are rows

-- tables for a lookup, with as many boundaries as are counted
abbrev pub lookup_over : (index flat : List ℕ) → ℕ → RowRoom → LookupTables
lookup_over index flat count x =
    record { index = index; flat = flat; boundaries = take count x.boundaries; starts = x.starts; lengths = x.lengths; pool = x.pool }

pub starts_ahead : (x l : List ℕ) → take (length x) (ahead x l) ≡ x
starts_ahead x l = take_at x (drop (length x) l) (length x) refl

rows_left_filled : (r : Reading) (lent : RowRoom) (index flat : List ℕ)
    → RowsLeft r (lookup_over index flat (rows_needed r) (filled r lent))
unfolding filled rows_needed
rows_left_filled r lent index flat =
    record {
      boundaries_are = starts_ahead (boundaries r) lent.boundaries;
      starts_are = starts_ahead (offsets_from 0 (rows r)) lent.starts;
      lengths_are = starts_ahead (map length (rows r)) lent.lengths;
      pool_is = starts_ahead (flat_pool r) lent.pool;
    }

pub rows_left : {t : Tables} {n : Counts} {lent after : RowRoom} {k : RowCounts} → BuildsRows t n lent after (Ok k)
    → (r : Reading) → handed_in t n ≡ some r → (index flat : List ℕ)
    → RowsLeft r (lookup_over index flat k.rows after)
rows_left {t} {n} {lent} {after} {k} p r e index flat = go (shortage r lent) refl
  where
    left : (m : RowCounts) (x : RowRoom) → m ≡ record { rows = rows_needed r; places = places_needed r } → x ≡ filled r lent
        → RowsLeft r (lookup_over index flat m.rows x)
    left m x f g = rw (f, g) (rows_left_filled r lent index flat)

    go : (b : Bool) → shortage r lent ≡ b
        → RowsLeft r (lookup_over index flat k.rows after)
    go true s = zero_one (let f = (short_given p r e s).0 in cc)
    go false s = let (f, g) = rows_given p r e s in left k after (cc) g

-- ---- the need over tables that hold together, for those who walk the rows again: 16 by the longest row

pub or_no : (b : Bool) → (b || false) ≡ b
or_no true = refl
or_no false = refl

longer : (m k l : ℕ) → ltb m (larger k l) ≡ (ltb m l || ltb m k)
longer m k l = go (ltb k l) refl
  where
    or_yes : (b : Bool) → (b || true) ≡ true
    or_yes true = refl
    or_yes false = refl

    go : (b : Bool) → ltb k l ≡ b → ltb m (cond b l k) ≡ (ltb m l || ltb m k)
    go true e = by (ltb m k) refl (ltb-true k l e)
      where
        by : (c : Bool) → ltb m k ≡ c → k < l → ltb m l ≡ (ltb m l || c)
        by true f h = let g : m < k = ltb-true m k f in lt-ltb m l (omega arith) ∙ sym (or_yes (ltb m l))
        by false f h = sym (or_no (ltb m l))
    go false e = by (ltb m l) refl (ltb-false k l e)
      where
        by : (c : Bool) → ltb m l ≡ c → l ≤ k → ltb m k ≡ (c || ltb m k)
        by true f h = let g : m < l = ltb-true m l f in lt-ltb m k (omega arith)
        by false f h = refl

pub longest_any : (m k : ℕ) (ws : List (List ℕ)) → ltb m (longest_of k ws) ≡ (any (λ w. ltb m (length w)) ws || ltb m k)
longest_any m k [] = refl
longest_any m k (w ∷ ws) =
    longest_any m (larger k (length w)) ws ∙ ap (λ b. any (λ w. ltb m (length w)) ws || b) (longer m k (length w))
    ∙ turn (any (λ w. ltb m (length w)) ws) (ltb m (length w)) (ltb m k)
  where
    turn : (a b c : Bool) → (a || (b || c)) ≡ ((b || a) || c)
    turn true true c = refl
    turn true false c = refl
    turn false true c = refl
    turn false false c = refl

pub record NeedMet (r : Reading) (n : Need) : Type 0 where
  pub rows_are : n.rows ≡ rows_needed r
  pub places_are : n.places ≡ places_needed r
  pub overlong : row_overlong r ≡ ltb max_flat_row n.longest

pub need_met : (t : Tables) (n : Counts) → T (holds t n) → (ds : List ℕ) (k : Need) → ds ≡ found_row (find_name t.names t.categories n.categories default)
    → NeedIs (boundaries_of (slots_got 0 n.ranges t.ranges)) (rows_of ds (slots_got 0 n.ranges t.ranges) t.references) k → NeedMet (decoded t n) k
unfolding rows_needed row_overlong
need_met t n h ds k e is =
    let f = rows_found t n h ds e in
    record {
      rows_are = is.count_rows ∙ ap length (boundaries_met t n h);
      places_are = is.count_places ∙ ap (λ ws. length (joined ws)) f ∙ sym (places_exact (decoded t n));
      overlong =
          sym (ap (ltb max_flat_row) (is.is_longest ∙ ap (longest_of 0) f) ∙ longest_any max_flat_row 0 (rows (decoded t n))
          ∙ or_no (any (λ w. ltb max_flat_row (length w)) (rows (decoded t n))));
    }
