-- What the walk made is what `build_flat_table` promises; two outcomes that the promise allows coincide; and what it leaves is what lookups ask of
-- tables as built. Idea: at each code point the entry of the row that is found is the paper's flat entry.
-- Assumes nothing.
use Prim.Native.Nat.{ℕ, suc, ◌≤◌, ◌<◌}
use native.Mathlib.Omega.{arith}
use mathlib.Core.Path.{◌≡◌, refl, sym, ap, ap₂, ◌∙◌, subst}
use mathlib.Core.Bool.{Bool, true, false, cond, ◌||◌}
use mathlib.Core.List.{List, [], ◌∷◌, ◌++◌}
use mathlib.Core.Option.{none, some}
use lib.Dec.{T, ltb}
use lib.ListN.{length, get_or, take, drop}
use lib.Seq.{ext_get_or, length-take-le}
use mir.Facts.{yes_and, yes_ltb}
use borrow.Author.Tests.{le-ltb}
use Rattle.paper.specs.Sizes.{bmp_size, max_flat_row}
use Rattle.paper.specs.Refusals.{flat_row_long, table_room_short, tables_apart}
use Rattle.paper.specs.Lists.{all, any, joined}
use Rattle.paper.specs.Numbers.Bytes.{is_byte}
use Rattle.paper.specs.CharDef.Reading.{Reading}
use Rattle.paper.specs.Rows.Covering.{default, boundaries, rows}
use Rattle.paper.specs.Rows.Flat.{row_number, flat_entry, flat_index, flat_pool}
use Rattle.paper.specs.Rows.Build.{built, refused_by, places_needed, row_overlong, flat_room_short, flat_built}
use Rattle.paper.specs.Rows.Lookup.{FlatLeft}
use Rattle.paper.specs.Rows.Numbers.{find_name}
use Rattle.paper.specs.Tables.Layout.{Tables}
use Rattle.paper.specs.Tables.HandedIn.{HoldTogether}
use Rattle.paper.specs.Computed.HandedIn.{decoded, holds, handed_in}
use Rattle.paper.specs.declared.Counts.{Counts}
use Rattle.paper.proofs.Apart.{zero_one, none_some}
use Rattle.paper.proofs.Lists.Facts.{T→true, false→T, joined_length}
use Rattle.paper.proofs.Rows.Search.{row_found}
use Rattle.paper.proofs.Rows.Sizes.{places_fit}
use Rattle.paper.proofs.Rows.Flat.{index_length, index_at}
use Rattle.paper.proofs.Tables.Trip.{handed_fits}
use Rattle.row.specs.Built.{ahead}
use Rattle.cover.specs.Slots.{slots_got}
use Rattle.fallback.specs.Fallback.{found_row}
use Rattle.fill_rows.specs.Walked.{boundaries_of, rows_of, longest_of, NeedIs}
use Rattle.fill_rows.specs.declared.Need.{Need}
use Rattle.fallback.proofs.Default.{fallback_met}
use Rattle.row.proofs.Meets.{readable, boundaries_met, rows_met}
use Rattle.row.proofs.Promise.{set_ahead, starts_ahead, or_no, longest_any}
use Rattle.fill_flat.specs.Walked.{FlatRoom, Buildable, FlatFilled}
use Rattle.flat_room.specs.Room.{refusal}
use Rattle.flat_room.proofs.Room.{Fits, fits}
use Rattle.flat.specs.Built.{answer_to, given, filled, leaves, BuildsFlat}
use Rattle.flat.specs.Made.{Builds, BuildsOf}
use Rattle.std.specs.Prelude.{Err, None, Ok, Option, Result, Some}
use Rattle.paper.specs.declared.Refusal.{Refusal}

-- ---- the index and the pool

module _ (r : Reading) (lent : FlatRoom) (n : ℕ) (whole : n ≡ bmp_size) (long : n ≤ length lent.index) (index pool : List ℕ)
    (f : FlatFilled (boundaries r) (rows r) (record { index = take n lent.index; pool = lent.pool }) (record { index = index; pool = pool })) where
  index_long : length index ≡ n
  index_long = f.long ∙ length-take-le n lent.index long

  index_is : index ≡ flat_index r
  unfolding flat_entry
  index_is = ext_get_or 0 index (flat_index r) (index_long ∙ whole ∙ sym (index_length r)) at
    where
      at : (c : ℕ) → c < length index → get_or index c 0 ≡ get_or (flat_index r) c 0
      at c h =
          let low : c < bmp_size = omega (arith, index_long) in
          let lt : c < length (take n lent.index) = omega (arith, f.long) in
          f.entries c lt (row_number (boundaries r) c) (row_found r c) ∙ sym (index_at r c low)

  index_ahead : index ++ drop n lent.index ≡ ahead (flat_index r) lent.index
  index_ahead = ap₂ (λ x k. x ++ drop k lent.index) index_is (whole ∙ sym (index_length r))

  pub filled_so : places_needed r ≤ length lent.pool → record { index = index ++ drop n lent.index; pool = pool } ≡ filled r lent
  unfolding filled flat_pool places_needed
  filled_so h =
      ap₂ (λ x y. record { index = x; pool = y }) index_ahead
      (f.pool ∙ set_ahead (joined (rows r)) lent.pool (rw (joined_length (rows r)) h))

-- ---- refused or built, by the need and the room

module _ (bs : List ℕ) (ws : List (List ℕ)) (lent : FlatRoom) (n : Need) (is : NeedIs bs ws n) where
  module _ (r : Reading) (eb : bs ≡ boundaries r) (ew : ws ≡ rows r) where
    overlong_is : row_overlong r ≡ ltb max_flat_row n.longest
    unfolding row_overlong
    overlong_is =
        sym (ap (ltb max_flat_row) (is.is_longest ∙ ap (longest_of 0) ew) ∙ longest_any max_flat_row 0 (rows r) ∙ or_no (any (λ w. ltb max_flat_row (length w)) (rows r)))

    places_are : n.places ≡ places_needed r
    unfolding places_needed
    places_are = is.count_places ∙ ap (λ w. length (joined w)) ew ∙ joined_length (rows r)

    answer_is : (o s : Bool) → row_overlong r ≡ o → flat_room_short r (length lent.index) (length lent.pool) ≡ s
        → answer_to (some r) lent ≡ cond o (refused_by flat_row_long) (cond s (refused_by table_room_short) built)
    unfolding flat_built
    answer_is o s e f = ap₂ (λ x y. cond x (refused_by flat_row_long) (cond y (refused_by table_room_short) built)) e f

    refused_by_lem : (k : ℕ) → answer_to (some r) lent ≡ refused_by k → Builds r lent lent (Err (record { number = k; place = 0 }))
    refused_by_lem k e = record { answer = ap (given r) (sym e); memory = ap (λ a. leaves r a lent) (sym e) }

    room_is : flat_room_short r (length lent.index) (length lent.pool) ≡ (ltb (length lent.index) bmp_size || ltb (length lent.pool) n.places)
    unfolding flat_room_short
    room_is = ap (λ k. ltb (length lent.index) bmp_size || ltb (length lent.pool) k) (sym places_are)

  module _ (o : Option ℕ) (e : o ≡ refusal n.longest n.places (length lent.index) (length lent.pool)) where
    pub flat_refused : (number : ℕ) → o ≡ Some number → BuildsOf bs ws lent lent (Err (record { number = number; place = 0 }))
    unfolding refusal
    flat_refused number h r eb ew =
        refused_by_lem r eb ew number
        (answer_is r eb ew _ _ (overlong_is r eb ew) (room_is r eb ew)
        ∙ go (ltb max_flat_row n.longest) (ltb (length lent.index) bmp_size || ltb (length lent.pool) n.places) (sym h ∙ e))
      where
        go : (o s : Bool) → Some number ≡ cond o (Some flat_row_long) (cond s (Some table_room_short) None)
            → cond o (refused_by flat_row_long) (cond s (refused_by table_room_short) built) ≡ refused_by number
        go true s f = cc
        go false true f = cc
        go false false f = cc

    module _ (z : o ≡ None) where
      room : Fits n.longest n.places (length lent.index) (length lent.pool)
      room = fits _ _ _ _ (sym e ∙ z)

      pub whole_index : bmp_size ≤ length lent.index
      whole_index = room.whole

      pub flat_made : (m : ℕ) → m ≡ bmp_size → (index pool : List ℕ)
          → FlatFilled bs ws (record { index = take m lent.index; pool = lent.pool }) (record { index = index; pool = pool })
          → BuildsOf bs ws lent (record { index = index ++ drop m lent.index; pool = pool }) (Ok n.places)
      flat_made m whole index pool f r eb ew =
          let e : answer_to (some r) lent ≡ built =
          answer_is r eb ew false false (overlong_is r eb ew ∙ le-ltb max_flat_row n.longest room.short)
          (room_is r eb ew
          ∙ ap₂ (λ x y. x || y) (le-ltb (length lent.index) bmp_size room.whole) (le-ltb (length lent.pool) n.places room.enough)) in
          let g : FlatFilled (boundaries r) (rows r) (record { index = take m lent.index; pool = lent.pool }) (record { index = index; pool = pool }) =
          subst (λ w. FlatFilled (boundaries r) w (record { index = take m lent.index; pool = lent.pool }) (record { index = index; pool = pool })) ew
          (subst (λ b. FlatFilled b ws (record { index = take m lent.index; pool = lent.pool }) (record { index = index; pool = pool })) eb f) in
          record {
            answer = ap Ok (places_are r eb ew) ∙ ap (given r) (sym e);
            memory =
                filled_so r lent m whole (omega (arith, room.whole)) index pool g (omega (arith, room.enough, places_are r eb ew))
                ∙ ap (λ a. leaves r a lent) (sym e);
          }

-- ---- over tables handed in

module _ (t : Tables) (n : Counts) where
  pub builds_apart : (lent : FlatRoom) → holds t n ≡ false → BuildsFlat t n lent lent (Err (record { number = tables_apart; place = 0 }))
  unfolding handed_in flat_built
  builds_apart lent e = record { answer = rw e; memory = rw e }

  module _ (h : T (holds t n)) (ds : List ℕ) (e : ds ≡ found_row (find_name t.names t.categories n.categories default)) where
    rows_are : rows_of ds (slots_got 0 n.ranges t.ranges) t.references ≡ rows (decoded t n)
    rows_are = ap (λ d. rows_of d (slots_got 0 n.ranges t.ranges) t.references) (e ∙ fallback_met t n h) ∙ rows_met t n h

    -- "the 24-bit offset never overflows"
    pub buildable : length ds ≤ 1 → Buildable t.ranges t.references n.ranges ds
    buildable one =
        let k = handed_fits t n h in
        let f = places_fit (decoded t n) k.0 k.1 in
        record {
          readable = readable t n h;
          one = one;
          offsets_fit = rw (rows_are, joined_length (rows (decoded t n))) f;
        }

    pub builds_flat : (lent after : FlatRoom) (a : Result ℕ Refusal)
        → BuildsOf (boundaries_of (slots_got 0 n.ranges t.ranges)) (rows_of ds (slots_got 0 n.ranges t.ranges) t.references) lent after a
        → BuildsFlat t n lent after a
    unfolding handed_in
    builds_flat lent after a b =
        let m : Builds (decoded t n) lent after a = b (decoded t n) (boundaries_met t n h) rows_are in
        let g : some (decoded t n) ≡ handed_in t n = rw (T→true (holds t n) h) in
        record {
          answer = m.answer ∙ ap (λ o. given (decoded t n) (answer_to o lent)) g;
          memory = m.memory ∙ ap (λ o. leaves (decoded t n) (answer_to o lent) lent) g;
        }

-- ---- NOTHING IS LEFT OPEN: two outcomes that the promise allows coincide, in the answer and in the memory

pub built_one : {t : Tables} {n : Counts} {lent a b : FlatRoom} {r s : Result ℕ Refusal} → BuildsFlat t n lent a r → BuildsFlat t n lent b s → (r ≡ s) × (a ≡ b)
built_one p q = (p.answer ∙ sym q.answer, p.memory ∙ sym q.memory)

-- ---- the answers

module _ {t : Tables} {n : Counts} {lent after : FlatRoom} {a : Result ℕ Refusal} (p : BuildsFlat t n lent after a) where
  -- 26 exactly where no reading is handed in, and nothing is changed
  pub apart_given : handed_in t n ≡ none → (a ≡ Err (record { number = tables_apart; place = 0 })) × (after ≡ lent)
  unfolding flat_built
  apart_given e = (p.answer ∙ rw e, p.memory ∙ rw e)

  module _ (r : Reading) (e : handed_in t n ≡ some r) where
    read_so : decoded t n ≡ r
    unfolding handed_in
    read_so = go (holds t n) e
      where
        go : (b : Bool) → cond b (some (decoded t n)) none ≡ some r → decoded t n ≡ r
        go true f = cc
        go false f = none_some f

    answer_so : (o s : Bool) → row_overlong r ≡ o → flat_room_short r (length lent.index) (length lent.pool) ≡ s
        → answer_to (handed_in t n) lent ≡ cond o (refused_by flat_row_long) (cond s (refused_by table_room_short) built)
    unfolding flat_built
    answer_so o s f g =
        ap (λ x. answer_to x lent) e ∙ ap₂ (λ x y. cond x (refused_by flat_row_long) (cond y (refused_by table_room_short) built)) f g

    kept : (k : ℕ) → answer_to (handed_in t n) lent ≡ refused_by k → (a ≡ Err (record { number = k; place = 0 })) × (after ≡ lent)
    kept k q = (p.answer ∙ ap (given (decoded t n)) q, p.memory ∙ ap (λ b. leaves (decoded t n) b lent) q)

    -- 16 where a row has over 255 categories, and nothing is changed
    pub overlong_given : row_overlong r ≡ true → (a ≡ Err (record { number = flat_row_long; place = 0 })) × (after ≡ lent)
    overlong_given o = kept flat_row_long (answer_so true _ o refl)

    -- otherwise 17 where a slice is below the exact need, and nothing is changed
    pub short_given : row_overlong r ≡ false → flat_room_short r (length lent.index) (length lent.pool) ≡ true
        → (a ≡ Err (record { number = table_room_short; place = 0 })) × (after ≡ lent)
    short_given o s = kept table_room_short (answer_so false true o s)

    -- otherwise the reading's flat table
    pub flat_given : row_overlong r ≡ false → flat_room_short r (length lent.index) (length lent.pool) ≡ false
        → (a ≡ Ok (places_needed r)) × (after ≡ filled r lent)
    flat_given o s =
        let q : answer_to (handed_in t n) lent ≡ built = answer_so false false o s in
        (p.answer ∙ ap₂ given read_so q, p.memory ∙ ap₂ (λ x b. leaves x b lent) read_so q)

-- ---- what is left is what lookups ask, where the index is lent as long as the BMP

left_filled : (r : Reading) (lent x : FlatRoom) (bs ss ls pool : List ℕ) → x ≡ filled r lent → row_overlong r ≡ false
    → FlatLeft r (record { index = take bmp_size x.index; flat = x.pool; boundaries = bs; starts = ss; lengths = ls; pool = pool })
unfolding filled
left_filled r lent x bs ss ls pool f o =
    record {
      row_fits = false→T (row_overlong r) o;
      index_is =
          ap (λ y. take bmp_size y.index) f
          ∙ ap (λ m. take m (ahead (flat_index r) lent.index)) (sym (index_length r))
          ∙ starts_ahead (flat_index r) lent.index;
      pool_is = ap (λ y. take (length (flat_pool r)) y.pool) f ∙ starts_ahead (flat_pool r) lent.pool;
    }

pub flat_left : {t : Tables} {n : Counts} {lent after : FlatRoom} {k : ℕ} → BuildsFlat t n lent after (Ok k)
    → (r : Reading) → handed_in t n ≡ some r → (boundaries starts lengths pool : List ℕ)
    → FlatLeft r (record { index = take bmp_size after.index; flat = after.pool; boundaries = boundaries; starts = starts; lengths = lengths; pool = pool })
flat_left {t} {n} {lent} {after} {k} p r e bs ss ls pool = go (row_overlong r) refl (flat_room_short r (length lent.index) (length lent.pool)) refl
  where
    go : (o : Bool) → row_overlong r ≡ o → (s : Bool) → flat_room_short r (length lent.index) (length lent.pool) ≡ s
        → FlatLeft r (record { index = take bmp_size after.index; flat = after.pool; boundaries = bs; starts = ss; lengths = ls; pool = pool })
    go true o s z = zero_one (let f = (overlong_given p r e o).0 in cc)
    go false o true z = zero_one (let f = (short_given p r e o z).0 in cc)
    go false o false z = left_filled r lent after bs ss ls pool (flat_given p r e o z).1 o
