-- The walk of `fill_flat`: the code points below the boundary that it has come to have their entries, and what is left of the rows, put behind what is
-- there, gives the pool. Here for boundaries and rows of any origin, then over the slots of two tables. Idea: from a boundary up to the next one the
-- row is the one whose number the walk has come to.
-- Assumes nothing.
use Prim.Native.Nat.{ℕ, zero, suc, ◌+◌, ◌-◌, ◌≤◌, ◌<◌}
use native.Mathlib.Nat.{le_of_suc-le-suc, not-suc-le-zero}
use native.Mathlib.Numerals.{add-one}
use native.Mathlib.Omega.{arith}
use native.Mathlib.Decide.{dec_le}
use mathlib.Core.Path.{◌≡◌, refl, sym, ap, ap₂, ◌∙◌, subst}
use mathlib.Core.Bool.{Bool, true, false, cond}
use mathlib.Core.List.{List, [], ◌∷◌, map}
use lib.Dec.{T, leb, ltb}
use lib.ListN.{length, get_or, drop, length-drop, length-map}
use lib.Seq.{sets, get_or-drop, drop-drop}
use Rattle.paper.specs.Sizes.{max_categories, max_row_places, bmp_size}
use Rattle.paper.specs.Lists.{all, joined}
use Rattle.paper.specs.Rows.Covering.{or_else}
use Rattle.paper.specs.Rows.Flat.{RowFound, entry_of, offset_of}
use Rattle.paper.proofs.Lists.Facts.{joined_length}
use Rattle.paper.proofs.Rows.Rising.{rising_from, ascending_rising}
use Rattle.paper.proofs.Rows.Search.{found_one}
use Rattle.paper.proofs.Rows.Flat.{part_inside}
use Rattle.window.specs.Near.{no_boundary}
use Rattle.walk.specs.Next.{ends_of, boundary_after}
use Rattle.cover.specs.Slots.{slots_got, covers_got}
use Rattle.cover.specs.Stamps.{stamped, Rowed}
use Rattle.fill_rows.specs.Walked.{boundaries_of, row_of, rows_of, Clean}
use Rattle.walk.proofs.Walk.{onward}
use Rattle.cover.proofs.Notes.{length_stamps, sets_append}
use Rattle.cover.proofs.FirstSeen.{stamps_old}
use Rattle.fill_rows.proofs.Fills.{walk_begins, walk_goes, walk_ends, walk_rises, row_is}
use Rattle.fill_flat.specs.Walked.{FlatRoom, Spread, Buildable, EntryAt, FlatFilled}

-- ---- lists

offset_none : (ws : List (List ℕ)) → 0 ≡ offset_of ws 0
unfolding offset_of
offset_none ws = refl

offset_more : (ws : List (List ℕ)) (i : ℕ) → i < length ws → offset_of ws (suc i) ≡ offset_of ws i + length (get_or ws i [])
unfolding offset_of
offset_more [] i h = absurd (not-suc-le-zero h)
offset_more (w ∷ ws) zero h = omega arith
offset_more (w ∷ ws) (suc i) h = let e = offset_more ws i (le_of_suc-le-suc h) in omega arith

map_at : (f : ℕ → List ℕ) (bs : List ℕ) (i : ℕ) → i < length bs → get_or (map f bs) i [] ≡ f (get_or bs i 0)
map_at f [] i h = absurd (not-suc-le-zero h)
map_at f (b ∷ bs) zero h = refl
map_at f (b ∷ bs) (suc i) h = map_at f bs i (le_of_suc-le-suc h)

-- ---- boundaries bs, and at each its row by f

pub record Filling (f : ℕ → List ℕ) (bs : List ℕ) (lent : FlatRoom) (seen : List ℕ) (now : FlatRoom) (b rows at : ℕ) : Type 0 where
  pub most : b ≤ no_boundary
  pub few : rows ≤ b
  pub room : length seen ≡ max_categories
  pub long_index : length now.index ≡ length lent.index
  pub old : T (all (λ v. leb v rows) seen)
  pub rest : drop rows bs ≡ onward no_boundary b bs
  pub offset : at ≡ offset_of (map f bs) rows
  pub left_pool : sets now.pool at (joined (map f (drop rows bs))) ≡ sets lent.pool 0 (joined (map f bs))
  pub entries : (c : ℕ) → c < b → c < length lent.index → EntryAt bs (map f bs) c (get_or now.index c 0)

module _ (f : ℕ → List ℕ) (bs : List ℕ) (lent : FlatRoom) where
  pub filling_start : (seen₀ : List ℕ) → Clean seen₀ → onward no_boundary 0 bs ≡ bs → Filling f bs lent seen₀ lent 0 0 0
  filling_start seen₀ h e =
      record {
        most = omega arith;
        few = omega arith;
        room = h.room;
        long_index = refl;
        old = h.unseen;
        rest = sym e;
        offset = offset_none (map f bs);
        left_pool = refl;
        entries = λ c k. absurd (not-suc-le-zero k);
      }

  module _ (up : T (rising_from 0 bs)) (seen : List ℕ) (now : FlatRoom) (b rows at : ℕ) (h : Filling f bs lent seen now b rows at) where
    module _ (n : ℕ) (e : onward no_boundary b bs ≡ b ∷ onward no_boundary n bs) where
      here : drop rows bs ≡ b ∷ onward no_boundary n bs
      here = h.rest ∙ e

      after : drop (rows + 1) bs ≡ onward no_boundary n bs
      after = sym (drop-drop 1 rows bs) ∙ ap (drop 1) here

      there : rows < length bs
      there = omega (arith, length-drop rows bs, ap length here)

      boundary_is : get_or bs rows 0 ≡ b
      boundary_is = let z : rows ≡ rows + 0 = omega arith in ap (λ k. get_or bs k 0) z ∙ sym (get_or-drop rows bs 0 0) ∙ ap (λ l. get_or l 0 0) here

      next_is : suc rows < length bs → get_or bs (suc rows) 0 ≡ n
      unfolding onward
      next_is k =
          let z : suc rows ≡ rows + 1 + 0 = omega (arith, add-one rows) in
          let l : 0 < length (drop (rows + 1) bs) = omega (arith, length-drop (rows + 1) bs, add-one rows) in
          ap (λ k. get_or bs k 0) z ∙ sym (get_or-drop (rows + 1) bs 0 0) ∙ ap (λ l. get_or l 0 0) after
          ∙ first (ltb n no_boundary) _ (subst (λ m. 0 < length m) after l)
        where
          first : (x : Bool) (l : List ℕ) → 0 < length (cond x (n ∷ l) []) → get_or (cond x (n ∷ l) []) 0 0 ≡ n
          first true l k = refl
          first false l k = absurd (not-suc-le-zero k)

      -- from b up to the next boundary this row is found, and no other
      found_here : (c : ℕ) → b ≤ c → c < n → RowFound bs c rows
      found_here c u v = record { inside = there; up_to = rw boundary_is u; next_above = λ k. rw (next_is k) v }

      row_here : get_or (map f bs) rows [] ≡ f b
      row_here = map_at f bs rows there ∙ ap f boundary_is

      row_counts : rows < length (map f bs)
      row_counts = rw (length-map bs f) there

      pub fits_here : at + length (f b) ≤ length (joined (map f bs))
      fits_here =
          let u = part_inside (map f bs) rows row_counts in
          let v = ap length row_here in
          let w = h.offset in
          omega (arith, joined_length (map f bs))

      pub filling_turn : (seen' : List ℕ) (next : FlatRoom) (end entry : ℕ)
          → b < n → n ≤ no_boundary → length seen' ≡ length seen → T (all (λ v. leb v (rows + 1)) seen')
          → next.pool ≡ sets now.pool at (f b) → end ≡ at + length (f b) → entry ≡ entry_of at (length (f b))
          → Spread b n entry now.index next.index
          → Filling f bs lent seen' next n (rows + 1) end
      filling_turn seen' next end entry bn nt ls o ep ee en s =
          record {
            most = nt;
            few = let u = h.few in omega arith;
            room = ls ∙ h.room;
            long_index = s.long ∙ h.long_index;
            old = o;
            rest = after;
            offset =
                ee ∙ ap₂ (λ x y. x + length y) h.offset (sym row_here)
                ∙ sym (ap (offset_of (map f bs)) (add-one rows) ∙ offset_more (map f bs) rows row_counts);
            left_pool =
                ap₂ (λ x y. sets x y (joined (map f (drop (rows + 1) bs)))) ep ee
                ∙ sym (sets_append now.pool at (f b) (joined (map f (drop (rows + 1) bs))))
                ∙ ap (λ l. sets now.pool at (joined (map f l))) (ap (λ l. b ∷ l) after ∙ sym here)
                ∙ h.left_pool;
            entries = entries;
          }
        where
          entry_is : entry ≡ entry_of (offset_of (map f bs) rows) (length (get_or (map f bs) rows []))
          entry_is = en ∙ ap₂ (λ x y. entry_of x (length y)) h.offset (sym row_here)

          entries : (c : ℕ) → c < n → c < length lent.index → EntryAt bs (map f bs) c (get_or next.index c 0)
          entries c k l i g = elim (dec_le b c) [
            | yes u ↦
                s.there c u k (omega (arith, h.long_index))
                ∙ entry_is
                ∙ ap (λ j. entry_of (offset_of (map f bs) j) (length (get_or (map f bs) j []))) (found_one 0 c rows i bs up (found_here c u k) g)
            | no u ↦ s.before c (omega arith) ∙ h.entries c (omega arith) l i g
          ]

    pub filling_done : onward no_boundary b bs ≡ [] → no_boundary ≤ b → length lent.index ≤ bmp_size → FlatFilled bs (map f bs) lent now
    filling_done e k l =
        record {
          long = h.long_index;
          entries = λ c i. h.entries c (omega arith) i;
          pool = ap (λ l. sets now.pool at (joined (map f l))) (sym (h.rest ∙ e)) ∙ h.left_pool;
        }

-- ---- over the slots of two tables; `ds` is the row where they name none

module _ (ranges references : List ℕ) (count : ℕ) (ds : List ℕ) (w : Buildable ranges references count ds) (lent : FlatRoom) where
  rises : T (rising_from 0 (boundaries_of (slots_got 0 count ranges)))
  unfolding boundaries_of
  rises = ascending_rising (0 ∷ ends_of (slots_got 0 count ranges))

  pub walk_start : (seen₀ : List ℕ) (b : ℕ) → b ≡ 0 → Clean seen₀
      → Filling (row_of ds (slots_got 0 count ranges) references) (boundaries_of (slots_got 0 count ranges)) lent seen₀ lent b 0 0
  walk_start seen₀ b z h =
      subst (λ x. Filling (row_of ds (slots_got 0 count ranges) references) (boundaries_of (slots_got 0 count ranges)) lent seen₀ lent x 0 0) (sym z)
      (filling_start _ _ lent seen₀ h (walk_begins ranges references count ds w.one w.readable))

  module _ (seen : List ℕ) (now : FlatRoom) (b rows at : ℕ)
      (h : Filling (row_of ds (slots_got 0 count ranges) references) (boundaries_of (slots_got 0 count ranges)) lent seen now b rows at)
      (lt : b < no_boundary) where
    next : (n : ℕ) → n ≡ boundary_after b (slots_got 0 count ranges) → (b < n) × (n ≤ no_boundary)
    next n e = walk_rises ranges references count ds w.one w.readable b n lt e

    pub next_rises : (n : ℕ) → n ≡ boundary_after b (slots_got 0 count ranges) → b < n
    next_rises n e = (next n e).0

    module _ (seen' pool' : List ℕ) (end : ℕ) (r : Rowed (rows + 1) (covers_got b (slots_got 0 count ranges) references) ds seen seen' now.pool pool' at end) where
      is_row : or_else (stamped (rows + 1) seen (covers_got b (slots_got 0 count ranges) references)) ds ≡ row_of ds (slots_got 0 count ranges) references b
      is_row = row_is ranges references count ds w.one w.readable seen b rows h.room h.old

      ends : end ≡ at + length (row_of ds (slots_got 0 count ranges) references b)
      ends = r.count ∙ ap (λ z. at + length z) is_row

      module _ (n : ℕ) (e : n ≡ boundary_after b (slots_got 0 count ranges)) where
        goes : onward no_boundary b (boundaries_of (slots_got 0 count ranges)) ≡ b ∷ onward no_boundary n (boundaries_of (slots_got 0 count ranges))
        goes = walk_goes ranges references count ds w.one w.readable b n lt e

        -- so that the entry fits
        pub row_fits : (at ≤ end) × (end ≤ max_row_places)
        unfolding rows_of
        row_fits =
            let x = ends in
            let y = fits_here _ _ lent rises seen now b rows at h n goes in
            let z = w.offsets_fit in
            (omega arith, omega arith)

        pub walk_turn : (index' : List ℕ) (entry : ℕ) → entry ≡ entry_of at (end - at) → Spread b n entry now.index index'
            → Filling (row_of ds (slots_got 0 count ranges) references) (boundaries_of (slots_got 0 count ranges)) lent
            seen' (record { index = index'; pool = pool' }) n (rows + 1) end
        walk_turn index' entry q s =
            let x = ends in
            let len : end - at ≡ length (row_of ds (slots_got 0 count ranges) references b) = omega arith in
            filling_turn _ _ lent rises seen now b rows at h n goes seen' (record { index = index'; pool = pool' }) end entry
            (next n e).0 (next n e).1 (ap length r.seen ∙ length_stamps (rows + 1) seen (covers_got b (slots_got 0 count ranges) references))
            (subst (λ z. T (all (λ v. leb v (rows + 1)) z)) (sym r.seen) (stamps_old rows seen (covers_got b (slots_got 0 count ranges) references) h.old))
            (r.out ∙ ap (sets now.pool at) is_row) x (q ∙ ap (entry_of at) len) s

  pub walk_done : (seen : List ℕ) (now : FlatRoom) (b rows at : ℕ)
      → Filling (row_of ds (slots_got 0 count ranges) references) (boundaries_of (slots_got 0 count ranges)) lent seen now b rows at
      → no_boundary ≤ b → length lent.index ≤ bmp_size
      → FlatFilled (boundaries_of (slots_got 0 count ranges)) (rows_of ds (slots_got 0 count ranges) references) lent now
  unfolding rows_of
  walk_done seen now b rows at h g l =
      filling_done _ _ lent rises seen now b rows at h (walk_ends ranges references count ds w.one w.readable b g) g l
