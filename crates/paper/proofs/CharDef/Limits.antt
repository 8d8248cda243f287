-- A line that fits is stopped by a number exactly where it passes that limit. Interning walks the names from the left: the names known
-- after a part of them are those known before with what is new, so the first name without room is the one that stops it.
-- Assumes nothing.
use Prim.Native.Nat.{ℕ, ◌+◌, ◌<◌, ◌≤◌}
use native.Mathlib.Omega.{arith}
use mathlib.Core.Path.{◌≡◌, refl, sym, ap, ◌∙◌, subst}
use mathlib.Core.Bool.{Bool, true, false, not, cond, ◌||◌}
use mathlib.Core.List.{List, [], ◌∷◌, ◌++◌, map, append_assoc, append-nil}
use lib.Dec.{T, leb, ltb}
use lib.ListN.{length}
use mir.Facts.{leb_no, no_leb, leb_yes, yes_leb, ltb_yes, yes_ltb, ltb_no, no_ltb}
use Rattle.paper.specs.Sizes.{max_categories, max_name_bytes, max_category_lines, max_ranges, max_references}
use Rattle.paper.specs.Refusals.{ranges_full, references_full, category_lines_full, categories_full, name_bytes_full}
use Rattle.paper.specs.Lists.{any, same, fresh_after}
use Rattle.paper.specs.Text.Scalar.{utf8}
use Rattle.paper.specs.CharDef.Line.{Line, blank, category, range}
use Rattle.paper.specs.CharDef.Reading.{Definition, Reading, names_of, name_bytes, references}
use Rattle.paper.specs.CharDef.BadLine.{NoRoom, too_many, too_many_bytes, known_with, FirstOver, PastLimit, range_over, references_over, range_name, line_over, category_name}
use Rattle.paper.specs.Computed.ReadText.{stop, Interned, names_are, full_at, intern_one, after_one, intern, add_range, add_definition, enter}
use Rattle.paper.proofs.Apart.{zero_one, full_names, stop_go}
use Rattle.paper.proofs.Lists.Facts.{T→true, T→false, true→T, false→T, any_append}
use Rattle.paper.proofs.Lists.Seen.{same_eq}

nil_middle {ℓ} : {X : Type ℓ} (a : List (List ℕ)) (x : List ℕ) (b : List (List ℕ)) → [] ≡ a ++ (x ∷ b) → X
nil_middle [] x b e = zero_one (cc)
nil_middle (y ∷ a) x b e = zero_one (cc)

-- ---- what is new

-- only what is known matters, not in which order
fresh_same : (b c xs : List (List ℕ)) → ((n : List ℕ) → any (same n) b ≡ any (same n) c) → fresh_after same b xs ≡ fresh_after same c xs
fresh_same b c [] f = refl
fresh_same b c (x ∷ xs) f = rw (f x, fresh_same (x ∷ b) (x ∷ c) xs (λ n. ap (λ k. same n x || k) (f n)))

-- the names known after one more
abbrev pub with : List (List ℕ) → List ℕ → List (List ℕ)
with known x = cond (any (same x) known) known (known ++ (x ∷ []))

known_cons : (known : List (List ℕ)) (x : List ℕ) (a : List (List ℕ)) → known_with known (x ∷ a) ≡ known_with (with known x) a
known_cons known x a = go (any (same x) known) refl
  where
    R : List (List ℕ)
    R = fresh_after same (x ∷ known) a

    seen : any (same x) known ≡ true → (n : List ℕ) → any (same n) (x ∷ known) ≡ any (same n) known
    seen e n = pick (same n x) refl
      where
        pick : (b : Bool) → same n x ≡ b → (b || any (same n) known) ≡ any (same n) known
        pick true i = sym (ap (λ k. any (same k) known) (same_eq n x (true→T _ i)) ∙ e)
        pick false i = refl

    swap : (n : List ℕ) → any (same n) (x ∷ known) ≡ any (same n) (known ++ (x ∷ []))
    swap n = turn (same n x) (any (same n) known) ∙ sym (any_append (same n) known (x ∷ []))
      where
        turn : (b c : Bool) → (b || c) ≡ (c || (b || false))
        turn true true = refl
        turn true false = refl
        turn false true = refl
        turn false false = refl

    go : (b : Bool) → any (same x) known ≡ b
        → known ++ cond b R (x ∷ R) ≡ cond b known (known ++ (x ∷ [])) ++ fresh_after same (cond b known (known ++ (x ∷ []))) a
    go true e = ap (λ l. known ++ l) (fresh_same (x ∷ known) known a (seen e))
    go false e =
        ap (λ l. known ++ (x ∷ l)) (fresh_same (x ∷ known) (known ++ (x ∷ [])) a swap)
        ∙ sym (append_assoc known (x ∷ []) (fresh_after same (known ++ (x ∷ [])) a))

-- ---- one name

-- a name is known or finds room, and is then known; or it has none
data One (known : List (List ℕ)) (x : List ℕ) : Interned → Type 0 where
  room : ((m : ℕ) → NoRoom known x m → ⊥) → One known x (names_are (with known x))
  over : {n : ℕ} → NoRoom known x n → One known x (full_at n)

known_room : (known : List (List ℕ)) (x : List ℕ) → any (same x) known ≡ true → (m : ℕ) → NoRoom known x m → ⊥
known_room known x e m (too_many new h) = subst (λ b. T (not b)) e new
known_room known x e m (too_many_bytes new h i) = subst (λ b. T (not b)) e new

new_room : (known : List (List ℕ)) (x : List ℕ) → length known < max_categories → name_bytes known + length x ≤ max_name_bytes → (m : ℕ) → NoRoom known x m → ⊥
new_room known x few short m (too_many new h) = omega arith
new_room known x few short m (too_many_bytes new h i) = omega arith

one : (known : List (List ℕ)) (x : List ℕ) → One known x (intern_one known x)
unfolding intern_one
one known x = go (any (same x) known) (leb max_categories (length known)) (ltb max_name_bytes (name_bytes known + length x)) refl refl refl
  where
    go : (a b c : Bool) → any (same x) known ≡ a → leb max_categories (length known) ≡ b → ltb max_name_bytes (name_bytes known + length x) ≡ c
        → One known x (cond a (names_are known) (cond b (full_at categories_full) (cond c (full_at name_bytes_full) (names_are (known ++ (x ∷ []))))))
    go true b c ea eb ec =
        let e : with known x ≡ known = rw ea in
        subst (λ k. One known x (names_are k)) e (room (known_room known x ea))
    go false true c ea eb ec = over (too_many (false→T _ ea) (let h : max_categories ≤ length known = leb_yes (true→T _ eb) in omega arith))
    go false false true ea eb ec =
        over (too_many_bytes (false→T _ ea) (let h : length known < max_categories = leb_no (false→T _ eb) in omega arith) (ltb_yes (true→T _ ec)))
    go false false false ea eb ec =
        let e : with known x ≡ known ++ (x ∷ []) = rw ea in
        subst (λ k. One known x (names_are k)) e (room (new_room known x (leb_no (false→T _ eb)) (ltb_no (false→T _ ec))))

over_read : {known : List (List ℕ)} {x : List ℕ} {n : ℕ} → NoRoom known x n → intern_one known x ≡ full_at n
unfolding intern_one
over_read {known} {x} (too_many new h) =
    let k : max_categories ≤ length known = omega arith in
    rw (T→false (any (same x) known) new, T→true (leb max_categories (length known)) (yes_leb k))
over_read {known} {x} (too_many_bytes new h i) =
    let k : length known < max_categories = omega arith in
    rw (T→false (any (same x) known) new, T→false (leb max_categories (length known)) (no_leb k), T→true (ltb max_name_bytes (name_bytes known + length x)) (yes_ltb i))

-- ---- the names of a line

over_first : (x : List ℕ) (known ns : List (List ℕ)) (n : ℕ) → NoRoom known x n → FirstOver known (x ∷ ns) n
over_first x known ns n o =
    record {
      earlier = [];
      name = x;
      later = ns;
      whole = refl;
      over = rw (append-nil known) o;
      first = λ a b y m e p. nil_middle a y b e;
    }

over_later : (x : List ℕ) (known ns : List (List ℕ)) (n : ℕ) → ((m : ℕ) → NoRoom known x m → ⊥) → FirstOver (with known x) ns n → FirstOver known (x ∷ ns) n
over_later x known ns n free f =
    record {
      earlier = x ∷ f.earlier;
      name = f.name;
      later = f.later;
      whole = ap (λ l. x ∷ l) f.whole;
      over = rw (known_cons known x f.earlier) f.over;
      first = before;
    }
  where
    before : (a b : List (List ℕ)) (y : List ℕ) (m : ℕ) → x ∷ f.earlier ≡ a ++ (y ∷ b) → NoRoom (known_with known a) y m → ⊥
    before [] b y m e p =
        let i : y ≡ x = cc in
        free m (subst (λ k. NoRoom known k m) i (rw (append-nil known) at p))
    before (z ∷ a) b y m e p =
        let i : z ≡ x = cc in
        let j : f.earlier ≡ a ++ (y ∷ b) = cc in
        f.first a b y m j (subst (λ k. NoRoom k y m) (ap (λ k. known_with known (k ∷ a)) i ∙ known_cons known x a) p)

intern_over : (ns known : List (List ℕ)) (n : ℕ) → intern ns known ≡ full_at n → FirstOver known ns n
unfolding intern
intern_over [] known n h = full_names (sym h)
intern_over (x ∷ ns) known n h = go (one known x) h (λ m. intern_over ns m n)
  where
    go : {o : Interned} → One known x o → after_one o (λ m. intern ns m) ≡ full_at n
        → ((m : List (List ℕ)) → intern ns m ≡ full_at n → FirstOver m ns n) → FirstOver known (x ∷ ns) n
    go (room free) h ih = over_later x known ns n free (ih (with known x) h)
    go (over {n = k} o) h ih = let e : k ≡ n = cc in over_first x known ns n (subst (NoRoom known x) e o)

intern_stops : (earlier : List (List ℕ)) (name : List ℕ) (later known : List (List ℕ)) (n : ℕ) → NoRoom (known_with known earlier) name n
    → ((a b : List (List ℕ)) (x : List ℕ) (m : ℕ) → earlier ≡ a ++ (x ∷ b) → NoRoom (known_with known a) x m → ⊥)
    → intern (earlier ++ (name ∷ later)) known ≡ full_at n
unfolding intern
intern_stops [] name later known n o first = rw (over_read (rw (append-nil known) at o))
intern_stops (x ∷ earlier) name later known n o first =
    go (one known x) (intern_stops earlier name later (with known x) n (rw (known_cons known x earlier) at o) first')
  where
    first' : (a b : List (List ℕ)) (y : List ℕ) (m : ℕ) → earlier ≡ a ++ (y ∷ b) → NoRoom (known_with (with known x) a) y m → ⊥
    first' a b y m e p = first (x ∷ a) b y m (ap (λ l. x ∷ l) e) (rw (known_cons known x a) p)

    go : {o : Interned} → One known x o → intern (earlier ++ (name ∷ later)) (with known x) ≡ full_at n
        → after_one o (λ m. intern (earlier ++ (name ∷ later)) m) ≡ full_at n
    go (room free) ih = ih
    go (over {n = k} p) ih = absurd (first [] earlier x k refl (rw (append-nil known) p))

first_over_stops : {known ns : List (List ℕ)} {n : ℕ} → FirstOver known ns n → intern ns known ≡ full_at n
first_over_stops {known} {ns} {n} f = rw f.whole (intern_stops f.earlier f.name f.later known n f.over f.first)

-- ---- a line

pub enter_past : (r : Reading) (l : Line) (n : ℕ) → enter r l ≡ stop n → PastLimit r l n
unfolding enter names_of
enter_past r blank n h = stop_go (sym h)
enter_past r (category name invoke group len) n h = go (leb max_category_lines (length r.definitions)) refl (intern (utf8 name ∷ []) r.names) refl h
  where
    d : Definition
    d = record { invoke = invoke; group = group; len = len }

    go : (b : Bool) → leb max_category_lines (length r.definitions) ≡ b → (o : Interned) → intern (utf8 name ∷ []) r.names ≡ o
        → cond b (stop category_lines_full) (add_definition o r d) ≡ stop n → PastLimit r (category name invoke group len) n
    go true e o i h =
        let j : category_lines_full ≡ n = cc in
        let k : max_category_lines ≤ length r.definitions = leb_yes (true→T _ e) in
        subst (PastLimit r (category name invoke group len)) j (line_over (omega arith))
    go false e (full_at m) i h =
        let j : m ≡ n = cc in
        let k : length r.definitions < max_category_lines = leb_no (false→T _ e) in
        subst (PastLimit r (category name invoke group len)) j (category_name (omega arith) (intern_over (utf8 name ∷ []) r.names m i))
    go false e (names_are m) i h = stop_go (sym h)
enter_past r (range lower upper names) n h =
    go (leb max_ranges (length r.ranges)) refl (ltb max_references (references r.ranges + length names)) refl (intern (map utf8 names) r.names) refl h
  where
    Goal : ℕ → Type 0
    Goal = PastLimit r (range lower upper names)

    go : (a : Bool) → leb max_ranges (length r.ranges) ≡ a → (b : Bool) → ltb max_references (references r.ranges + length names) ≡ b
        → (o : Interned) → intern (map utf8 names) r.names ≡ o
        → cond a (stop ranges_full) (cond b (stop references_full) (add_range o r lower upper (map utf8 names))) ≡ stop n → Goal n
    go true ea b eb o i h =
        let j : ranges_full ≡ n = cc in
        let k : max_ranges ≤ length r.ranges = leb_yes (true→T _ ea) in
        subst Goal j (range_over (omega arith))
    go false ea true eb o i h =
        let j : references_full ≡ n = cc in
        let k : length r.ranges < max_ranges = leb_no (false→T _ ea) in
        subst Goal j (references_over (omega arith) (ltb_yes (true→T _ eb)))
    go false ea false eb (full_at m) i h =
        let j : m ≡ n = cc in
        let k : length r.ranges < max_ranges = leb_no (false→T _ ea) in
        subst Goal j (range_name (omega arith) (ltb_no (false→T _ eb)) (intern_over (map utf8 names) r.names m i))
    go false ea false eb (names_are m) i h = stop_go (sym h)

pub past_enter : {r : Reading} {l : Line} {n : ℕ} → PastLimit r l n → enter r l ≡ stop n
unfolding enter names_of
past_enter {r} (range_over h) =
    let k : max_ranges ≤ length r.ranges = omega arith in
    rw (T→true (leb max_ranges (length r.ranges)) (yes_leb k))
past_enter {r} (references_over {names = names} h i) =
    let k : length r.ranges < max_ranges = omega arith in
    rw (T→false (leb max_ranges (length r.ranges)) (no_leb k), T→true (ltb max_references (references r.ranges + length names)) (yes_ltb i))
past_enter {r} (range_name {names = names} h i f) =
    let k : length r.ranges < max_ranges = omega arith in
    rw (T→false (leb max_ranges (length r.ranges)) (no_leb k), T→false (ltb max_references (references r.ranges + length names)) (no_ltb i), first_over_stops f)
past_enter {r} (line_over h) =
    let k : max_category_lines ≤ length r.definitions = omega arith in
    rw (T→true (leb max_category_lines (length r.definitions)) (yes_leb k))
past_enter {r} (category_name h f) =
    let k : length r.definitions < max_category_lines = omega arith in
    rw (T→false (leb max_category_lines (length r.definitions)) (no_leb k), first_over_stops f)
