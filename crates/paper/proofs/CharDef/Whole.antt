-- A text is accepted exactly with the readings that fit its lines.
-- Assumes nothing.
use Prim.Native.Nat.{ℕ, suc, ◌+◌, ◌<◌, ◌≤◌}
use native.Mathlib.Omega.{arith}
use mathlib.Core.Path.{◌≡◌, refl, sym, ap, ap₂, ◌∙◌, subst}
use mathlib.Core.Bool.{Bool, true, false, not, cond}
use mathlib.Core.List.{List, [], ◌∷◌, ◌++◌, map, append_assoc, append-nil}
use lib.Dec.{T, leb, ltb, eqb→eq}
use lib.ListN.{length, length-append, length-map}
use mir.Facts.{and_yes, yes_and, leb_no, ltb_no, no_ltb, no_leb}
use Rattle.paper.specs.Sizes.{max_categories, max_name_bytes, max_category_lines, max_ranges, max_references}
use Rattle.paper.specs.Refusals.{ranges_full, references_full, category_lines_full, categories_full, name_bytes_full}
use Rattle.paper.specs.Lists.{empty, all, any, joined, first_seen, position_of, same, sum, cut}
use Rattle.paper.specs.Text.Scalar.{utf8, lf}
use Rattle.paper.specs.CharDef.Line.{Line, blank, category, range}
use Rattle.paper.specs.CharDef.Reading.{Definition, Range, Reading, names_of, definitions_of, ranges_of, reading_of, name_bytes, references, Within, join_lf, no_lf, EachFits, done, next, is_lf, accepted}
use Rattle.paper.specs.Computed.ReadText.{Found, found, wrong, line_of, Step, go_on, stop, Interned, names_are, full_at, intern_one, after_one, intern, add_range, add_definition, enter, enter_found, after_line, read_lines}
use Rattle.paper.proofs.Apart.{full_names, stop_go, refused_accepted}
use Rattle.paper.proofs.Lists.Facts.{T→false, cut_run, push_all_first, false→T, all_left, all_right, map_append, joined_map, sum_append}
use Rattle.paper.proofs.Lists.Seen.{same_eq, same_refl, seen_snoc, seen_append, seen_has, position_stays}
use Rattle.paper.proofs.Lists.Pieces.{Pieces, last, then}
use Rattle.paper.proofs.CharDef.Complete.{line_complete}
use Rattle.paper.proofs.CharDef.Sound.{line_sound}

-- ---- lists

bytes_append : (s t : List (List ℕ)) → name_bytes (s ++ t) ≡ name_bytes s + name_bytes t
unfolding name_bytes
bytes_append s t = ap sum (map_append length s t) ∙ sum_append (map length s) (map length t)

references_append : (s t : List Range) → references (s ++ t) ≡ references s + references t
unfolding references
references_append s t = ap sum (map_append (λ r. length r.categories) s t) ∙ sum_append (map (λ r. length r.categories) s) (map (λ r. length r.categories) t)

-- ---- names

abbrev seen : List (List ℕ) → List (List ℕ)
seen xs = first_seen same xs

pub record Small (names : List (List ℕ)) : Type 0 where
  pub few : length names ≤ max_categories
  pub short : name_bytes names ≤ max_name_bytes

length_one : (ns : List (List ℕ)) (n : List ℕ) → length (ns ++ (n ∷ [])) ≡ length ns + 1
length_one ns n = length-append ns (n ∷ [])

bytes_one : (ns : List (List ℕ)) (n : List ℕ) → name_bytes (ns ++ (n ∷ [])) ≡ name_bytes ns + length n
unfolding name_bytes
bytes_one ns n = bytes_append ns (n ∷ []) ∙ omega arith

one_sound : (xs : List (List ℕ)) (n : List ℕ) (m : List (List ℕ)) → Small (seen xs) → intern_one (seen xs) n ≡ names_are m
    → (m ≡ seen (xs ++ (n ∷ []))) × Small m
unfolding intern_one
one_sound xs n m small h =
    go (any (same n) S) (leb max_categories (length S)) (ltb max_name_bytes (name_bytes S + length n)) refl refl refl h
  where
    S : List (List ℕ)
    S = seen xs

    go : (a b c : Bool) → any (same n) S ≡ a → leb max_categories (length S) ≡ b → ltb max_name_bytes (name_bytes S + length n) ≡ c
        → cond a (names_are S) (cond b (full_at categories_full) (cond c (full_at name_bytes_full) (names_are (S ++ (n ∷ []))))) ≡ names_are m
        → (m ≡ seen (xs ++ (n ∷ []))) × Small m
    go true b c ea eb ec h =
        let e : m ≡ S = cc in
        (e ∙ sym (seen_snoc same same_eq xs n ∙ rw ea), rw e small)
    go false true c ea eb ec h = full_names h
    go false false true ea eb ec h = full_names h
    go false false false ea eb ec h =
        let e : m ≡ S ++ (n ∷ []) = cc in
        let lb : length S < max_categories = leb_no (false→T _ eb) in
        let bb : name_bytes S + length n ≤ max_name_bytes = ltb_no (false→T _ ec) in (
          e ∙ sym (seen_snoc same same_eq xs n ∙ rw ea),
          rw e (record { few = rw (length_one S n) (omega arith); short = rw (bytes_one S n) bb }),
        )

one_complete : (xs : List (List ℕ)) (n : List ℕ) → Small (seen (xs ++ (n ∷ []))) → intern_one (seen xs) n ≡ names_are (seen (xs ++ (n ∷ [])))
unfolding intern_one
one_complete xs n small = rw (seen_snoc same same_eq xs n) (go (any (same n) S) refl (rw (seen_snoc same same_eq xs n) at small))
  where
    S : List (List ℕ)
    S = seen xs

    go : (a : Bool) → any (same n) S ≡ a → Small (cond a S (S ++ (n ∷ [])))
        → cond a (names_are S) (cond (leb max_categories (length S)) (full_at categories_full) (cond (ltb max_name_bytes (name_bytes S + length n)) (full_at name_bytes_full) (names_are (S ++ (n ∷ [])))))
        ≡ names_are (cond a S (S ++ (n ∷ [])))
    go true e s = refl
    go false e s =
        let few : length S + 1 ≤ max_categories = rw (length_one S n) at s.few in
        let short : name_bytes S + length n ≤ max_name_bytes = rw (bytes_one S n) at s.short in
        let less : length S < max_categories = omega arith in
        rw (T→false (leb max_categories (length S)) (no_leb less), T→false (ltb max_name_bytes (name_bytes S + length n)) (no_ltb short))

intern_sound : (ns xs m : List (List ℕ)) → Small (seen xs) → intern ns (seen xs) ≡ names_are m → (m ≡ seen (xs ++ ns)) × Small m
unfolding intern
intern_sound [] xs m small h =
    let e : m ≡ seen xs = cc in
    (e ∙ ap seen (sym (append-nil xs)), rw e small)
intern_sound (n ∷ ns) xs m small h = go (intern_one (seen xs) n) refl h (λ k s h'. intern_sound ns (xs ++ (n ∷ [])) m s h')
  where
    go : (o : Interned) → intern_one (seen xs) n ≡ o → after_one o (λ m'. intern ns m') ≡ names_are m
        → ((k : ℕ) → Small (seen (xs ++ (n ∷ []))) → intern ns (seen (xs ++ (n ∷ []))) ≡ names_are m → (m ≡ seen (xs ++ (n ∷ []) ++ ns)) × Small m)
        → (m ≡ seen (xs ++ (n ∷ ns))) × Small m
    go (full_at k) e h ih = full_names h
    go (names_are m') e h ih =
        let (e', s') = one_sound xs n m' small e in
        let r = ih 0 (rw e' at s') (ap (intern ns) (sym e') ∙ h) in
        (r.0 ∙ ap seen (append_assoc xs (n ∷ []) ns), r.1)

small_prefix : (xs ys : List (List ℕ)) → Small (seen (xs ++ ys)) → Small (seen xs)
small_prefix xs ys s =
    let (more, e) = seen_append same same_eq xs ys in
    let few : length (seen xs ++ more) ≤ max_categories = rw e at s.few in
    let short : name_bytes (seen xs ++ more) ≤ max_name_bytes = rw e at s.short in
    let few' : length (seen xs) + length more ≤ max_categories = rw length-append at few in
    let short' : name_bytes (seen xs) + name_bytes more ≤ max_name_bytes = rw bytes_append at short in
    record { few = omega arith; short = omega arith }

intern_complete : (ns xs : List (List ℕ)) → Small (seen (xs ++ ns)) → intern ns (seen xs) ≡ names_are (seen (xs ++ ns))
unfolding intern
intern_complete [] xs small = ap (λ l. names_are (seen l)) (sym (append-nil xs))
intern_complete (n ∷ ns) xs small =
    let regroup : xs ++ (n ∷ []) ++ ns ≡ xs ++ (n ∷ ns) = append_assoc xs (n ∷ []) ns in
    let s : Small (seen (xs ++ (n ∷ []) ++ ns)) = subst (λ l. Small (seen l)) (sym regroup) small in
    rw (one_complete xs n (small_prefix (xs ++ (n ∷ [])) ns s))
    (intern_complete ns (xs ++ (n ∷ [])) s ∙ ap (λ l. names_are (seen l)) regroup)

-- ---- readings

-- what lines say of names, definitions and ranges
abbrev N : List Line → List (List ℕ)
N ls = joined (map names_of ls)

abbrev D : List Line → List Definition
D ls = joined (map definitions_of ls)

abbrev R : List (List ℕ) → List Line → List Range
R all_names_lem ls = joined (map (ranges_of all_names_lem) ls)

abbrev mk : List (List ℕ) → List Definition → List Range → Reading
mk ns ds rs = record { names = ns; definitions = ds; ranges = rs }

reading_is : (ls : List Line) → reading_of ls ≡ mk (seen (N ls)) (D ls) (R (seen (N ls)) ls)
unfolding reading_of
reading_is ls = refl

positions_stay : (ns more xs : List (List ℕ)) → T (all (λ n. any (same n) ns) xs)
    → map (λ n. position_of same n (ns ++ more)) xs ≡ map (λ n. position_of same n ns) xs
positions_stay ns more [] a = refl
positions_stay ns more (x ∷ xs) a =
    let h = and_yes (any (same x) ns) (all (λ n. any (same n) ns) xs) a in
    ap₂ (λ y ys. y ∷ ys) (position_stays same same_eq x ns more h.0) (positions_stay ns more xs h.1)

range_stays : (ns more : List (List ℕ)) (l : Line) → T (all (λ n. any (same n) ns) (names_of l)) → ranges_of (ns ++ more) l ≡ ranges_of ns l
unfolding names_of ranges_of
range_stays ns more blank a = refl
range_stays ns more (category name invoke group len) a = refl
range_stays ns more (range lower upper names) a =
    ap (λ cs. record { lower = lower; upper = upper; categories = cs } ∷ []) (positions_stay ns more (map utf8 names) a)

ranges_stay : (ns more : List (List ℕ)) (ls : List Line) → T (all (λ n. any (same n) ns) (N ls)) → R (ns ++ more) ls ≡ R ns ls
ranges_stay ns more [] a = refl
ranges_stay ns more (l ∷ ls) a =
    ap₂ (λ x y. x ++ y)
    (range_stays ns more l (all_left (λ n. any (same n) ns) (names_of l) (N ls) a))
    (ranges_stay ns more ls (all_right (λ n. any (same n) ns) (names_of l) (N ls) a))

-- the reading of more lines: at the ends of the three lists
reading_append : (ls ms : List Line)
    → reading_of (ls ++ ms) ≡ mk (seen (N ls ++ N ms)) (D ls ++ D ms) (R (seen (N ls)) ls ++ R (seen (N ls ++ N ms)) ms)
reading_append ls ms =
    let (more, e) = seen_append same same_eq (N ls) (N ms) in
    let stays : R (seen (N ls ++ N ms)) ls ≡ R (seen (N ls)) ls =
    ap (λ ns. R ns ls) e ∙ ranges_stay (seen (N ls)) more ls (seen_has same same_eq same_refl (N ls)) in
    reading_is (ls ++ ms)
    ∙ ap (λ ns. mk (seen ns) (D (ls ++ ms)) (R (seen ns) (ls ++ ms))) (joined_map names_of ls ms)
    ∙ ap (λ ds. mk (seen (N ls ++ N ms)) ds (R (seen (N ls ++ N ms)) (ls ++ ms))) (joined_map definitions_of ls ms)
    ∙ ap (λ rs. mk (seen (N ls ++ N ms)) (D ls ++ D ms) rs) (joined_map (ranges_of (seen (N ls ++ N ms))) ls ms ∙ ap (λ x. x ++ R (seen (N ls ++ N ms)) ms) stays)

within_prefix : (ls ms : List Line) → Within (reading_of (ls ++ ms)) → Within (reading_of ls)
within_prefix ls ms w =
    let v = rw (reading_append ls ms) at w in
    let s = small_prefix (N ls) (N ms) (record { few = v.categories_fit; short = v.names_fit }) in
    let d : length (D ls) + length (D ms) ≤ max_category_lines = rw length-append at v.definitions_fit in
    let r : length (R (seen (N ls)) ls) + length (R (seen (N ls ++ N ms)) ms) ≤ max_ranges = rw length-append at v.ranges_fit in
    let f : references (R (seen (N ls)) ls) + references (R (seen (N ls ++ N ms)) ms) ≤ max_references = rw references_append at v.references_fit in
    rw (reading_is ls)
    (record { categories_fit = s.few; names_fit = s.short; definitions_fit = omega arith; ranges_fit = omega arith; references_fit = omega arith })

-- ---- one more line

reading_snoc : (ls : List Line) (l : Line)
    → reading_of (ls ++ (l ∷ [])) ≡ mk (seen (N ls ++ names_of l)) (D ls ++ definitions_of l) (R (seen (N ls)) ls ++ ranges_of (seen (N ls ++ names_of l)) l)
reading_snoc ls l = reading_append ls (l ∷ []) ∙ rw (append-nil (names_of l), append-nil (definitions_of l), append-nil (ranges_of (seen (N ls ++ names_of l)) l))

enter_blank : (ls : List Line) → reading_of (ls ++ (blank ∷ [])) ≡ reading_of ls
unfolding names_of definitions_of ranges_of
enter_blank ls = reading_snoc ls blank ∙ rw (append-nil (N ls), append-nil (D ls), append-nil (R (seen (N ls)) ls)) (sym (reading_is ls))

length_one_of : {A : Type 0} (s : List A) (x : A) → length (s ++ (x ∷ [])) ≡ length s + 1
length_one_of s x = length-append s (x ∷ [])

references_one : (rs : List Range) (lower upper : ℕ) (cs : List ℕ)
    → references (rs ++ (record { lower = lower; upper = upper; categories = cs } ∷ [])) ≡ references rs + length cs
unfolding references
references_one rs lower upper cs = references_append rs (record { lower = lower; upper = upper; categories = cs } ∷ []) ∙ omega arith

numbered : (ns : List (List ℕ)) (names : List (List ℕ)) → length (map (λ n. position_of same n ns) (map utf8 names)) ≡ length names
numbered ns names = length-map (map utf8 names) (λ n. position_of same n ns) ∙ length-map names utf8

-- the state before the line, and the limits it keeps
module _ (ls : List Line) where
  S : List (List ℕ)
  S = seen (N ls)

  category_sound : (name : List ℕ) (i g : Bool) (len : ℕ) (r : Reading)
      → Within (mk (seen (N ls)) (D ls) (R (seen (N ls)) ls)) → enter (mk (seen (N ls)) (D ls) (R (seen (N ls)) ls)) (category name i g len) ≡ go_on r
      → (r ≡ mk (seen (N ls ++ (utf8 name ∷ []))) (D ls ++ (record { invoke = i; group = g; len = len } ∷ [])) (R (seen (N ls)) ls)) × Within r
  unfolding enter
  category_sound name i g len r w h = go (leb max_category_lines (length (D ls))) refl (intern (utf8 name ∷ []) (seen (N ls))) refl h
    where
      d : Definition
      d = record { invoke = i; group = g; len = len }

      go : (a : Bool) → leb max_category_lines (length (D ls)) ≡ a → (o : Interned) → intern (utf8 name ∷ []) (seen (N ls)) ≡ o
          → cond a (stop category_lines_full) (add_definition o (mk (seen (N ls)) (D ls) (R (seen (N ls)) ls)) d) ≡ go_on r
          → (r ≡ mk (seen (N ls ++ (utf8 name ∷ []))) (D ls ++ (d ∷ [])) (R (seen (N ls)) ls)) × Within r
      go true a o e h = stop_go h
      go false a (full_at n) e h = stop_go h
      go false a (names_are m) e h =
          let (em, s) = intern_sound (utf8 name ∷ []) (N ls) m (record { few = w.categories_fit; short = w.names_fit }) e in
          let er : r ≡ mk m (D ls ++ (d ∷ [])) (R (seen (N ls)) ls) = cc in
          let less : length (D ls) < max_category_lines = leb_no (false→T _ a) in (
            er ∙ ap (λ ns. mk ns (D ls ++ (d ∷ [])) (R (seen (N ls)) ls)) em,
            rw er (record { categories_fit = s.few; names_fit = s.short; definitions_fit = rw (length_one_of (D ls) d) (omega arith); ranges_fit = w.ranges_fit; references_fit = w.references_fit }),
          )

  range_sound : (lower upper : ℕ) (names : List (List ℕ)) (r : Reading)
      → Within (mk (seen (N ls)) (D ls) (R (seen (N ls)) ls)) → enter (mk (seen (N ls)) (D ls) (R (seen (N ls)) ls)) (range lower upper names) ≡ go_on r
      → (r ≡ mk (seen (N ls ++ map utf8 names)) (D ls)
      (R (seen (N ls)) ls ++ (record { lower = lower; upper = upper; categories = map (λ n. position_of same n (seen (N ls ++ map utf8 names))) (map utf8 names) } ∷ [])))
      × Within r
  unfolding enter
  range_sound lower upper names r w h =
      go (leb max_ranges (length (R (seen (N ls)) ls))) refl (ltb max_references (references (R (seen (N ls)) ls) + length names)) refl (intern (map utf8 names) (seen (N ls))) refl h
    where
      g : List (List ℕ) → Range
      g ns = record { lower = lower; upper = upper; categories = map (λ n. position_of same n ns) (map utf8 names) }

      go : (a : Bool) → leb max_ranges (length (R (seen (N ls)) ls)) ≡ a → (b : Bool) → ltb max_references (references (R (seen (N ls)) ls) + length names) ≡ b
          → (o : Interned) → intern (map utf8 names) (seen (N ls)) ≡ o
          → cond a (stop ranges_full) (cond b (stop references_full) (add_range o (mk (seen (N ls)) (D ls) (R (seen (N ls)) ls)) lower upper (map utf8 names))) ≡ go_on r
          → (r ≡ mk (seen (N ls ++ map utf8 names)) (D ls) (R (seen (N ls)) ls ++ (g (seen (N ls ++ map utf8 names)) ∷ []))) × Within r
      go true a b eb o e h = stop_go h
      go false a true eb o e h = stop_go h
      go false a false eb (full_at n) e h = stop_go h
      go false a false eb (names_are m) e h =
          let (em, s) = intern_sound (map utf8 names) (N ls) m (record { few = w.categories_fit; short = w.names_fit }) e in
          let er : r ≡ mk m (D ls) (R (seen (N ls)) ls ++ (g m ∷ [])) = cc in
          let less : length (R (seen (N ls)) ls) < max_ranges = leb_no (false→T _ a) in
          let refs : references (R (seen (N ls)) ls) + length names ≤ max_references = ltb_no (false→T _ eb) in (
            er ∙ ap (λ ns. mk ns (D ls) (R (seen (N ls)) ls ++ (g ns ∷ []))) em,
            rw er (record {
              categories_fit = s.few;
              names_fit = s.short;
              definitions_fit = w.definitions_fit;
              ranges_fit = rw (length_one_of (R (seen (N ls)) ls) (g m)) (omega arith);
              references_fit = rw (references_one (R (seen (N ls)) ls) lower upper (map (λ n. position_of same n m) (map utf8 names)), numbered m names) refs;
            }),
          )

enter_sound : (ls : List Line) (l : Line) (r : Reading) → Within (reading_of ls) → enter (reading_of ls) l ≡ go_on r
    → (r ≡ reading_of (ls ++ (l ∷ []))) × Within r
unfolding names_of definitions_of ranges_of enter
enter_sound ls blank r w h =
    let e : r ≡ reading_of ls = cc in
    (e ∙ sym (enter_blank ls), rw e w)
enter_sound ls (category name i g len) r w h =
    let (e, v) = category_sound ls name i g len r (rw (reading_is ls) at w) (ap (λ s. enter s (category name i g len)) (sym (reading_is ls)) ∙ h) in
    (e ∙ sym (reading_snoc ls (category name i g len) ∙ rw (append-nil (R (seen (N ls)) ls))), v)
enter_sound ls (range lower upper names) r w h =
    let (e, v) = range_sound ls lower upper names r (rw (reading_is ls) at w) (ap (λ s. enter s (range lower upper names)) (sym (reading_is ls)) ∙ h) in
    (e ∙ sym (reading_snoc ls (range lower upper names) ∙ rw (append-nil (D ls))), v)

enter_complete : (ls : List Line) (l : Line) → Within (reading_of (ls ++ (l ∷ []))) → enter (reading_of ls) l ≡ go_on (reading_of (ls ++ (l ∷ [])))
unfolding names_of definitions_of ranges_of enter
enter_complete ls blank w = ap go_on (sym (enter_blank ls))
enter_complete ls (category name i g len) w =
    let v = rw (reading_snoc ls (category name i g len)) at w in
    let d : length (D ls) + 1 ≤ max_category_lines = rw length-append at v.definitions_fit in
    let less : length (D ls) < max_category_lines = omega arith in
    ap (λ s. enter s (category name i g len)) (reading_is ls)
    ∙ rw (T→false (leb max_category_lines (length (D ls))) (no_leb less), intern_complete (utf8 name ∷ []) (N ls) (record { few = v.categories_fit; short = v.names_fit }))
    (ap go_on (sym (reading_snoc ls (category name i g len) ∙ rw (append-nil (R (seen (N ls)) ls)))))
enter_complete ls (range lower upper names) w =
    let v = rw (reading_snoc ls (range lower upper names)) at w in
    let S' : List (List ℕ) = seen (N ls ++ map utf8 names) in
    let cats : List ℕ = map (λ n. position_of same n S') (map utf8 names) in
    let d : length (R (seen (N ls)) ls) + 1 ≤ max_ranges = rw length-append at v.ranges_fit in
    let less : length (R (seen (N ls)) ls) < max_ranges = omega arith in
    let refs : references (R (seen (N ls)) ls) + length names ≤ max_references =
    rw (references_one (R (seen (N ls)) ls) lower upper cats, numbered S' names) at v.references_fit in
    ap (λ s. enter s (range lower upper names)) (reading_is ls)
    ∙ rw (
      T→false (leb max_ranges (length (R (seen (N ls)) ls))) (no_leb less),
      T→false (ltb max_references (references (R (seen (N ls)) ls) + length names)) (no_ltb refs),
      intern_complete (map utf8 names) (N ls) (record { few = v.categories_fit; short = v.names_fit }),
    )
    (ap go_on (sym (reading_snoc ls (range lower upper names) ∙ rw (append-nil (D ls)))))

-- ---- all lines

pub lines_sound : (css : List (List ℕ)) (k : ℕ) (ls : List Line) (r : Reading) → Within (reading_of ls) → read_lines k css (reading_of ls) ≡ accepted r
    → (ms : List Line) × EachFits css ms × (r ≡ reading_of (ls ++ ms)) × Within r
unfolding read_lines
lines_sound [] k ls r w h =
    let e : r ≡ reading_of ls = cc in
    ([], done, e ∙ ap reading_of (sym (append-nil ls)), rw e w)
lines_sound (cs ∷ css) k ls r w h = found_case (line_of cs) refl h (λ l. lines_sound css (suc k) (ls ++ (l ∷ [])) r)
  where
    Goal : Type 0
    Goal = (ms : List Line) × EachFits (cs ∷ css) ms × (r ≡ reading_of (ls ++ ms)) × Within r

    Below : Line → Type 0
    Below l = Within (reading_of (ls ++ (l ∷ []))) → read_lines (suc k) css (reading_of (ls ++ (l ∷ []))) ≡ accepted r
        → (ms : List Line) × EachFits css ms × (r ≡ reading_of (ls ++ (l ∷ []) ++ ms)) × Within r

    step_case : (l : Line) → line_of cs ≡ found l → (o : Step) → enter (reading_of ls) l ≡ o
        → after_line k o (λ r'. read_lines (suc k) css r') ≡ accepted r → Below l → Goal
    step_case l el (stop n) e h below = refused_accepted h
    step_case l el (go_on r') e h below =
        let (er, wr) = enter_sound ls l r' w e in
        let (ms, f, e', w') = below (rw er at wr) (ap (read_lines (suc k) css) (sym er) ∙ h) in
        (l ∷ ms, next (line_sound cs l el) f, e' ∙ ap reading_of (append_assoc ls (l ∷ []) ms), w')

    found_case : (o : Found) → line_of cs ≡ o → after_line k (enter_found (reading_of ls) o) (λ r'. read_lines (suc k) css r') ≡ accepted r
        → ((l : Line) → Below l) → Goal
    found_case (wrong n) e h below = refused_accepted h
    found_case (found l) e h below = step_case l e (enter (reading_of ls) l) refl h (below l)

pub lines_complete : {css : List (List ℕ)} {ms : List Line} (k : ℕ) (ls : List Line) → EachFits css ms → Within (reading_of (ls ++ ms))
    → read_lines k css (reading_of ls) ≡ accepted (reading_of (ls ++ ms))
unfolding read_lines
lines_complete k ls done w = ap (λ l. accepted (reading_of l)) (sym (append-nil ls))
lines_complete k ls (next {cs = cs} {l = l} {css = css} {ls = ms} f t) w =
    let regroup : ls ++ (l ∷ []) ++ ms ≡ ls ++ (l ∷ ms) = append_assoc ls (l ∷ []) ms in
    let w' : Within (reading_of (ls ++ (l ∷ []) ++ ms)) = subst (λ x. Within (reading_of x)) (sym regroup) w in
    rw (line_complete cs l f, enter_complete ls l (within_prefix (ls ++ (l ∷ [])) ms w'))
    (lines_complete (suc k) (ls ++ (l ∷ [])) t w' ∙ ap (λ x. accepted (reading_of x)) regroup)

pub cut_joined : (css : List (List ℕ)) → T (not (empty css)) → T (all no_lf css) → cut is_lf (join_lf css) ≡ css
cut_joined [] n a = absurd n
cut_joined (l ∷ []) n a =
    let h = and_yes (no_lf l) true a in
    ap (cut is_lf) (sym (append-nil l)) ∙ cut_run is_lf l [] h.0 ∙ push_all_first is_lf l []
cut_joined (l ∷ m ∷ css) n a =
    let h = and_yes (no_lf l) (all no_lf (m ∷ css)) a in
    cut_run is_lf l (lf ∷ join_lf (m ∷ css)) h.0
    ∙ push_all_first is_lf l (cut is_lf (join_lf (m ∷ css)))
    ∙ ap (λ x. l ∷ x) (cut_joined (m ∷ css) tt h.1)

pub pieces_joined : {cs : List ℕ} {css : List (List ℕ)} → Pieces is_lf cs css → (cs ≡ join_lf css) × T (not (empty css)) × T (all no_lf css)
pieces_joined {cs} (last a) = (refl, tt, yes_and (no_lf cs) true a tt)
pieces_joined (then {l = l} {ls = m ∷ css} s r e a t q) =
    let (e', n, b) = pieces_joined q in
    let is_lf_lem : s ≡ lf = eqb→eq s lf t in
    (e ∙ ap₂ (λ x y. l ++ (x ∷ y)) is_lf_lem e', tt, yes_and (no_lf l) (all no_lf (m ∷ css)) a b)
pieces_joined (then {l = l} {ls = []} s r e a t q) = absurd (pieces_joined q).1
