-- What is read as a line is said by its characters.
-- Assumes nothing.
use Prim.Native.Nat.{ℕ, suc, ◌≤◌, zero-le, suc-le-suc}
use mathlib.Core.Path.{◌≡◌, refl, sym, ap, ◌∙◌, subst}
use mathlib.Core.Bool.{Bool, true, false, not, cond, ◌&&◌, ◌||◌}
use mathlib.Core.Option.{Option, none, some}
use mathlib.Core.List.{List, [], ◌∷◌, ◌++◌, append_assoc}
use lib.Dec.{T, eqb, eqb→eq}
use mir.Facts.{and_yes, T_not, not_T}
use borrow.Author.Tests.{eqb-false}
use Rattle.paper.specs.Sizes.{max_u16, max_u32}
use Rattle.paper.specs.Refusals.{bound_mark}
use Rattle.paper.specs.Lists.{all, full, nothing_or, words}
use Rattle.paper.specs.Text.Scalar.{is_white, is_sep, dot, digit0, letter_x, byte_order_mark, swapped_mark}
use Rattle.paper.specs.Numbers.Numeral.{decimal, hexadecimal}
use Rattle.paper.specs.CharDef.Line.{Line, blank, category, range, is_hash, is_name_char, is_field_char, begins0x, begins_white, zero_xs, stands_for, Bound, Bounds, one_bound, two_bounds, Names, LineFits}
use Rattle.paper.specs.CharDef.Line as line
use Rattle.paper.specs.CharDef.BadLine.{Body}
use Rattle.paper.specs.Computed.Numeral.{numeral}
use Rattle.paper.specs.Computed.ReadText.{found, BoundFound, no_bound, strip0x, checked_bound, bound_of, from_bounds, from_parts, range_of, from_numbers, category_of, body_line, line_of}
use Rattle.paper.proofs.Apart.{wrong_found, none_bound}
use Rattle.paper.proofs.Lists.Facts.{true→T, all_append, all_imp, un, false→T, all_left, all_right}
use Rattle.paper.proofs.Lists.Pieces.{Spread, run, word, words_spread, gap_full, gap_none, both_full, clash}
use Rattle.paper.proofs.Numbers.Read.{numeral_sound}
use Rattle.paper.proofs.CharDef.Bodies.{has_body, body_is}
use Rattle.paper.proofs.CharDef.Chars.{sep_white, white_no_x, name_char, field_char}
use Rattle.paper.proofs.CharDef.Dots.{Cuts, uncut, cut_at, parts_cuts}

-- ---- bounds

pub strip_rest : (cs : List ℕ) → (k : ℕ) × (cs ≡ zero_xs k ++ strip0x cs) × (T (begins0x cs) → 1 ≤ k)
strip_rest [] = (0, refl, λ t. absurd t)
strip_rest (c ∷ []) = (0, refl, λ t. absurd t)
strip_rest (c ∷ d ∷ cs) = step (eqb c digit0 && eqb d letter_x) refl (strip_rest cs)
  where
    step : (b : Bool) → (eqb c digit0 && eqb d letter_x) ≡ b → (k : ℕ) × (cs ≡ zero_xs k ++ strip0x cs) × (T (begins0x cs) → 1 ≤ k)
        → (k : ℕ) × (c ∷ d ∷ cs ≡ zero_xs k ++ cond b (strip0x cs) (c ∷ d ∷ cs)) × (T b → 1 ≤ k)
    step true e (k, h, f) =
        let t = and_yes (eqb c digit0) (eqb d letter_x) (true→T _ e) in
        let cz : c ≡ digit0 = eqb→eq c digit0 t.0 in
        let dx : d ≡ letter_x = eqb→eq d letter_x t.1 in
        (suc k, cc, λ u. suc-le-suc zero-le)
    step false e (k, h, f) = (0, refl, λ t. absurd t)

bound_sound : (least : ℕ) (cs : List ℕ) (v : ℕ) → bound_of cs ≡ BoundFound.bound_is v
    → ((k : ℕ) → (T (begins0x cs) → 1 ≤ k) → least ≤ k) → Bound least cs v
unfolding bound_of
bound_sound least cs v h m = go (numeral hexadecimal max_u16 (strip0x cs)) refl h
  where
    s : (k : ℕ) × (cs ≡ zero_xs k ++ strip0x cs) × (T (begins0x cs) → 1 ≤ k)
    s = strip_rest cs

    some_case : (c : ℕ) → numeral hexadecimal max_u16 (strip0x cs) ≡ some c → (x y : Bool) → eqb c byte_order_mark ≡ x → eqb c swapped_mark ≡ y
        → cond (x || y) (no_bound bound_mark) (BoundFound.bound_is (stands_for c)) ≡ BoundFound.bound_is v → Bound least cs v
    some_case c n true y ex ey h = none_bound h
    some_case c n false true ex ey h = none_bound h
    some_case c n false false ex ey h =
        record {
          times = s.0;
          numeral = strip0x cs;
          code = c;
          whole = s.1;
          enough = m s.0 s.2;
          number = numeral_sound hexadecimal max_u16 (strip0x cs) c n;
          no_mark = eqb-false c byte_order_mark ex;
          no_swap = eqb-false c swapped_mark ey;
          says = cc;
        }

    go : (o : Option ℕ) → numeral hexadecimal max_u16 (strip0x cs) ≡ o → checked_bound o ≡ BoundFound.bound_is v → Bound least cs v
    go none n h = none_bound h
    go (some c) n h = some_case c n (eqb c byte_order_mark) (eqb c swapped_mark) refl refl h

-- both bounds were read
edges : (x y : BoundFound) (names : List (List ℕ)) (l : Line) → from_bounds x y names ≡ found l
    → (lo hi : ℕ) × (x ≡ BoundFound.bound_is lo) × (y ≡ BoundFound.bound_is hi) × (l ≡ range lo hi names)
edges (no_bound n) y names l h = wrong_found h
edges (BoundFound.bound_is lo) (no_bound n) names l h = wrong_found h
edges (BoundFound.bound_is lo) (BoundFound.bound_is hi) names l h = (lo, hi, refl, refl, cc)

dots_0x : (a r : List ℕ) → T (begins0x (a ++ (dot ∷ dot ∷ r))) → T (begins0x a)
dots_0x [] r t = t
dots_0x (c ∷ []) r t = (and_yes (eqb c digit0) (eqb dot letter_x) t).1
dots_0x (c ∷ d ∷ a) r t = t

bounds_sound : (f : List ℕ) (names : List (List ℕ)) (l : Line) → T (begins0x f) → {ls : List (List ℕ)} → Cuts f ls
    → from_parts ls names ≡ found l → (lo hi : ℕ) × Bounds f lo hi × (l ≡ range lo hi names)
unfolding from_parts
bounds_sound f names l z (uncut n) h =
    let (lo, hi, x, y, e) = edges (bound_of f) (bound_of f) names l h in
    (lo, hi, one_bound (bound_sound 1 f lo x (λ k g. g z)) (cc), e)
bounds_sound f names l z (cut_at {l = a} r w m (uncut n)) h =
    let (lo, hi, x, y, e) = edges (bound_of a) (bound_of r) names l h in
    (lo, hi, two_bounds a r w (bound_sound 1 a lo x (λ k g. g (dots_0x a r (subst (λ s. T (begins0x s)) w z)))) (bound_sound 0 r hi y (λ k g. zero-le)), e)
bounds_sound f names l z (cut_at r w m (cut_at s v n (uncut o))) h = wrong_found h
bounds_sound f names l z (cut_at r w m (cut_at s v n (cut_at t u o d))) h = wrong_found h

-- ---- words and their gaps

names_sound : {r : List ℕ} {fs : List (List ℕ)} → Spread is_white r fs → T (nothing_or is_white r) → T (all (un is_hash) r)
    → (named after : List ℕ) × (r ≡ named ++ after) × Names named fs × T (all is_white after)
names_sound {r} (run a) g h = ([], r, refl, line.no_names refl, a)
names_sound {r} (word {f = f} w s e a n k q) g h =
    let h' : T (all (un is_hash) (w ++ (f ++ s))) = subst (λ x. T (all (un is_hash) x)) e h in
    let g' : T (nothing_or is_white (w ++ (f ++ s))) = subst (λ x. T (nothing_or is_white x)) e g in
    let fs_hash : T (all (un is_hash) (f ++ s)) = all_right (un is_hash) w (f ++ s) h' in
    let (named, after, e', ns, wa) = names_sound q k (all_right (un is_hash) f s fs_hash) in
    let regroup : w ++ (f ++ (named ++ after)) ≡ w ++ (f ++ named) ++ after = simp append_assoc in (
      w ++ (f ++ named),
      after,
      e ∙ ap (λ x. w ++ (f ++ x)) e' ∙ regroup,
      line.more_names w named refl (gap_full is_white w f s g' n a) (both_full (un is_white) (un is_hash) is_name_char name_char f n (all_left (un is_hash) f s fs_hash)) ns,
      wa,
    )

-- ---- a line, from its body

opening : (s : List ℕ) → T (not (begins_white s)) → T (nothing_or (un is_white) s)
opening [] t = tt
opening (c ∷ s) t = t

blank_sound : (cs : List ℕ) → Body cs [] → LineFits cs blank
blank_sound cs a =
    record {
      white = a.before ++ a.after;
      rest = a.rest;
      whole = a.whole ∙ sym (append_assoc a.before a.after a.rest);
      is_whites = all_append is_white a.before a.after a.white_before a.white_after;
      is_comment = a.is_comment;
    }

word_0x : (f r : List ℕ) → T (full (un is_white) f) → T (nothing_or is_white r) → T (begins0x (f ++ r)) → T (begins0x f)
word_0x [] r a g t = absurd a
word_0x (c ∷ []) [] a g t = t
word_0x (c ∷ []) (d ∷ r) a g t = clash (eqb d letter_x) (and_yes (eqb c digit0) (eqb d letter_x) t).1 (white_no_x d g)
word_0x (c ∷ d ∷ f) r a g t = t

range_sound : (cs core : List ℕ) (l : Line) → Body cs core → T (begins0x core) → {fs : List (List ℕ)} → Spread is_white core fs
    → range_of fs ≡ found l → LineFits cs l
unfolding range_of
range_sound cs core l a z (run q) h = wrong_found h
range_sound cs core l a z (word {f = f} {fs = fs} w r e aw n k q) h =
    let w0 : w ≡ [] = gap_none is_white is_white (λ c t. t) w (f ++ r) (subst (λ x. T (nothing_or (un is_white) x)) e (opening core a.opens)) aw in
    let e0 : core ≡ f ++ r = e ∙ ap (λ x. x ++ (f ++ r)) w0 in
    let z0 : T (begins0x f) = word_0x f r n k (subst (λ x. T (begins0x x)) e0 z) in
    let nh : T (all (un is_hash) r) = all_right (un is_hash) f r (subst (λ x. T (all (un is_hash) x)) e0 a.no_hash) in
    let (named, after, e₁, ns, wa) = names_sound q k nh in
    let (lo, hi, bs, el) = bounds_sound f fs l z0 (parts_cuts f) h in
    let regroup : a.before ++ (f ++ (named ++ after) ++ (a.after ++ a.rest)) ≡ a.before ++ (f ++ (named ++ (after ++ a.after ++ a.rest))) = simp append_assoc in
    let fits : LineFits cs (range lo hi fs) =
    record {
      before = a.before;
      bounds = f;
      named = named;
      after = after ++ a.after;
      rest = a.rest;
      whole = a.whole ∙ ap (λ x. a.before ++ (x ++ (a.after ++ a.rest))) (e0 ∙ ap (λ x. f ++ x) e₁) ∙ regroup;
      white_before = a.white_before;
      bounded = bs;
      names_in = ns;
      white_after = all_append is_white after a.after wa a.white_after;
      is_comment = a.is_comment;
    } in
    rw el fits

numbers : (name : List ℕ) (x y z : Option ℕ) (l : Line) → from_numbers name x y z ≡ found l
    → (i g n : ℕ) × (x ≡ some i) × (y ≡ some g) × (z ≡ some n) × (l ≡ category name (eqb i 1) (eqb g 1) n)
numbers name none y z l h = wrong_found h
numbers name (some i) none z l h = wrong_found h
numbers name (some i) (some g) none l h = wrong_found h
numbers name (some i) (some g) (some n) l h = (i, g, n, refl, refl, refl, cc)

begins_left : (s t : List ℕ) → T (begins0x s) → T (begins0x (s ++ t))
begins_left [] t z = absurd z
begins_left (c ∷ []) t z = absurd z
begins_left (c ∷ d ∷ s) t z = z

opens_name : (s t : List ℕ) → T (full (un is_sep) s) → T (nothing_or (un is_white) (s ++ t)) → T (not (begins_white s))
opens_name [] t a g = absurd a
opens_name (c ∷ s) t a g = g

category_sound : (cs core : List ℕ) (l : Line) → Body cs core → T (not (begins0x core)) → {fs : List (List ℕ)} → Spread is_sep core fs
    → category_of fs ≡ found l → LineFits cs l
unfolding category_of
category_sound cs core l a z (run q) h = wrong_found h
category_sound cs core l a z (word w r e aw n k (run q)) h = wrong_found h
category_sound cs core l a z (word w r e aw n k (word w₁ r₁ e₁ aw₁ n₁ k₁ (run q))) h = wrong_found h
category_sound cs core l a z (word w r e aw n k (word w₁ r₁ e₁ aw₁ n₁ k₁ (word w₂ r₂ e₂ aw₂ n₂ k₂ (run q)))) h = wrong_found h
category_sound cs core l a z (word {f = f} w r e aw n k (word {f = f₁} w₁ r₁ e₁ aw₁ n₁ k₁ (word {f = f₂} w₂ r₂ e₂ aw₂ n₂ k₂ (word {f = f₃} w₃ r₃ e₃ aw₃ n₃ k₃ (run q))))) h =
    let w0 : w ≡ [] = gap_none is_sep is_white sep_white w (f ++ r) (subst (λ x. T (nothing_or (un is_white) x)) e (opening core a.opens)) aw in
    let e0 : core ≡ f ++ r = e ∙ ap (λ x. x ++ (f ++ r)) w0 in
    let (i, g, len, hi, hg, hl, el) = numbers f (numeral decimal max_u32 f₁) (numeral decimal max_u32 f₂) (numeral decimal max_u32 f₃) l h in
    let deep : core ≡ f ++ (w₁ ++ (f₁ ++ (w₂ ++ (f₂ ++ (w₃ ++ (f₃ ++ r₃)))))) =
    e0 ∙ ap (λ x. f ++ x) (e₁ ∙ ap (λ x. w₁ ++ (f₁ ++ x)) (e₂ ∙ ap (λ x. w₂ ++ (f₂ ++ x)) e₃)) in
    let regroup : a.before ++ (f ++ (w₁ ++ (f₁ ++ (w₂ ++ (f₂ ++ (w₃ ++ (f₃ ++ r₃)))))) ++ (a.after ++ a.rest))
    ≡ a.before ++ (f ++ (w₁ ++ (f₁ ++ (w₂ ++ (f₂ ++ (w₃ ++ (f₃ ++ (r₃ ++ a.after ++ a.rest)))))))) = simp append_assoc in
    let fits : LineFits cs (category f (eqb i 1) (eqb g 1) len) =
    record {
      before = a.before;
      gap₁ = w₁;
      field₁ = f₁;
      gap₂ = w₂;
      field₂ = f₂;
      gap₃ = w₃;
      field₃ = f₃;
      after = r₃ ++ a.after;
      rest = a.rest;
      whole = a.whole ∙ ap (λ x. a.before ++ (x ++ (a.after ++ a.rest))) deep ∙ regroup;
      white_before = a.white_before;
      name_chars = both_full (un is_sep) (un is_hash) is_field_char field_char f n (all_left (un is_hash) f r (subst (λ x. T (all (un is_hash) x)) e0 a.no_hash));
      name_opens = opens_name f r n (subst (λ x. T (nothing_or (un is_white) x)) e0 (opening core a.opens));
      name_no0x = not_T (begins0x f) (λ t. T_not (begins0x (f ++ r)) (begins_left f r t) (subst (λ x. T (not (begins0x x))) e0 z));
      sep₁ = gap_full is_sep w₁ f₁ r₁ (subst (λ x. T (nothing_or is_sep x)) e₁ k) n₁ aw₁;
      invokes = record { number = i; spelled = numeral_sound decimal max_u32 f₁ i hi; says = refl };
      sep₂ = gap_full is_sep w₂ f₂ r₂ (subst (λ x. T (nothing_or is_sep x)) e₂ k₁) n₂ aw₂;
      groups = record { number = g; spelled = numeral_sound decimal max_u32 f₂ g hg; says = refl };
      sep₃ = gap_full is_sep w₃ f₃ r₃ (subst (λ x. T (nothing_or is_sep x)) e₃ k₂) n₃ aw₃;
      lengths = numeral_sound decimal max_u32 f₃ len hl;
      white_after = all_append is_white r₃ a.after (all_imp is_sep is_white sep_white r₃ q) a.white_after;
      is_comment = a.is_comment;
    } in
    rw el fits
category_sound cs core l a z (word w r e aw n k (word w₁ r₁ e₁ aw₁ n₁ k₁ (word w₂ r₂ e₂ aw₂ n₂ k₂ (word w₃ r₃ e₃ aw₃ n₃ k₃ (word w₄ r₄ e₄ aw₄ n₄ k₄ q))))) h = wrong_found h

body_sound : (cs core : List ℕ) (l : Line) → Body cs core → body_line core ≡ found l → LineFits cs l
unfolding body_line
body_sound cs [] l a h = let e : l ≡ blank = cc in rw e (blank_sound cs a)
body_sound cs (c ∷ core) l a h = step (begins0x (c ∷ core)) refl h
  where
    step : (b : Bool) → begins0x (c ∷ core) ≡ b → cond b (range_of (words is_white (c ∷ core))) (category_of (words is_sep (c ∷ core))) ≡ found l → LineFits cs l
    step true e h = range_sound cs (c ∷ core) l a (true→T _ e) (words_spread is_white (c ∷ core)) h
    step false e h = category_sound cs (c ∷ core) l a (false→T _ e) (words_spread is_sep (c ∷ core)) h

-- what is read as a line is said by its characters
pub line_sound : (cs : List ℕ) (l : Line) → line_of cs ≡ found l → LineFits cs l
unfolding line_of
line_sound cs l h = let (core, b) = has_body cs in body_sound cs core l b (ap body_line (sym (body_is cs core b)) ∙ h)
