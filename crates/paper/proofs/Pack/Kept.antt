-- A reading that fits a text keeps the rules of a pack.
-- Assumes nothing.
use Prim.Native.Nat.{ℕ, ◌+◌, ◌<◌, ◌≤◌}
use native.Mathlib.Omega.{arith}
use mathlib.Core.Path.{◌≡◌, refl, sym, subst}
use mathlib.Core.Logic.{◌≢◌}
use mathlib.Core.Bool.{Bool, true, false, not, cond, ◌&&◌, ◌||◌}
use mathlib.Core.List.{List, [], ◌∷◌, ◌++◌, map}
use lib.Dec.{T, leb, ltb, eqb, eqb→eq}
use mir.Facts.{and_yes, yes_and, T_not, not_T, yes_leb, yes_ltb}
use Rattle.paper.specs.Sizes.{max_u32, max_u16}
use Rattle.paper.specs.Lists.{all, full, any, joined, fresh_after, first_seen, same}
use Rattle.paper.specs.Text.Scalar.{lf, between, is_scalar, utf8_of, utf8, WellFormed, byte_order_mark, swapped_mark, replacement, first_surrogate, last_surrogate}
use Rattle.paper.specs.CharDef.Line.{Line, blank, category, range, stands_for, Bound, Bounds, one_bound, two_bounds, Names, no_names, more_names, is_name_char, is_field_char, LineFits}
use Rattle.paper.specs.CharDef.Reading.{Reading, names_of, definitions_of, ranges_of, reading_of, Within, join_lf, EachFits, done, next, Fits, accepted}
use Rattle.paper.specs.Pack.Fields.{pack_bytes}
use Rattle.paper.specs.Pack.Rules.{has_bytes, once_after, is_bound, bounded, sized, PackRules}
use Rattle.paper.specs.Computed.Decode.{decode}
use Rattle.paper.specs.Computed.ReadPack.{read_pack}
use Rattle.paper.specs.Computed.ReadText.{read_text}
use Rattle.paper.specs.Computed.Rules.{is_text, formed}
use Rattle.paper.proofs.Lists.Facts.{all_append, all_imp, false→T, all_left, all_right}
use Rattle.paper.proofs.Text.Code.{decode_complete}
use Rattle.paper.proofs.CharDef.Accepts.{accepted_fits}
use Rattle.paper.proofs.Pack.Size.{reading_numbered}
use Rattle.paper.proofs.Pack.Trip.{write_read}
use Rattle.paper.proofs.Pack.Rules.{formed_is, all_each}

-- ---- first sights

-- fewer names before leave fewer to equal
once_fewer : (b c l : List (List ℕ)) → ((n : List ℕ) → T (any (same n) b) → T (any (same n) c)) → T (once_after c l) → T (once_after b l)
once_fewer b c [] f t = tt
once_fewer b c (n ∷ l) f t =
    let h = and_yes (not (any (same n) c)) (once_after (n ∷ c) l) t in
    yes_and (not (any (same n) b)) (once_after (n ∷ b) l)
    (not_T (any (same n) b) (λ u. T_not (any (same n) c) (f n u) h.0))
    (once_fewer (n ∷ b) (n ∷ c) l (λ m u. both m (same m n) u) h.1)
  where
    both : (m : List ℕ) (x : Bool) → T (x || any (same m) b) → T (x || any (same m) c)
    both m true u = tt
    both m false u = f m u

fresh_once : (before xs : List (List ℕ)) → T (once_after before (fresh_after same before xs))
fresh_once before [] = tt
fresh_once before (x ∷ xs) = go (any (same x) before) refl (fresh_once (x ∷ before) xs)
  where
    F : List (List ℕ)
    F = fresh_after same (x ∷ before) xs

    front : (m : List ℕ) (b : Bool) → T (any (same m) before) → T (b || any (same m) before)
    front m true u = tt
    front m false u = u

    go : (b : Bool) → any (same x) before ≡ b → T (once_after (x ∷ before) F) → T (once_after before (cond b F (x ∷ F)))
    go true e t = once_fewer before (x ∷ before) F (λ m u. front m (same m x) u) t
    go false e t = yes_and (not (any (same x) before)) (once_after (x ∷ before) F) (false→T _ e) t

fresh_keeps : (p : List ℕ → Bool) (before xs : List (List ℕ)) → T (all p xs) → T (all p (fresh_after same before xs))
fresh_keeps p before [] t = tt
fresh_keeps p before (x ∷ xs) t =
    let h = and_yes (p x) (all p xs) t in
    go (any (same x) before) h.0 (fresh_keeps p (x ∷ before) xs h.1)
  where
    F : List (List ℕ)
    F = fresh_after same (x ∷ before) xs

    go : (b : Bool) → T (p x) → T (all p F) → T (all p (cond b F (x ∷ F)))
    go true a d = d
    go false a d = yes_and (p x) (all p F) a d

-- ---- names

cond_some : (b : Bool) (k l s : List ℕ) → T (has_bytes (k ++ s)) → T (has_bytes (l ++ s)) → T (has_bytes (cond b k l ++ s))
cond_some true k l s t u = t
cond_some false k l s t u = u

utf8_some : (c : ℕ) (s : List ℕ) → T (has_bytes (utf8_of c ++ s))
unfolding utf8_of
utf8_some c s = cond_some (leb c 0x7F) _ _ s tt (cond_some (leb c 0x7FF) _ _ s tt (cond_some (leb c 0xFFFF) _ _ s tt tt))

-- a word of the text, as bytes
good : List ℕ → Bool
good n = has_bytes n && formed n

word_good : (w : List ℕ) → T (has_bytes w) → T (all is_scalar w) → T (good (utf8 w))
unfolding good formed utf8 decode
word_good [] t a = absurd t
word_good (c ∷ w) t a =
    yes_and (has_bytes (utf8_of c ++ utf8 w)) (formed (utf8 (c ∷ w))) (utf8_some c (utf8 w))
    (subst (λ o. T (is_text o)) (sym (decode_complete (c ∷ w) 0 a)) tt)

full_some : (p : ℕ → Bool) (w : List ℕ) → T (full p w) → T (has_bytes w)
full_some p [] t = t
full_some p (c ∷ w) t = tt

names_good : {cs : List ℕ} {ns : List (List ℕ)} → Names cs ns → T (all is_scalar cs) → T (all good (map utf8 ns))
names_good (no_names e) a = tt
names_good (more_names {name = n} {names = ns} white rest e w f q) a =
    let b = all_right is_scalar white (n ++ rest) (subst (λ l. T (all is_scalar l)) e a) in
    yes_and (good (utf8 n)) (all good (map utf8 ns)) (word_good n (full_some is_name_char n f) (all_left is_scalar n rest b)) (names_good q (all_right is_scalar n rest b))

line_names : (cs : List ℕ) (l : Line) → LineFits cs l → T (all is_scalar cs) → T (all good (names_of l))
unfolding names_of
line_names cs blank f a = tt
line_names cs (category name i g n) f a =
    let b = all_right is_scalar f.before _ (subst (λ l. T (all is_scalar l)) f.whole a) in
    yes_and (good (utf8 name)) true (word_good name (full_some is_field_char name f.name_chars) (all_left is_scalar name _ b)) tt
line_names cs (range lower upper names) f a =
    let b = all_right is_scalar f.before _ (subst (λ l. T (all is_scalar l)) f.whole a) in
    let c = all_right is_scalar f.bounds _ b in
    names_good f.names_in (all_left is_scalar f.named _ c)

-- ---- definitions and bounds

line_sized : (cs : List ℕ) (l : Line) → LineFits cs l → T (all is_scalar cs) → T (all sized (definitions_of l))
unfolding definitions_of
line_sized cs blank f a = tt
line_sized cs (category name i g n) f a =
    let h : n ≤ max_u32 = f.lengths.fits in
    let k : n < max_u32 + 1 = omega arith in
    yes_and (ltb n (max_u32 + 1)) true (yes_ltb k) tt
line_sized cs (range lower upper names) f a = tt

stands_bound : (c : ℕ) → c ≤ max_u16 → c ≢ byte_order_mark → c ≢ swapped_mark → T (is_bound (stands_for c))
unfolding stands_for is_bound
stands_bound c h m s = go (between first_surrogate last_surrogate c) refl
  where
    go : (b : Bool) → between first_surrogate last_surrogate c ≡ b → T (is_bound (cond b replacement c))
    go true e = tt
    go false e =
        yes_and (leb c max_u16 && not (between first_surrogate last_surrogate c) && not (eqb c byte_order_mark)) (not (eqb c swapped_mark))
        (yes_and (leb c max_u16 && not (between first_surrogate last_surrogate c)) (not (eqb c byte_order_mark))
        (yes_and (leb c max_u16) (not (between first_surrogate last_surrogate c)) (yes_leb h) (false→T _ e))
        (not_T (eqb c byte_order_mark) (λ u. m (eqb→eq c byte_order_mark u))))
        (not_T (eqb c swapped_mark) (λ u. s (eqb→eq c swapped_mark u)))

bound_good : {least : ℕ} {cs : List ℕ} {b : ℕ} → Bound least cs b → T (is_bound b)
bound_good f = subst (λ b. T (is_bound b)) (sym f.says) (stands_bound f.code f.number.fits f.no_mark f.no_swap)

bounds_good : {cs : List ℕ} {lower upper : ℕ} → Bounds cs lower upper → T (is_bound lower) × T (is_bound upper)
bounds_good (one_bound f e) = (bound_good f, subst (λ b. T (is_bound b)) (sym e) (bound_good f))
bounds_good (two_bounds left right e f g) = (bound_good f, bound_good g)

line_bounded : (ns : List (List ℕ)) (cs : List ℕ) (l : Line) → LineFits cs l → T (all is_scalar cs) → T (all bounded (ranges_of ns l))
unfolding ranges_of bounded
line_bounded ns cs blank f a = tt
line_bounded ns cs (category name i g n) f a = tt
line_bounded ns cs (range lower upper names) f a =
    let (l, u) = bounds_good f.bounded in
    yes_and (is_bound lower && is_bound upper) true (yes_and (is_bound lower) (is_bound upper) l u) tt

-- ---- all lines

lines_all : {A : Type 0} (p : A → Bool) (f : Line → List A) → ((cs : List ℕ) (l : Line) → LineFits cs l → T (all is_scalar cs) → T (all p (f l)))
    → {css : List (List ℕ)} {ls : List Line} → EachFits css ls → T (all (all is_scalar) css) → T (all p (joined (map f ls)))
lines_all p f g done a = tt
lines_all p f g (next {cs = cs} {l = l} {css = css} {ls = ls} h t) a =
    let b = and_yes (all is_scalar cs) (all (all is_scalar) css) a in
    all_append p (f l) (joined (map f ls)) (g cs l h b.0) (lines_all p f g t b.1)

split_scalars : (texts : List (List ℕ)) → T (all is_scalar (join_lf texts)) → T (all (all is_scalar) texts)
split_scalars [] a = tt
split_scalars (l ∷ []) a = yes_and (all is_scalar l) true a tt
split_scalars (l ∷ m ∷ ls) a =
    yes_and (all is_scalar l) (all (all is_scalar) (m ∷ ls)) (all_left is_scalar l (lf ∷ join_lf (m ∷ ls)) a)
    (split_scalars (m ∷ ls) (and_yes (is_scalar lf) _ (all_right is_scalar l (lf ∷ join_lf (m ∷ ls)) a)).1)

lines_rules : (css : List (List ℕ)) (ls : List Line) → EachFits css ls → T (all (all is_scalar) css) → Within (reading_of ls) → PackRules (reading_of ls)
unfolding reading_of good
lines_rules css ls each a w =
    let spoken : List (List ℕ) = joined (map names_of ls) in
    let g : T (all good spoken) = lines_all good names_of line_names each a in
    let s : T (all has_bytes (first_seen same spoken)) = fresh_keeps has_bytes [] spoken (all_imp good has_bytes (λ n t. (and_yes (has_bytes n) (formed n) t).0) spoken g) in
    let f : T (all formed (first_seen same spoken)) = fresh_keeps formed [] spoken (all_imp good formed (λ n t. (and_yes (has_bytes n) (formed n) t).1) spoken g) in
    record {
      limits = w;
      names_some = s;
      names_formed = all_each WellFormed formed formed_is (first_seen same spoken) f;
      names_once = fresh_once [] spoken;
      lengths = lines_all sized definitions_of line_sized each a;
      bounds = lines_all bounded (ranges_of (first_seen same spoken)) (line_bounded (first_seen same spoken)) each a;
      known = reading_numbered ls;
    }

pub fits_rules : (bytes : List ℕ) (r : Reading) → Fits bytes r → PackRules r
fits_rules bytes r f =
    subst PackRules (sym f.says)
    (lines_rules f.texts f.lines f.each (split_scalars f.texts (subst (λ l. T (all is_scalar l)) f.split f.scalars)) (subst Within f.says f.within))

pub accepted_rules : (bytes : List ℕ) (r : Reading) → read_text bytes ≡ accepted r → PackRules r
accepted_rules bytes r h = fits_rules bytes r (accepted_fits bytes r h)

-- so the pack of an accepted text's reading brings the reading back
pub text_pack : (bytes : List ℕ) (r : Reading) → read_text bytes ≡ accepted r → read_pack (pack_bytes r) ≡ accepted r
text_pack bytes r h = write_read r (accepted_rules bytes r h)
