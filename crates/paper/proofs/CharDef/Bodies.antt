-- Every line has one body, the one computed; and its fields are the words computed. A body is found from the right, character by
-- character, and what stands around it is then taken off again by the steps of the reader.
-- Assumes nothing.
use Prim.Native.Nat.{ℕ}
use mathlib.Core.Path.{◌≡◌, refl, sym, ap, ◌∙◌, subst}
use mathlib.Core.Bool.{Bool, true, false, not}
use mathlib.Core.List.{List, [], ◌∷◌, ◌++◌, append_assoc, append-nil}
use lib.Dec.{T}
use mir.Facts.{and_yes, yes_and, T_not}
use Rattle.paper.specs.Lists.{all, full, nothing_or, words, until, trim_start, trim_end}
use Rattle.paper.specs.Text.Scalar.{is_white}
use Rattle.paper.specs.CharDef.Line.{is_hash}
use Rattle.paper.specs.CharDef.BadLine.{ends_white, Body, Fields, last_field, more_fields}
use Rattle.paper.specs.Computed.ReadText.{body}
use Rattle.paper.proofs.Lists.Facts.{true→T, all_append, full_all, all_imp, un, until_append, trim_start_append, trim_end_append, words_word, words_run, false→T}
use Rattle.paper.proofs.Lists.Pieces.{Spread, run, word, words_spread, gap_full, full_opens}
use Rattle.paper.proofs.CharDef.Chars.{white_no_hash}

-- ---- ends

ends_append : (s : List ℕ) (d : ℕ) (t : List ℕ) → ends_white (s ++ (d ∷ t)) ≡ ends_white (d ∷ t)
ends_append [] d t = refl
ends_append (c ∷ []) d t = refl
ends_append (c ∷ e ∷ s) d t = ends_append (e ∷ s) d t

ends_run : (c : ℕ) (s : List ℕ) → T (all is_white (c ∷ s)) → T (ends_white (c ∷ s))
ends_run c [] a = (and_yes (is_white c) true a).0
ends_run c (d ∷ s) a = ends_run d s (and_yes (is_white c) (all is_white (d ∷ s)) a).1

last_solid : (c : ℕ) (s : List ℕ) → T (not (ends_white (c ∷ s))) → (front : List ℕ) × (end : ℕ) × (c ∷ s ≡ front ++ (end ∷ [])) × T (un is_white end)
last_solid c [] t = ([], c, refl, t)
last_solid c (d ∷ s) t =
    let (front, end, e, u) = last_solid d s t in
    (c ∷ front, end, ap (λ l. c ∷ l) e, u)

-- ---- the body

pub has_body : (cs : List ℕ) → (core : List ℕ) × Body cs core
has_body [] =
    ([], record { before = []; after = []; rest = []; whole = refl; white_before = tt; no_hash = tt; opens = tt; closes = tt; white_after = tt; is_comment = tt })
has_body (c ∷ cs) = step (is_hash c) (is_white c) refl refl (has_body cs)
  where
    step : (h w : Bool) → is_hash c ≡ h → is_white c ≡ w → (core : List ℕ) × Body cs core → (core : List ℕ) × Body (c ∷ cs) core
    step true w eh ew (core, b) =
        ([], record { before = []; after = []; rest = c ∷ cs; whole = refl; white_before = tt; no_hash = tt; opens = tt; closes = tt; white_after = tt; is_comment = true→T _ eh })
    step false true eh ew (core, b) = (
      core,
      record {
        before = c ∷ b.before;
        after = b.after;
        rest = b.rest;
        whole = ap (λ l. c ∷ l) b.whole;
        white_before = yes_and (is_white c) (all is_white b.before) (true→T _ ew) b.white_before;
        no_hash = b.no_hash;
        opens = b.opens;
        closes = b.closes;
        white_after = b.white_after;
        is_comment = b.is_comment;
      },
    )
    step false false eh ew ([], b) = (
      c ∷ [],
      record {
        before = [];
        after = b.before ++ b.after;
        rest = b.rest;
        whole = ap (λ l. c ∷ l) (b.whole ∙ sym (append_assoc b.before b.after b.rest));
        white_before = tt;
        no_hash = yes_and (un is_hash c) true (false→T _ eh) tt;
        opens = false→T _ ew;
        closes = false→T _ ew;
        white_after = all_append is_white b.before b.after b.white_before b.white_after;
        is_comment = b.is_comment;
      },
    )
    step false false eh ew (d ∷ core, b) = (
      c ∷ (b.before ++ (d ∷ core)),
      record {
        before = [];
        after = b.after;
        rest = b.rest;
        whole = ap (λ l. c ∷ l) (b.whole ∙ sym (append_assoc b.before (d ∷ core) (b.after ++ b.rest)));
        white_before = tt;
        no_hash = yes_and (un is_hash c) _ (false→T _ eh)
            (all_append (un is_hash) b.before (d ∷ core) (all_imp is_white (un is_hash) white_no_hash b.before b.white_before) b.no_hash);
        opens = false→T _ ew;
        closes = subst (λ x. T (not x)) (sym (ends_append (c ∷ b.before) d core)) b.closes;
        white_after = b.white_after;
        is_comment = b.is_comment;
      },
    )

before_comment : (cs core : List ℕ) (b : Body cs core) → until is_hash cs ≡ b.before ++ (core ++ b.after)
before_comment cs core b =
    let regroup : b.before ++ (core ++ (b.after ++ b.rest)) ≡ b.before ++ (core ++ b.after) ++ b.rest = simp append_assoc in
    ap (until is_hash) (b.whole ∙ regroup)
    ∙ until_append is_hash (b.before ++ (core ++ b.after)) b.rest
    (all_append (un is_hash) b.before (core ++ b.after) (all_imp is_white (un is_hash) white_no_hash b.before b.white_before)
    (all_append (un is_hash) core b.after b.no_hash (all_imp is_white (un is_hash) white_no_hash b.after b.white_after)))
    b.is_comment

pub body_is : (cs core : List ℕ) → Body cs core → body cs ≡ core
unfolding body
body_is cs [] b =
    ap (λ l. trim_end is_white (trim_start is_white l)) (before_comment cs [] b)
    ∙ ap (λ l. trim_end is_white (trim_start is_white l)) (sym (append-nil (b.before ++ b.after)))
    ∙ ap (trim_end is_white) (trim_start_append is_white (b.before ++ b.after) [] (all_append is_white b.before b.after b.white_before b.white_after) tt)
body_is cs (c ∷ core) b =
    let (front, end, e, u) = last_solid c core b.closes in
    let regroup : (c ∷ core) ++ b.after ≡ front ++ ((end ∷ []) ++ b.after) = ap (λ l. l ++ b.after) e ∙ append_assoc front (end ∷ []) b.after in
    ap (λ l. trim_end is_white (trim_start is_white l)) (before_comment cs (c ∷ core) b)
    ∙ ap (trim_end is_white) (trim_start_append is_white b.before ((c ∷ core) ++ b.after) b.white_before b.opens)
    ∙ ap (trim_end is_white) regroup
    ∙ trim_end_append is_white front (end ∷ []) b.after (yes_and (un is_white end) true u tt) b.white_after
    ∙ sym e

-- ---- fields

module _ (p : ℕ → Bool) where
  pub fields_words : {cs : List ℕ} {fields : List (List ℕ)} → Fields p cs fields → words p cs ≡ fields
  fields_words {cs} (last_field f) = ap (words p) (sym (append-nil cs)) ∙ words_word p cs [] f tt
  fields_words (more_fields {field = field} gap rest e f g q) =
      ap (words p) e
      ∙ words_word p field (gap ++ rest) f (full_opens p gap rest g)
      ∙ ap (λ l. field ∷ l) (words_run p gap rest (full_all p gap g) ∙ fields_words q)

  module _ (is_white_lem : (c : ℕ) → T (p c) → T (is_white c)) where
    closes_right : (s f r : List ℕ) → T (full (un p) f) → T (not (ends_white (s ++ (f ++ r)))) → T (not (ends_white (f ++ r)))
    closes_right s [] r a t = absurd a
    closes_right s (c ∷ f) r a t = subst (λ x. T (not x)) (ends_append s c (f ++ r)) t

    field_then : (f : List ℕ) {r : List ℕ} {fs : List (List ℕ)} → Spread p r fs → T (nothing_or p r) → T (full (un p) f) → T (not (ends_white (f ++ r)))
        → Fields p (f ++ r) (f ∷ fs)
    field_then f {r = []} (run a) k n t = rw (append-nil f) (last_field n)
    field_then f {r = c ∷ r} (run a) k n t =
        absurd (T_not (ends_white (c ∷ r)) (ends_run c r (all_imp p is_white is_white_lem (c ∷ r) a)) (subst (λ x. T (not x)) (ends_append f c r) t))
    field_then f (word {f = g} w r e a m j q) k n t =
        let t' = subst (λ x. T (not (ends_white (f ++ x)))) e t in
        more_fields w (g ++ r) (ap (λ x. f ++ x) e) n (gap_full p w g r (subst (λ x. T (nothing_or p x)) e k) m a)
        (field_then g q j m (closes_right (f ++ w) g r m (subst (λ x. T (not (ends_white x))) (sym (append_assoc f w (g ++ r))) t')))

    pub has_fields : (c : ℕ) (s : List ℕ) → T (not (is_white c)) → T (not (ends_white (c ∷ s))) → Fields p (c ∷ s) (words p (c ∷ s))
    has_fields c s o t = go (words_spread p (c ∷ s))
      where
        never : {X : Type 0} → T (p c) → X
        never h = absurd (T_not (is_white c) (is_white_lem c h) o)

        go : {fs : List (List ℕ)} → Spread p (c ∷ s) fs → Fields p (c ∷ s) fs
        go (run a) = never (and_yes (p c) (all p s) a).0
        go (word {f = f} [] r e a n k q) = rw e (field_then f q k n (subst (λ x. T (not (ends_white x))) e t))
        go (word (d ∷ w) r e a n k q) =
            let i : d ≡ c = cc in
            never (subst (λ x. T (p x)) i (and_yes (p d) (all p w) a).0)
