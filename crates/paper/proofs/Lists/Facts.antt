-- Facts on tests and on cuts of lists, over any test.
-- Assumes nothing.
use Prim.Native.Nat.{ℕ, zero, suc, ◌<◌, ◌+◌}
use native.Mathlib.Nat.{not-suc-le-zero, add_assoc}
use native.Mathlib.Omega.{arith}
use native.Mathlib.Decide.{ℕ_discrete}
use mathlib.Core.Path.{◌≡◌, refl, sym, ap, ◌∙◌, subst}
use mathlib.Core.Bool.{Bool, true, false, not, cond, ◌&&◌, ◌||◌}
use mathlib.Core.List.{List, [], ◌∷◌, ◌++◌, map, append_assoc, append-nil}
use lib.Dec.{T, eqb, eqb→eq}
use lib.ListN.{length, length-append}
use mir.Facts.{and_yes, yes_and, not_T}
use Rattle.paper.specs.Lists.{empty, all, full, nothing_or, push, cut, words, until, trim_start, trim_end, any, joined, sum, offsets_from}

pub T→true : (b : Bool) → T b → b ≡ true
T→true true t = refl
T→true false t = absurd t

pub T→false : (b : Bool) → T (not b) → b ≡ false
T→false true t = absurd t
T→false false t = refl

pub true→T : (b : Bool) → b ≡ true → T b
true→T true e = tt
true→T false e = subst T (sym e) tt

pub false→T : (b : Bool) → b ≡ false → T (not b)
false→T true e = subst (λ b. T (not b)) (sym e) tt
false→T false e = tt

pub or_true : (b : Bool) → (b || true) ≡ true
or_true true = refl
or_true false = refl

pub and_false : (b : Bool) → (b && false) ≡ false
and_false true = refl
and_false false = refl

pub or_left : (a b : Bool) → T a → T (a || b)
or_left true b t = tt
or_left false b t = absurd t

pub or_right : (a b : Bool) → T b → T (a || b)
or_right true b t = tt
or_right false b t = t

-- a test that k fails holds of no character that equals k
pub apart : (p : ℕ → Bool) (k : ℕ) → p k ≡ false → (c : ℕ) → T (p c) → T (not (eqb c k))
apart p k e c t = not_T (eqb c k) (λ h. subst T (ap p (eqb→eq c k h) ∙ e) t)

-- a test of all numbers below n
abbrev pub below : (ℕ → Bool) → ℕ → Bool
below p zero = true
below p (suc n) = p n && below p n

pub from_below : (p : ℕ → Bool) (n : ℕ) → T (below p n) → (c : ℕ) → c < n → T (p c)
from_below p zero t c h = absurd (not-suc-le-zero h)
from_below p (suc n) t c h =
    let both = and_yes (p n) (below p n) t in
    elim (ℕ_discrete c n) [
      | yes e ↦ subst (λ k. T (p k)) (sym e) both.0
      | no d ↦ from_below p n both.1 c (omega arith)
    ]

module _ {A : Type 0} (p : A → Bool) where
  pub all_append : (s t : List A) → T (all p s) → T (all p t) → T (all p (s ++ t))
  all_append [] t a b = b
  all_append (x ∷ s) t a b =
      let h = and_yes (p x) (all p s) a in
      yes_and (p x) (all p (s ++ t)) h.0 (all_append s t h.1 b)

  pub all_left : (s t : List A) → T (all p (s ++ t)) → T (all p s)
  all_left [] t a = tt
  all_left (x ∷ s) t a = let h = and_yes (p x) (all p (s ++ t)) a in yes_and (p x) (all p s) h.0 (all_left s t h.1)

  pub all_right : (s t : List A) → T (all p (s ++ t)) → T (all p t)
  all_right [] t a = a
  all_right (x ∷ s) t a = all_right s t (and_yes (p x) (all p (s ++ t)) a).1

  pub any_append : (s t : List A) → any p (s ++ t) ≡ (any p s || any p t)
  any_append [] t = refl
  any_append (x ∷ s) t = go (p x) (any_append s t)
    where
      go : (b : Bool) → any p (s ++ t) ≡ (any p s || any p t) → (b || any p (s ++ t)) ≡ (b || any p s || any p t)
      go true ih = refl
      go false ih = ih

  pub full_all : (s : List A) → T (full p s) → T (all p s)
  full_all [] a = absurd a
  full_all (x ∷ s) a = a

  pub all_imp : (q : A → Bool) → ((c : A) → T (p c) → T (q c)) → (s : List A) → T (all p s) → T (all q s)
  all_imp q f [] a = tt
  all_imp q f (x ∷ s) a =
      let h = and_yes (p x) (all p s) a in
      yes_and (q x) (all q s) (f x h.0) (all_imp q f s h.1)

  pub full_imp : (q : A → Bool) → ((c : A) → T (p c) → T (q c)) → (s : List A) → T (full p s) → T (full q s)
  full_imp q f [] a = absurd a
  full_imp q f (x ∷ s) a = all_imp q f (x ∷ s) a

  abbrev pub un : A → Bool
  un c = not (p c)

  -- up to a comment
  pub until_append : (s r : List A) → T (all un s) → T (nothing_or p r) → until p (s ++ r) ≡ s
  until_append [] [] a e = refl
  until_append [] (x ∷ r) a e = rw (T→true (p x) e)
  until_append (x ∷ s) r a e =
      let h = and_yes (un x) (all un s) a in
      rw (T→false (p x) h.0, until_append s r h.1 e)

  -- what stands behind a run
  pub trim_start_append : (s r : List A) → T (all p s) → T (nothing_or un r) → trim_start p (s ++ r) ≡ r
  trim_start_append [] [] a e = refl
  trim_start_append [] (x ∷ r) a e = rw (T→false (p x) e)
  trim_start_append (x ∷ s) r a e =
      let h = and_yes (p x) (all p s) a in
      rw (T→true (p x) h.0) (trim_start_append s r h.1 e)

  pub trim_end_run : (s : List A) → T (all p s) → trim_end p s ≡ []
  trim_end_run [] a = refl
  trim_end_run (x ∷ s) a =
      let h = and_yes (p x) (all p s) a in
      rw (T→true (p x) h.0, trim_end_run s h.1)

  -- what stands before a run
  pub trim_end_solid : (y w : List A) → T (full un y) → T (all p w) → trim_end p (y ++ w) ≡ y
  trim_end_solid [] w a b = absurd a
  trim_end_solid (x ∷ []) w a b =
      rw (T→false (p x) (and_yes (un x) true a).0, trim_end_run w b)
  trim_end_solid (x ∷ z ∷ y) w a b =
      let h = and_yes (un x) (all un (z ∷ y)) a in
      rw (T→false (p x) h.0) (ap (λ l. x ∷ l) (trim_end_solid (z ∷ y) w h.1 b))

  trim_end_front : (x : A) (s t : List A) → trim_end p s ≡ t → T (not (empty t)) → trim_end p (x ∷ s) ≡ x ∷ t
  trim_end_front x s [] e n = absurd n
  trim_end_front x s (y ∷ t) e n = go (p x)
    where
      go : (b : Bool) → cond (b && empty (trim_end p s)) [] (x ∷ trim_end p s) ≡ x ∷ y ∷ t
      go true = rw e
      go false = rw e

  append_some : (x y : List A) → T (not (empty y)) → T (not (empty (x ++ y)))
  append_some [] y n = n
  append_some (a ∷ x) y n = tt

  full_some : (y : List A) → T (full un y) → T (not (empty y))
  full_some [] n = n
  full_some (a ∷ y) n = tt

  pub trim_end_append : (x y w : List A) → T (full un y) → T (all p w) → trim_end p (x ++ (y ++ w)) ≡ x ++ y
  trim_end_append [] y w a b = trim_end_solid y w a b
  trim_end_append (c ∷ x) y w a b =
      trim_end_front c (x ++ (y ++ w)) (x ++ y) (trim_end_append x y w a b) (append_some x y (full_some y a))

-- ---- lists one behind another

pub map_append : {A B : Type 0} (f : A → B) (s t : List A) → map f (s ++ t) ≡ map f s ++ map f t
map_append f [] t = refl
map_append f (x ∷ s) t = ap (λ l. f x ∷ l) (map_append f s t)

pub joined_append : {A : Type 0} (s t : List (List A)) → joined (s ++ t) ≡ joined s ++ joined t
joined_append [] t = refl
joined_append (x ∷ s) t = ap (λ l. x ++ l) (joined_append s t) ∙ sym (append_assoc x (joined s) (joined t))

pub joined_snoc : {A : Type 0} (ls : List (List A)) (l : List A) → joined (ls ++ (l ∷ [])) ≡ joined ls ++ l
joined_snoc ls l = joined_append ls (l ∷ []) ∙ ap (λ s. joined ls ++ s) (append-nil l)

pub joined_map : {A B : Type 0} (f : A → List B) (s t : List A) → joined (map f (s ++ t)) ≡ joined (map f s) ++ joined (map f t)
joined_map f s t = ap joined (map_append f s t) ∙ joined_append (map f s) (map f t)

pub joined_map_snoc : {A B : Type 0} (f : A → List B) (s : List A) (x : A) → joined (map f (s ++ (x ∷ []))) ≡ joined (map f s) ++ f x
joined_map_snoc f s x = joined_map f s (x ∷ []) ∙ ap (λ l. joined (map f s) ++ l) (append-nil (f x))

pub sum_append : (s t : List ℕ) → sum (s ++ t) ≡ sum s + sum t
sum_append [] t = omega arith
sum_append (x ∷ s) t = ap (λ n. x + n) (sum_append s t) ∙ sym (add_assoc x (sum s) (sum t))

pub joined_length : {A : Type 0} (ls : List (List A)) → length (joined ls) ≡ sum (map length ls)
joined_length [] = refl
joined_length (l ∷ ls) = length-append l (joined ls) ∙ ap (λ n. length l + n) (joined_length ls)

pub offsets_length : {A : Type 0} (at : ℕ) (ls : List (List A)) → length (offsets_from at ls) ≡ length ls
offsets_length at [] = refl
offsets_length at (l ∷ ls) = ap suc (offsets_length (at + length l) ls)

-- ---- words

abbrev pub push_all : {A : Type 0} → List A → List (List A) → List (List A)
push_all [] ls = ls
push_all (x ∷ s) ls = push x (push_all s ls)

module _ {A : Type 0} (p : A → Bool) where
  pub cut_run : (f r : List A) → T (all (un p) f) → cut p (f ++ r) ≡ push_all f (cut p r)
  cut_run [] r a = refl
  cut_run (x ∷ f) r a =
      let h = and_yes (un p x) (all (un p) f) a in
      rw (T→false (p x) h.0, cut_run f r h.1)

  pub push_all_first : (f : List A) (ls : List (List A)) → push_all f ([] ∷ ls) ≡ f ∷ ls
  push_all_first [] ls = refl
  push_all_first (x ∷ f) ls = rw (push_all_first f ls)

  -- a word and what stands behind it
  pub words_word : (f r : List A) → T (full (un p) f) → T (nothing_or p r) → words p (f ++ r) ≡ f ∷ words p r
  words_word [] r a e = absurd a
  words_word (x ∷ f) [] a e = rw (cut_run (x ∷ f) [] a, push_all_first (x ∷ f) [])
  words_word (x ∷ f) (y ∷ r) a e =
      rw (cut_run (x ∷ f) (y ∷ r) a, T→true (p y) e, push_all_first (x ∷ f) (cut p r))

  -- a run before a word does not count
  pub words_run : (w r : List A) → T (all p w) → words p (w ++ r) ≡ words p r
  words_run [] r a = refl
  words_run (x ∷ w) r a =
      let h = and_yes (p x) (all p w) a in
      rw (T→true (p x) h.0) (words_run w r h.1)
