-- Each character is spread into one or more elements, all of which a test takes as the character: what is cut by the test is
-- cut in the same places, before and after.
-- Assumes nothing.
use Prim.Native.Nat.{ℕ}
use mathlib.Core.Path.{◌≡◌, refl, sym, ap, ◌∙◌, subst}
use mathlib.Core.Bool.{Bool, true, false, not, cond, ◌&&◌}
use mathlib.Core.List.{List, [], ◌∷◌, ◌++◌, map}
use lib.Dec.{T}
use mir.Facts.{and_yes}
use Rattle.paper.specs.Lists.{all, full, empty, select, push, cut, words, until, trim_start, trim_end}
use Rattle.paper.proofs.Lists.Facts.{T→true, T→false, un, full_all, push_all, cut_run}

abbrev pub spread : {A : Type 0} → (ℕ → List A) → List ℕ → List A
spread f [] = []
spread f (c ∷ cs) = f c ++ spread f cs

-- ---- runs of elements that pass, or do not

module _ {A : Type 0} (q : A → Bool) where
  pub until_run : (s r : List A) → T (all (un q) s) → until q (s ++ r) ≡ s ++ until q r
  until_run [] r a = refl
  until_run (x ∷ s) r a = let h = and_yes (un q x) (all (un q) s) a in rw (T→false (q x) h.0, until_run s r h.1)

  pub until_stop : (s r : List A) → T (full q s) → until q (s ++ r) ≡ []
  until_stop [] r a = absurd a
  until_stop (x ∷ s) r a = rw (T→true (q x) (and_yes (q x) (all q s) a).0)

  pub trim_start_run : (s r : List A) → T (all q s) → trim_start q (s ++ r) ≡ trim_start q r
  trim_start_run [] r a = refl
  trim_start_run (x ∷ s) r a = let h = and_yes (q x) (all q s) a in rw (T→true (q x) h.0) (trim_start_run s r h.1)

  pub trim_start_stop : (s r : List A) → T (full (un q) s) → trim_start q (s ++ r) ≡ s ++ r
  trim_start_stop [] r a = absurd a
  trim_start_stop (x ∷ s) r a = rw (T→false (q x) (and_yes (un q x) (all (un q) s) a).0)

  pub trim_end_keep : (s r : List A) → T (all (un q) s) → trim_end q (s ++ r) ≡ s ++ trim_end q r
  trim_end_keep [] r a = refl
  trim_end_keep (x ∷ s) r a = let h = and_yes (un q x) (all (un q) s) a in rw (T→false (q x) h.0, trim_end_keep s r h.1)

  -- a run at the end goes, a run before something stays
  pub trim_end_gone : (s r : List A) → T (all q s) → trim_end q r ≡ [] → trim_end q (s ++ r) ≡ []
  trim_end_gone [] r a e = e
  trim_end_gone (x ∷ s) r a e = let h = and_yes (q x) (all q s) a in rw (T→true (q x) h.0, trim_end_gone s r h.1 e)

  pub trim_end_stay : (s r t : List A) (y : A) → trim_end q r ≡ y ∷ t → trim_end q (s ++ r) ≡ s ++ (y ∷ t)
  trim_end_stay [] r t y e = e
  trim_end_stay (x ∷ s) r t y e = more s (trim_end_stay s r t y e)
    where
      more : (s : List A) → trim_end q (s ++ r) ≡ s ++ (y ∷ t) → trim_end q (x ∷ (s ++ r)) ≡ x ∷ (s ++ (y ∷ t))
      more [] e = rw e (go (q x))
        where
          go : (b : Bool) → cond (b && false) [] (x ∷ y ∷ t) ≡ x ∷ y ∷ t
          go true = refl
          go false = refl
      more (z ∷ s) e = rw e (go (q x))
        where
          go : (b : Bool) → cond (b && false) [] (x ∷ z ∷ (s ++ (y ∷ t))) ≡ x ∷ z ∷ (s ++ (y ∷ t))
          go true = refl
          go false = refl

-- every element of a character passes, or none does, as the character
abbrev pub Agrees : {A : Type 0} → (A → Bool) → List A → Bool → Type 0
Agrees q l true = T (full q l)
Agrees q l false = T (full (un q) l)

module _ {A : Type 0} (f : ℕ → List A) (q : A → Bool) (p : ℕ → Bool) (alike : (c : ℕ) → Agrees q (f c) (p c)) where
  some : (l r : List A) (b : Bool) → Agrees q l b → empty (l ++ r) ≡ false
  some [] r true a = absurd a
  some [] r false a = absurd a
  some (x ∷ l) r b a = refl

  pub empty_spread : (cs : List ℕ) → empty (spread f cs) ≡ empty cs
  empty_spread [] = refl
  empty_spread (c ∷ cs) = some (f c) (spread f cs) (p c) (alike c)

  pub until_spread : (cs : List ℕ) → until q (spread f cs) ≡ spread f (until p cs)
  until_spread [] = refl
  until_spread (c ∷ cs) = go (p c) (alike c) (until_spread cs)
    where
      go : (b : Bool) → Agrees q (f c) b → until q (spread f cs) ≡ spread f (until p cs)
          → until q (f c ++ spread f cs) ≡ spread f (cond b [] (c ∷ until p cs))
      go true a ih = until_stop q (f c) (spread f cs) a
      go false a ih = until_run q (f c) (spread f cs) (full_all (un q) (f c) a) ∙ ap (λ l. f c ++ l) ih

  pub trim_start_spread : (cs : List ℕ) → trim_start q (spread f cs) ≡ spread f (trim_start p cs)
  trim_start_spread [] = refl
  trim_start_spread (c ∷ cs) = go (p c) (alike c) (trim_start_spread cs)
    where
      go : (b : Bool) → Agrees q (f c) b → trim_start q (spread f cs) ≡ spread f (trim_start p cs)
          → trim_start q (f c ++ spread f cs) ≡ spread f (cond b (trim_start p cs) (c ∷ cs))
      go true a ih = trim_start_run q (f c) (spread f cs) (full_all q (f c) a) ∙ ih
      go false a ih = trim_start_stop q (f c) (spread f cs) a

  pub trim_end_spread : (cs : List ℕ) → trim_end q (spread f cs) ≡ spread f (trim_end p cs)
  trim_end_spread [] = refl
  trim_end_spread (c ∷ cs) = go (p c) (alike c) (trim_end p cs) (trim_end_spread cs)
    where
      -- what is left of a list that is not empty is not empty
      shown : (d : ℕ) (ds : List ℕ) (l : List A) → l ≡ spread f (d ∷ ds) → (y : A) × (t : List A) × (l ≡ y ∷ t)
      shown d ds [] e = absurd (off (ap empty e ∙ some (f d) (spread f ds) (p d) (alike d)))
        where
          off : ◌≡◌ {A = Bool} true false → ⊥
          off h = subst T h tt
      shown d ds (y ∷ t) e = (y, t, refl)

      go : (b : Bool) → Agrees q (f c) b → (r : List ℕ) → trim_end q (spread f cs) ≡ spread f r
          → trim_end q (f c ++ spread f cs) ≡ spread f (cond (b && empty r) [] (c ∷ r))
      go false a r ih = trim_end_keep q (f c) (spread f cs) (full_all (un q) (f c) a) ∙ ap (λ l. f c ++ l) ih
      go true a [] ih = trim_end_gone q (f c) (spread f cs) (full_all q (f c) a) ih
      go true a (d ∷ r) ih =
          let (y, t, e) = shown d r (trim_end q (spread f cs)) ih in
          trim_end_stay q (f c) (spread f cs) t y e ∙ ap (λ l. f c ++ l) (sym e ∙ ih)

  -- the pieces: the first is the first, and those that are not empty are those
  record Pieces (cs : List ℕ) : Type 0 where
    head : List ℕ
    tail : List (List ℕ)
    tail' : List (List A)
    below : cut p cs ≡ head ∷ tail
    above : cut q (spread f cs) ≡ spread f head ∷ tail'
    agree : select (λ l. not (empty l)) tail' ≡ map (spread f) (select (λ l. not (empty l)) tail)

  -- a piece more in front
  onward : (head : List ℕ) (tail : List (List ℕ)) (tail' : List (List A))
      → select (λ l. not (empty l)) tail' ≡ map (spread f) (select (λ l. not (empty l)) tail)
      → select (λ l. not (empty l)) (spread f head ∷ tail') ≡ map (spread f) (select (λ l. not (empty l)) (head ∷ tail))
  onward [] tail tail' e = e
  onward (c ∷ cs) tail tail' e = rw (empty_spread (c ∷ cs)) (ap (λ l. spread f (c ∷ cs) ∷ l) e)

  cut_gap : (x : A) (r : List A) → q x ≡ true → cut q (x ∷ r) ≡ [] ∷ cut q r
  cut_gap x r e = rw e

  gap : (s r : List A) (head : List A) (tail : List (List A)) → T (full q s) → cut q r ≡ head ∷ tail
      → (more : List (List A)) × ((cut q (s ++ r) ≡ [] ∷ more)
      × (select (λ l. not (empty l)) more ≡ select (λ l. not (empty l)) (head ∷ tail)))
  gap [] r head tail a e = absurd a
  gap (x ∷ []) r head tail a e = (head ∷ tail, (cut_gap x r (T→true (q x) (and_yes (q x) true a).0) ∙ ap (λ l. [] ∷ l) e, refl))
  gap (x ∷ y ∷ s) r head tail a e =
      let h = and_yes (q x) (all q (y ∷ s)) a in
      let (more, (d, g)) = gap (y ∷ s) r head tail h.1 e in
      ([] ∷ more, (cut_gap x (y ∷ (s ++ r)) (T→true (q x) h.0) ∙ ap (λ l. [] ∷ l) d, g))

  push_all_cons : (s l : List A) (ls : List (List A)) → push_all s (l ∷ ls) ≡ (s ++ l) ∷ ls
  push_all_cons [] l ls = refl
  push_all_cons (x ∷ s) l ls = rw (push_all_cons s l ls)

  pieces : (cs : List ℕ) → Pieces cs
  pieces [] = record { head = []; tail = []; tail' = []; below = refl; above = refl; agree = refl }
  pieces (c ∷ cs) = go (p c) refl (alike c) (pieces cs)
    where
      go : (b : Bool) → p c ≡ b → Agrees q (f c) b → Pieces cs → Pieces (c ∷ cs)
      go true e a ih =
          let (more, (d, g)) = gap (f c) (spread f cs) (spread f ih.head) ih.tail' a ih.above in
          record {
            head = [];
            tail = ih.head ∷ ih.tail;
            tail' = more;
            below = rw e (ap (λ l. [] ∷ l) ih.below);
            above = d;
            agree = g ∙ onward ih.head ih.tail ih.tail' ih.agree;
          }
      go false e a ih = record {
        head = c ∷ ih.head;
        tail = ih.tail;
        tail' = ih.tail';
        below = rw e (ap (push c) ih.below);
        above = cut_run q (f c) (spread f cs) (full_all (un q) (f c) a) ∙ ap (push_all (f c)) ih.above
            ∙ push_all_cons (f c) (spread f ih.head) ih.tail';
        agree = ih.agree;
      }

  pub words_spread : (cs : List ℕ) → words q (spread f cs) ≡ map (spread f) (words p cs)
  words_spread cs =
      let k = pieces cs in
      ap (select (λ l. not (empty l))) k.above ∙ onward k.head k.tail k.tail' k.agree
      ∙ ap (λ l. map (spread f) (select (λ l. not (empty l)) l)) (sym k.below)
