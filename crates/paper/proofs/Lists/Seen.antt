-- First sights: what one more element does to them, and that numbers stay.
-- Assumes nothing.
use Prim.Native.Nat.{ℕ, zero, suc}
use mathlib.Core.Path.{◌≡◌, refl, sym, ap, ◌∙◌, subst}
use mathlib.Core.Bool.{Bool, true, false, cond, ◌&&◌, ◌||◌}
use mathlib.Core.List.{List, [], ◌∷◌, ◌++◌, append-nil}
use lib.Dec.{T, eqb, eqb→eq, eqb_refl}
use mir.Facts.{and_yes, yes_and}
use Rattle.paper.specs.Lists.{all, any, fresh_after, first_seen, position_of, same}
use Rattle.paper.proofs.Lists.Facts.{true→T, or_left, or_right, all_imp}

pub same_eq : (s t : List ℕ) → T (same s t) → s ≡ t
same_eq [] [] h = refl
same_eq [] (y ∷ t) h = absurd h
same_eq (x ∷ s) [] h = absurd h
same_eq (x ∷ s) (y ∷ t) h =
    let g = and_yes (eqb x y) (same s t) h in
    let e : x ≡ y = eqb→eq x y g.0 in
    let d : s ≡ t = same_eq s t g.1 in
    cc

pub same_refl : (s : List ℕ) → T (same s s)
same_refl [] = tt
same_refl (x ∷ s) = yes_and (eqb x x) (same s s) (eqb_refl x) (same_refl s)

or_swap : (a b c : Bool) → (a || b || c) ≡ (b || (a || c))
or_swap true true c = refl
or_swap true false c = refl
or_swap false true c = refl
or_swap false false c = refl

absorb : (a b c : Bool) → (T a → T b) → (a || b || c) ≡ (b || c)
absorb true true c f = refl
absorb true false c f = absurd (f tt)
absorb false b c f = refl

module _ {A : Type 0} (eq : A → A → Bool) (eq→≡ : (x y : A) → T (eq x y) → x ≡ y) where
  -- one more element is added at the end unless it was there
  fresh_snoc : (before xs : List A) (n : A)
      → fresh_after eq before (xs ++ (n ∷ []))
      ≡ fresh_after eq before xs ++ cond (any (eq n) before || any (eq n) (fresh_after eq before xs)) [] (n ∷ [])
  fresh_snoc before [] n = go (any (eq n) before)
    where
      go : (b : Bool) → cond b [] (n ∷ []) ≡ cond (b || false) [] (n ∷ [])
      go true = refl
      go false = refl
  fresh_snoc before (x ∷ xs) n = go (any (eq x) before) refl (fresh_snoc (x ∷ before) xs n)
    where
      F : List A
      F = fresh_after eq (x ∷ before) xs

      R : List A
      R = fresh_after eq (x ∷ before) (xs ++ (n ∷ []))

      go : (b : Bool) → any (eq x) before ≡ b
          → R ≡ F ++ cond (eq n x || any (eq n) before || any (eq n) F) [] (n ∷ [])
          → cond b R (x ∷ R) ≡ cond b F (x ∷ F) ++ cond (any (eq n) before || any (eq n) (cond b F (x ∷ F))) [] (n ∷ [])
      go true e h =
          h ∙ ap (λ b. F ++ cond b [] (n ∷ []))
          (absorb (eq n x) (any (eq n) before) (any (eq n) F) (λ t. subst (λ y. T (any (eq y) before)) (sym (eq→≡ n x t)) (true→T _ e)))
      go false e h =
          ap (λ l. x ∷ l) (h ∙ ap (λ b. F ++ cond b [] (n ∷ [])) (or_swap (eq n x) (any (eq n) before) (any (eq n) F)))

  pub seen_snoc : (xs : List A) (n : A)
      → first_seen eq (xs ++ (n ∷ [])) ≡ cond (any (eq n) (first_seen eq xs)) (first_seen eq xs) (first_seen eq xs ++ (n ∷ []))
  seen_snoc xs n = fresh_snoc [] xs n ∙ go (any (eq n) (first_seen eq xs))
    where
      go : (b : Bool) → first_seen eq xs ++ cond b [] (n ∷ []) ≡ cond b (first_seen eq xs) (first_seen eq xs ++ (n ∷ []))
      go true = append-nil (first_seen eq xs)
      go false = refl

  -- later elements only add at the end
  fresh_append : (before xs ys : List A) → (more : List A) × (fresh_after eq before (xs ++ ys) ≡ fresh_after eq before xs ++ more)
  fresh_append before [] ys = (fresh_after eq before ys, refl)
  fresh_append before (x ∷ xs) ys =
      let (more, e) = fresh_append (x ∷ before) xs ys in
      (more, go more e (any (eq x) before))
    where
      go : (more : List A) → fresh_after eq (x ∷ before) (xs ++ ys) ≡ fresh_after eq (x ∷ before) xs ++ more → (b : Bool)
          → cond b (fresh_after eq (x ∷ before) (xs ++ ys)) (x ∷ fresh_after eq (x ∷ before) (xs ++ ys))
          ≡ cond b (fresh_after eq (x ∷ before) xs) (x ∷ fresh_after eq (x ∷ before) xs) ++ more
      go more e true = e
      go more e false = ap (λ l. x ∷ l) e

  pub seen_append : (xs ys : List A) → (more : List A) × (first_seen eq (xs ++ ys) ≡ first_seen eq xs ++ more)
  seen_append xs ys = fresh_append [] xs ys

  module _ (eq_refl : (x : A) → T (eq x x)) where
    -- every element is there
    fresh_has : (before xs : List A) → T (all (λ n. any (eq n) before || any (eq n) (fresh_after eq before xs)) xs)
    fresh_has before [] = tt
    fresh_has before (x ∷ xs) = go (any (eq x) before) refl (fresh_has (x ∷ before) xs)
      where
        F : List A
        F = fresh_after eq (x ∷ before) xs

        go : (b : Bool) → any (eq x) before ≡ b
            → T (all (λ n. eq n x || any (eq n) before || any (eq n) F) xs)
            → T ((any (eq x) before || any (eq x) (cond b F (x ∷ F))) && all (λ n. any (eq n) before || any (eq n) (cond b F (x ∷ F))) xs)
        go true e h =
            yes_and (any (eq x) before || any (eq x) F) _ (or_left (any (eq x) before) _ (true→T _ e))
            (all_imp (λ n. eq n x || any (eq n) before || any (eq n) F) (λ n. any (eq n) before || any (eq n) F)
            (λ n t. subst T (absorb (eq n x) (any (eq n) before) (any (eq n) F) (λ u. subst (λ y. T (any (eq y) before)) (sym (eq→≡ n x u)) (true→T _ e))) t) xs h)
        go false e h =
            yes_and (any (eq x) before || (eq x x || any (eq x) F)) _ (or_right (any (eq x) before) _ (or_left (eq x x) _ (eq_refl x)))
            (all_imp (λ n. eq n x || any (eq n) before || any (eq n) F) (λ n. any (eq n) before || (eq n x || any (eq n) F))
            (λ n t. subst T (or_swap (eq n x) (any (eq n) before) (any (eq n) F)) t) xs h)

    pub seen_has : (xs : List A) → T (all (λ n. any (eq n) (first_seen eq xs)) xs)
    seen_has xs = fresh_has [] xs

  -- an element's number stays when more are added
  pub position_stays : (x : A) (ns more : List A) → T (any (eq x) ns) → position_of eq x (ns ++ more) ≡ position_of eq x ns
  position_stays x [] more t = absurd t
  position_stays x (y ∷ ns) more t = go (eq x y) refl t (position_stays x ns more)
    where
      go : (b : Bool) → eq x y ≡ b → T (b || any (eq x) ns) → (T (any (eq x) ns) → position_of eq x (ns ++ more) ≡ position_of eq x ns)
          → cond b zero (suc (position_of eq x (ns ++ more))) ≡ cond b zero (suc (position_of eq x ns))
      go true e t ih = refl
      go false e t ih = ap suc (ih t)
