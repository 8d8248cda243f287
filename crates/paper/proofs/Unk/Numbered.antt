-- Lists by number, and lists that rise: an element is found by its number below the length and nowhere else, and rising lists with the
-- same members are the same.
-- Assumes nothing.
use Prim.Native.Nat.{ℕ, zero, suc, ◌<◌, ◌≤◌, zero-le, suc-le-suc}
use native.Mathlib.Nat.{le_of_suc-le-suc, not-suc-le-zero}
use native.Mathlib.Omega.{arith}
use mathlib.Core.Path.{◌≡◌, refl, sym, ap, ◌∙◌, subst}
use mathlib.Core.Logic.{◌⊎◌, inl, inr, ⊎_elim, ◌↔◌}
use mathlib.Core.Bool.{Bool, true, false, ◌||◌}
use mathlib.Core.Option
use mathlib.Core.Option.{Option, none, some, map-eq-none_iff}
use mathlib.Core.List.{List, [], ◌∷◌, map}
use lib.Dec.{T, ltb, eqb, eqb→eq}
use lib.ListN.{length, get_elem?}
use mir.Facts.{and_yes, or_yes, ltb_yes}
use borrow.Author.Tests.{eq-eqb}
use Rattle.paper.specs.Lists.{all, any}
use Rattle.paper.specs.Unk.Entry.{rises, Listed}
use Rattle.paper.proofs.Apart.{none_some}

-- ---- lists by number

pub some_same {ℓ} : {A : Type ℓ} {a b : A} → some a ≡ some b → a ≡ b
some_same e = cc

pub found_map : {A B : Type 0} (f : A → B) (l : List A) (k : ℕ) → get_elem? (map f l) k ≡ Option.map f (get_elem? l k)
found_map f [] k = refl
found_map f (x ∷ l) zero = refl
found_map f (x ∷ l) (suc k) = found_map f l k

module _ {A : Type 0} where
  unknown_long : (l : List A) (k : ℕ) → get_elem? l k ≡ none → length l ≤ k
  unknown_long [] k e = zero-le
  unknown_long (x ∷ l) zero e = none_some (sym e)
  unknown_long (x ∷ l) (suc k) e = suc-le-suc (unknown_long l k e)

  long_unknown : (l : List A) (k : ℕ) → length l ≤ k → get_elem? l k ≡ none
  long_unknown [] k h = refl
  long_unknown (x ∷ l) zero h = absurd (not-suc-le-zero h)
  long_unknown (x ∷ l) (suc k) h = long_unknown l k (le_of_suc-le-suc h)

-- what is found by number in a list is unknown exactly from the list's length on
pub unknown_from : {A B : Type 0} (f : A → B) (l : List A) (k : ℕ) (o : Option B) → o ≡ Option.map f (get_elem? l k) → (o ≡ none) ↔ (length l ≤ k)
unknown_from f l k o e =
    (λ h. unknown_long l k ((map-eq-none_iff f (get_elem? l k)).0 (sym e ∙ h)), λ h. e ∙ (map-eq-none_iff f (get_elem? l k)).1 (long_unknown l k h))

-- ---- rising lists

pub listed_here : (k : ℕ) (ks : List ℕ) → Listed k (k ∷ ks)
listed_here k ks = rw (eq-eqb k k refl) tt

pub listed_later : (k x : ℕ) (ks : List ℕ) → Listed k ks → Listed k (x ∷ ks)
listed_later k x ks t = go (eqb k x)
  where
    go : (b : Bool) → T (b || any (eqb k) ks)
    go true = tt
    go false = t

pub listed_cases : (k x : ℕ) (ks : List ℕ) → Listed k (x ∷ ks) → (k ≡ x) ⊎ Listed k ks
listed_cases k x ks t = go (or_yes (eqb k x) (any (eqb k) ks) t)
  where
    go : T (eqb k x) ⊎ Listed k ks → (k ≡ x) ⊎ Listed k ks
    go (inl e) = inl (eqb→eq k x e)
    go (inr l) = inr l

listed_all : (p : ℕ → Bool) (k : ℕ) (ks : List ℕ) → T (all p ks) → Listed k ks → T (p k)
listed_all p k [] a t = absurd t
listed_all p k (x ∷ ks) a t =
    let h = and_yes (p x) (all p ks) a in
    ⊎_elim (λ e. subst (λ j. T (p j)) (sym e) h.0) (λ l. listed_all p k ks h.1 l) (listed_cases k x ks t)

below_listed : (x k : ℕ) (ks : List ℕ) → T (rises (x ∷ ks)) → Listed k ks → x < k
below_listed x k ks r t = ltb_yes (listed_all (ltb x) k ks (and_yes (all (ltb x) ks) (rises ks) r).0 t)

-- the least is the same, and so are those behind it
pub rising_one : (ks ls : List ℕ) → T (rises ks) → T (rises ls) → ((k : ℕ) → Listed k ks ↔ Listed k ls) → ks ≡ ls
rising_one [] [] r s f = refl
rising_one [] (l ∷ ls) r s f = absurd ((f l).1 (listed_here l ls))
rising_one (k ∷ ks) [] r s f = absurd ((f k).0 (listed_here k ks))
rising_one (k ∷ ks) (l ∷ ls) r s f =
    ap (λ j. j ∷ ks) head_same
    ∙ ap (λ t. l ∷ t) (rising_one ks ls (and_yes (all (ltb k) ks) (rises ks) r).1 (and_yes (all (ltb l) ls) (rises ls) s).1 (λ x. (there x, back x)))
  where
    least : (k ≡ l) ⊎ Listed k ls → (l ≡ k) ⊎ Listed l ks → k ≡ l
    least (inl e) b = e
    least (inr a) (inl e) = sym e
    least (inr a) (inr b) =
        let i = below_listed l k ls s a in
        let j = below_listed k l ks r b in
        absurd (omega arith)

    head_same : k ≡ l
    head_same = least (listed_cases k l ls ((f k).0 (listed_here k ks))) (listed_cases l k ks ((f l).1 (listed_here l ls)))

    there : (x : ℕ) → Listed x ks → Listed x ls
    there x t = go (listed_cases x l ls ((f x).0 (listed_later x k ks t)))
      where
        go : (x ≡ l) ⊎ Listed x ls → Listed x ls
        go (inl e) = let i = below_listed k x ks r t in let h = head_same in absurd (omega arith)
        go (inr u) = u

    back : (x : ℕ) → Listed x ls → Listed x ks
    back x t = go (listed_cases x k ks ((f x).1 (listed_later x l ls t)))
      where
        go : (x ≡ k) ⊎ Listed x ks → Listed x ks
        go (inl e) = let i = below_listed l x ls s t in let h = head_same in absurd (omega arith)
        go (inr u) = u
