-- The pieces that `cut` makes of characters, the words with the runs around them, and where a run is empty or is not.
-- Assumes nothing.
use Prim.Native.Nat.{ℕ}
use mathlib.Core.Path.{◌≡◌, refl, sym, ap}
use mathlib.Core.Bool.{Bool, true, false, not, cond}
use mathlib.Core.List.{List, [], ◌∷◌, ◌++◌, append-nil}
use lib.Dec.{T}
use mir.Facts.{yes_and, and_yes, T_not}
use Rattle.paper.specs.Lists.{empty, all, full, nothing_or, select, push, cut, words}
use Rattle.paper.proofs.Lists.Facts.{true→T, false→T, un}

-- ---- pieces and words

-- the pieces between the characters that pass
pub data Pieces (p : ℕ → Bool) : List ℕ → List (List ℕ) → Type 0 where
  last : {cs : List ℕ} → T (all (un p) cs) → Pieces p cs (cs ∷ [])
  then : {cs l : List ℕ} {ls : List (List ℕ)} (s : ℕ) (r : List ℕ) → cs ≡ l ++ (s ∷ r) → T (all (un p) l) → T (p s) → Pieces p r ls → Pieces p cs (l ∷ ls)

-- words, with runs before, between and behind them
pub data Spread (p : ℕ → Bool) : List ℕ → List (List ℕ) → Type 0 where
  run : {cs : List ℕ} → T (all p cs) → Spread p cs []
  word : {cs f : List ℕ} {fs : List (List ℕ)} (w r : List ℕ) → cs ≡ w ++ (f ++ r) → T (all p w) → T (full (un p) f) → T (nothing_or p r) → Spread p r fs → Spread p cs (f ∷ fs)

module _ (p : ℕ → Bool) where
  push_pieces : (x : ℕ) → T (un p x) → {cs : List ℕ} {ls : List (List ℕ)} → Pieces p cs ls → Pieces p (x ∷ cs) (push x ls)
  push_pieces x u {cs} (last a) = last (yes_and (un p x) (all (un p) cs) u a)
  push_pieces x u (then {l = l} s r e a t q) = then s r (ap (λ l. x ∷ l) e) (yes_and (un p x) (all (un p) l) u a) t q

  pub cut_pieces : (cs : List ℕ) → Pieces p cs (cut p cs)
  cut_pieces [] = last tt
  cut_pieces (x ∷ cs) = step (p x) refl (cut_pieces cs)
    where
      step : (b : Bool) → p x ≡ b → Pieces p cs (cut p cs) → Pieces p (x ∷ cs) (cond b ([] ∷ cut p cs) (push x (cut p cs)))
      step true e q = then x cs refl tt (true→T (p x) e) q
      step false e q = push_pieces x (false→T (p x) e) q

  run_spread : (s : ℕ) → T (p s) → {r : List ℕ} {fs : List (List ℕ)} → Spread p r fs → Spread p (s ∷ r) fs
  run_spread s t {r} (run a) = run (yes_and (p s) (all p r) t a)
  run_spread s t (word w r e a f g q) = word (s ∷ w) r (ap (λ l. s ∷ l) e) (yes_and (p s) (all p w) t a) f g q

  pieces_spread : {cs : List ℕ} {ls : List (List ℕ)} → Pieces p cs ls → Spread p cs (select (λ l. not (empty l)) ls)
  pieces_spread (last {cs = []} a) = run tt
  pieces_spread (last {cs = c ∷ cs} a) = word [] [] (sym (append-nil (c ∷ cs))) tt a tt (run tt)
  pieces_spread (then {l = []} s r e a t q) = rw e (run_spread s t (pieces_spread q))
  pieces_spread (then {l = c ∷ l} s r e a t q) = word [] (s ∷ r) e tt a t (run_spread s t (pieces_spread q))

  pub words_spread : (cs : List ℕ) → Spread p cs (words p cs)
  words_spread cs = pieces_spread (cut_pieces cs)

-- ---- runs and words

pub clash {ℓ} : {X : Type ℓ} (b : Bool) → T b → T (not b) → X
clash b t u = absurd (T_not b t u)

-- a run between a place that begins with a separator and a word is not empty
pub gap_full : (p : ℕ → Bool) (w f r : List ℕ) → T (nothing_or p (w ++ (f ++ r))) → T (full (un p) f) → T (all p w) → T (full p w)
gap_full p [] [] r g h a = absurd h
gap_full p [] (c ∷ f) r g h a = clash (p c) g (and_yes (un p c) (all (un p) f) h).0
gap_full p (c ∷ w) f r g h a = a

-- a run where a text opens with no such character is empty
pub gap_none : (p q : ℕ → Bool) → ((c : ℕ) → T (p c) → T (q c)) → (w s : List ℕ) → T (nothing_or (un q) (w ++ s)) → T (all p w) → w ≡ []
gap_none p q f [] s g a = refl
gap_none p q f (c ∷ w) s g a = clash (q c) (f c (and_yes (p c) (all p w) a).0) g

pub both_full : (p q r : ℕ → Bool) → ((c : ℕ) → T (p c) → T (q c) → T (r c)) → (s : List ℕ) → T (full p s) → T (all q s) → T (full r s)
both_full p q r f [] a b = absurd a
both_full p q r f (c ∷ s) a b = go (c ∷ s) a b
  where
    go : (s : List ℕ) → T (all p s) → T (all q s) → T (all r s)
    go [] a b = tt
    go (c ∷ s) a b =
        let h = and_yes (p c) (all p s) a in
        let g = and_yes (q c) (all q s) b in
        yes_and (r c) (all r s) (f c h.0 g.0) (go s h.1 g.1)

pub full_opens : (p : ℕ → Bool) (w r : List ℕ) → T (full p w) → T (nothing_or p (w ++ r))
full_opens p [] r a = absurd a
full_opens p (c ∷ w) r a = (and_yes (p c) (all p w) a).0
