-- The parts between the `..` of a field, found from the left: a view of what `parts` computes.
-- Assumes nothing.
use Prim.Native.Nat.{ℕ}
use mathlib.Core.Path.{◌≡◌, refl, sym, ap, ◌∙◌, subst}
use mathlib.Core.Bool.{Bool, true, false, cond, ◌&&◌}
use mathlib.Core.List.{List, [], ◌∷◌, ◌++◌}
use lib.Dec.{T, eqb, eqb→eq}
use mir.Facts.{and_yes}
use Rattle.paper.specs.Lists.{push}
use Rattle.paper.specs.Text.Scalar.{dot}
use Rattle.paper.specs.CharDef.BadLine.{NoDots}
use Rattle.paper.specs.Computed.ReadText.{parts}
use Rattle.paper.proofs.Apart.{nil_cons}
use Rattle.paper.proofs.Lists.Facts.{true→T}

no_dots_nil : NoDots []
no_dots_nil [] b e = nil_cons e
no_dots_nil (x ∷ a) b e = nil_cons e

no_dots_cons : (c : ℕ) (s : List ℕ) → ((t : List ℕ) → c ∷ s ≡ dot ∷ dot ∷ t → ⊥) → NoDots s → NoDots (c ∷ s)
no_dots_cons c s f n [] b e = f b e
no_dots_cons c s f n (x ∷ a) b e = let i : s ≡ a ++ (dot ∷ dot ∷ b) = cc in n a b i

no_dots_one : (c : ℕ) → NoDots (c ∷ [])
no_dots_one c = no_dots_cons c [] (λ t e. let i : [] ≡ dot ∷ t = cc in nil_cons i) no_dots_nil

pub no_dots_tail : (c : ℕ) (s : List ℕ) → NoDots (c ∷ s) → NoDots s
no_dots_tail c s n a b e = n (c ∷ a) b (ap (λ l. c ∷ l) e)

-- the parts between the `..` found from the left
pub data Cuts : List ℕ → List (List ℕ) → Type 0 where
  uncut : {cs : List ℕ} → NoDots cs → Cuts cs (cs ∷ [])
  cut_at : {cs l : List ℕ} {ls : List (List ℕ)} (r : List ℕ) → cs ≡ l ++ (dot ∷ dot ∷ r) → NoDots (l ++ (dot ∷ [])) → Cuts r ls → Cuts cs (l ∷ ls)

push_cuts : (c d : ℕ) (s : List ℕ) {ls : List (List ℕ)} → ((t : List ℕ) → c ∷ d ∷ s ≡ dot ∷ dot ∷ t → ⊥)
    → Cuts (d ∷ s) ls → Cuts (c ∷ d ∷ s) (push c ls)
push_cuts c d s f (uncut n) = uncut (no_dots_cons c (d ∷ s) f n)
push_cuts c d s f (cut_at {l = []} r e n q) =
    cut_at r (ap (λ l. c ∷ l) e) (no_dots_cons c (dot ∷ []) (λ t i. (let j : c ∷ d ∷ s ≡ dot ∷ dot ∷ dot ∷ r = cc in f (dot ∷ r) j)) n) q
push_cuts c d s f (cut_at {l = x ∷ l} r e n q) =
    cut_at r (ap (λ l. c ∷ l) e) (no_dots_cons c (x ∷ (l ++ (dot ∷ []))) (λ t i. (let j : c ∷ d ∷ s ≡ dot ∷ dot ∷ s = cc in f s j)) n) q

pub parts_cuts : (cs : List ℕ) → Cuts cs (parts cs)
parts_cuts [] = uncut no_dots_nil
parts_cuts (c ∷ []) = uncut (no_dots_one c)
parts_cuts (c ∷ d ∷ cs) = step (eqb c dot && eqb d dot) refl (parts_cuts cs) (parts_cuts (d ∷ cs))
  where
    step : (b : Bool) → (eqb c dot && eqb d dot) ≡ b → Cuts cs (parts cs) → Cuts (d ∷ cs) (parts (d ∷ cs))
        → Cuts (c ∷ d ∷ cs) (cond b ([] ∷ parts cs) (push c (parts (d ∷ cs))))
    step true e q r =
        let t = and_yes (eqb c dot) (eqb d dot) (true→T _ e) in
        let cd : c ≡ dot = eqb→eq c dot t.0 in
        let dd : d ≡ dot = eqb→eq d dot t.1 in
        let whole : c ∷ d ∷ cs ≡ dot ∷ dot ∷ cs = cc in
        cut_at cs whole (no_dots_one dot) q
    step false e q r = push_cuts c d cs never r
      where
        never : (t : List ℕ) → c ∷ d ∷ cs ≡ dot ∷ dot ∷ t → ⊥
        never t i =
            let cd : c ≡ dot = cc in
            let dd : d ≡ dot = cc in
            let both : (eqb c dot && eqb d dot) ≡ true = rw (cd, dd) in
            subst T (sym both ∙ e) tt
