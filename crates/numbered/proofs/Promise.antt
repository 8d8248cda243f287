-- What the promises say over tables in which a reading stands: names and definitions by number are the reading's, 15 exactly where there is none, and never
-- 26. Idea: the paper's theorems on its own answers, carried over to the enums and to the part.
-- Assumes nothing.
use Prim.Native.Nat.{ℕ, zero, suc, ◌≤◌, ◌<◌}
use native.Mathlib.Nat.{le_of_suc-le-suc, not-suc-le-zero}
use mathlib.Core.Path.{◌≡◌, refl, sym, ap, ◌∙◌}
use mathlib.Core.List.{List, [], ◌∷◌}
use mathlib.Core.Option.{some}
use lib.ListN.{length, get_or}
use Rattle.paper.specs.Refusals.{number_unknown}
use Rattle.paper.specs.CharDef.Reading.{Reading}
use Rattle.paper.specs.Rows.Lookup.{Looked, gives, refuses}
use Rattle.paper.specs.Rows.Numbers.{number_of, definition_at, name_at, lookup_definition, category_name, name_of}
use Rattle.paper.specs.Tables.Layout.{NameSlot, Tables}
use Rattle.paper.specs.Computed.HandedIn.{handed_in}
use Rattle.paper.specs.declared.Counts.{Counts}
use Rattle.paper.specs.declared.Refusal.{Refusal}
use Rattle.paper.proofs.Apart.{zero_one, refuses_gives}
use Rattle.paper.proofs.Rows.Numbers.{number_name, number_definition}
use Rattle.numbered.specs.Numbers.{definition, name, name_held}
use Rattle.std.specs.Prelude.{Err}

held_of : Looked (List ℕ) → List ℕ
held_of (gives l) = l
held_of (refuses n) = []

as_held : (store : List ℕ) (a : Looked NameSlot) → name_held store a ≡ held_of (name_of store a)
unfolding held_of
as_held store (gives p) = refl
as_held store (refuses n) = refl

number_there : (names : List (List ℕ)) (k : ℕ) → held_of (number_of names k) ≡ get_or names k []
unfolding held_of number_of
number_there [] k = refl
number_there (x ∷ names) zero = refl
number_there (x ∷ names) (suc k) = number_there names k

unknown : {A : Type 0} (l : List A) (k : ℕ) → length l ≤ k → number_of l k ≡ refuses number_unknown
unfolding number_of
unknown [] k h = refl
unknown (x ∷ l) zero h = absurd (not-suc-le-zero h)
unknown (x ∷ l) (suc k) h = unknown l k (le_of_suc-le-suc h)

known : {A : Type 0} (l : List A) (k n : ℕ) → k < length l → number_of l k ≡ refuses n → ⊥
unfolding number_of
known [] k n h e = not-suc-le-zero h
known (x ∷ l) zero n h e = refuses_gives (sym e)
known (x ∷ l) (suc k) n h e = known l k n (le_of_suc-le-suc h) e

refused_name : (store : List ℕ) (a : Looked NameSlot) (e : Refusal) → name a ≡ Err e → name_of store a ≡ refuses e.number
refused_name store (gives p) e h = zero_one (cc)
refused_name store (refuses n) e h = let q : e ≡ record { number = n; place = 0 } = cc in ap (λ x. refuses x.number) (sym q)

name_refused : (store : List ℕ) (a : Looked NameSlot) (n : ℕ) → name_of store a ≡ refuses n → name a ≡ Err (record { number = n; place = 0 })
name_refused store (gives p) n h = refuses_gives (sym h)
name_refused store (refuses k) n h = let q : k ≡ n = cc in ap (λ x. Err (record { number = x; place = 0 })) q

module _ (t : Tables) (n : Counts) (r : Reading) (h : handed_in t n ≡ some r) (k : ℕ) where
  named : name_of t.names (category_name t.names t.categories n.categories k) ≡ name_at r k
  named = number_name t n r h k

  -- the part that is returned is the name with that number, empty where there is none
  pub held_name : name_held t.names (category_name t.names t.categories n.categories k) ≡ get_or r.names k []
  held_name = as_held t.names (category_name t.names t.categories n.categories k) ∙ ap held_of named ∙ number_there r.names k

  -- 15 exactly where there is none, and never 26
  pub name_none : length r.names ≤ k
      → name (category_name t.names t.categories n.categories k) ≡ Err (record { number = number_unknown; place = 0 })
  name_none i = name_refused t.names (category_name t.names t.categories n.categories k) number_unknown (named ∙ unknown r.names k i)

  pub name_some : k < length r.names → (e : Refusal) → name (category_name t.names t.categories n.categories k) ≡ Err e → ⊥
  name_some i e d = known r.names k e.number i (sym named ∙ refused_name t.names (category_name t.names t.categories n.categories k) e d)

  -- the definition with that number, 15 exactly where there is none
  pub defined : definition (lookup_definition t.definitions n.definitions k) ≡ definition (definition_at r k)
  defined = ap definition (number_definition t n r h k)
