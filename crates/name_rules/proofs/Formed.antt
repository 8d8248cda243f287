-- Well-formed names: a name is well-formed exactly where its longest well-formed prefix is all of it, and the names that are left are
-- tested as all are.
-- Assumes nothing.
use Prim.Native.Nat.{ℕ, ◌+◌, ◌<◌}
use native.Mathlib.Nat.{le_antisymm, le_refl}
use mathlib.Core.Path.{◌≡◌, refl, sym, ap, ◌∙◌, subst}
use mathlib.Core.Bool.{Bool, true, false, not}
use mathlib.Core.List.{List, map}
use lib.Dec.{T, eqb}
use lib.ListN.{length, take}
use lib.Seq.{take-length}
use mir.Facts.{yes_eqb, eqb_yes}
use Rattle.paper.specs.Lists.{all}
use Rattle.paper.specs.Text.Scalar.{WellFormed, LongestPrefix}
use Rattle.paper.specs.Computed.Rules.{formed}
use Rattle.paper.specs.Tables.Layout.{name_slot_of, pieces}
use Rattle.paper.proofs.Lists.Facts.{T→true}
use Rattle.paper.proofs.Pack.Rules.{formed_is, is_formed}
use Rattle.paper.proofs.Tables.Laws.{left}
use Rattle.name_rules.specs.Placed.{placed, name_of, placed_names}
use Rattle.table_rules.proofs.Entries.{all_begin, all_fails, all_goes, all_map}
use Rattle.table_rules.proofs.Tests.{passed, clash}

-- ---- one name

same_truth : (a b : Bool) → (T a → T b) → (T b → T a) → a ≡ b
same_truth true b f g = sym (T→true b (f tt))
same_truth false true f g = absurd (g tt)
same_truth false false f g = refl

pub whole_prefix : (r : ℕ) (s : List ℕ) → LongestPrefix r s → eqb r (length s) ≡ formed s
whole_prefix r s p =
    same_truth (eqb r (length s)) (formed s)
    (λ t. is_formed s (subst WellFormed (let e : r ≡ length s = eqb_yes t in ap (λ k. take k s) e ∙ take-length s) p.fits))
    (λ t. yes_eqb (le_antisymm p.inside (p.longest (length s) (le_refl (length s)) (subst WellFormed (sym (take-length s)) (formed_is s t)))))

-- ---- all names

abbrev pub formed_at : List ℕ → List ℕ → Bool
formed_at names p = formed (placed names (name_slot_of p))

pub formed_begin : (names l : List ℕ) (n : ℕ) → all (formed_at names) (left 4 n 0 l) ≡ all formed (placed_names n l names)
unfolding placed_names
formed_begin names l n =
    all_begin 4 (formed_at names) l n
    ∙ all_map (λ q. formed (placed names q)) name_slot_of (pieces 4 n l)
    ∙ all_map formed (placed names) (map name_slot_of (pieces 4 n l))

module _ (names l : List ℕ) (n i : ℕ) (v b : Bool) (s : List ℕ) (inv : all (formed_at names) (left 4 n i l) ≡ v)
    (e : b ≡ formed s) (d : s ≡ name_of i l names) where
  answer : b ≡ formed (name_of i l names)
  answer = e ∙ ap formed d

  pub formed_fails : i < n → not b ≡ true → false ≡ v
  unfolding name_of
  formed_fails lt h = all_fails 4 (formed_at names) l n i v inv lt (clash b _ answer h)

  pub formed_goes : i < n → not b ≡ false → all (formed_at names) (left 4 n (i + 1) l) ≡ v
  unfolding name_of
  formed_goes lt h = all_goes 4 (formed_at names) l n i v inv lt (passed b _ answer h)
