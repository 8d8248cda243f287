-- A definition's three fields, which break no rule, and its entry in the table.
-- Assumes nothing.
use Prim.Native.Nat.{ℕ, suc, ◌+◌, ◌≤◌}
use native.Mathlib.Omega.{arith}
use mathlib.Core.Path.{◌≡◌, refl, sym, ap, ap₂, ◌∙◌}
use mathlib.Core.List.{List, [], ◌∷◌, ◌++◌}
use lib.Dec.{eqb}
use lib.ListN.{length, set}
use Rattle.paper.specs.Refusals.{pack_rule}
use Rattle.paper.specs.Numbers.Bytes.{le}
use Rattle.paper.specs.Pack.Fields.{flag_width, length_width, definition_width}
use Rattle.paper.specs.Computed.ReadPack.{gave, broke, number, free, give, read_definition}
use Rattle.paper.specs.Tables.Lent.{patch}
use Rattle.paper.proofs.Tables.Laws.{patch_in, patch_length}
use Rattle.paper.proofs.Tables.Append.{patch_patch}
use Rattle.field.specs.Cursor.{rest, field_at}
use Rattle.pack_field.specs.Parts.{max_place}
use Rattle.pack_body.specs.Definitions.{DefinitionIn}
use Rattle.pack_field.proofs.Steps.{go_on, stop, behind, cut, keeps}

abbrev At : List ℕ → (w at v to : ℕ) → Type 0
At p w at v to = gave v to (rest p to) ≡ field_at p at w

module _ (p : List ℕ) (at : ℕ) (near : at + definition_width ≤ max_place) where
  flag_read : (x : ℕ) {v to : ℕ} → x ≤ max_place → At p flag_width x v to → gave v to (rest p to) ≡ number flag_width free x (rest p x)
  flag_read x h e = keeps p x flag_width h (omega arith) (omega arith) pack_rule free e refl

  flag_cut : (x : ℕ) {n q : ℕ} → x ≤ max_place → broke n q ≡ field_at p x flag_width → number flag_width free x (rest p x) ≡ broke n q
  flag_cut x h e = sym (cut p x flag_width h (omega arith) (omega arith) pack_rule free e)

  pub invoke_cut : {n q : ℕ} → broke n q ≡ field_at p at flag_width → read_definition at (rest p at) ≡ broke n q
  unfolding read_definition
  invoke_cut e = stop _ _ (flag_cut at (omega arith) e)

  module _ {invoke at₁ : ℕ} (a : At p flag_width at invoke at₁) where
    pub on_1 : at₁ ≡ at + flag_width
    on_1 = (behind pack_rule flag_width at free (rest p at) (flag_read at (omega arith) a)).on

    pub group_cut : {n q : ℕ} → broke n q ≡ field_at p at₁ flag_width → read_definition at (rest p at) ≡ broke n q
    unfolding read_definition
    group_cut e = let o = on_1 in go_on _ _ (sym (flag_read at (omega arith) a)) (stop _ _ (flag_cut at₁ (omega arith) e))

    module _ {group at₂ : ℕ} (b : At p flag_width at₁ group at₂) where
      pub on_2 : at₂ ≡ at₁ + flag_width
      on_2 = let o = on_1 in (behind pack_rule flag_width at₁ free (rest p at₁) (flag_read at₁ (omega arith) b)).on

      near_3 : at₂ ≤ max_place
      near_3 = let o = on_1 in let q = on_2 in omega arith

      pub length_cut : {n q : ℕ} → broke n q ≡ field_at p at₂ length_width → read_definition at (rest p at) ≡ broke n q
      unfolding read_definition
      length_cut e =
          let o = on_1 in
          go_on _ _ (sym (flag_read at (omega arith) a)) (go_on _ _ (sym (flag_read at₁ (omega arith) b))
          (stop _ _ (sym (cut p at₂ length_width near_3 (omega arith) (omega arith) pack_rule free e))))

      pub definition_read : {len next : ℕ} → At p length_width at₂ len next
          → DefinitionIn p at (record { invoke = eqb invoke 1; group = eqb group 1; length = len }) next
      unfolding read_definition give
      definition_read e =
          let o = on_1 in
          let q = on_2 in
          let l = keeps p at₂ length_width near_3 (omega arith) (omega arith) pack_rule free e refl in
          let s = (behind pack_rule length_width at₂ free (rest p at₂) l).on in
          record {
            on = omega arith;
            reads = go_on _ _ (sym (flag_read at (omega arith) a)) (go_on _ _ (sym (flag_read at₁ (omega arith) b)) (go_on _ _ (sym l) refl));
          }

-- ---- its entry

pub definition_put : (at v x y a b : ℕ) (l l₁ : List ℕ) → at + 6 ≤ length l → l₁ ≡ patch at (le 4 v) l → x ≡ a → y ≡ b
    → set (set l₁ (at + 4) x) (at + 5) y ≡ patch at (le 4 v ++ (a ∷ b ∷ [])) l
definition_put at v x y a b l l₁ h e f g =
    let k : at + 5 ≡ suc (at + 4) = omega arith in
    let n : length l₁ ≡ length l = ap length e ∙ patch_length at (le 4 v) l in
    ap₂ (λ i j. set (set l₁ (at + 4) i) (at + 5) j) f g
    ∙ ap (λ m. set (set l₁ (at + 4) a) m b) k
    ∙ patch_in (at + 4) (a ∷ b ∷ []) l₁ (omega arith)
    ∙ ap (patch (at + 4) (a ∷ b ∷ [])) e
    ∙ patch_patch at (at + 4) (le 4 v) (a ∷ b ∷ []) l refl (omega arith)
