-- A turn of the loop over the definitions, and a definition's fields; the fields of the head.
-- Assumes nothing.
use Prim.Native.Nat.{ℕ, ◌+◌, ◌*◌, ◌≤◌, ◌<◌}
use native.Mathlib.Omega.{arith}
use mathlib.Core.Path.{◌≡◌, sym, ap, ap₂, ◌∙◌}
use mathlib.Core.List.{List, [], ◌∷◌, ◌++◌, map}
use lib.Dec.{eqb}
use lib.ListN.{length, drop, get_or}
use lib.Seq.{get_or-take, get_or-drop}
use Rattle.paper.specs.Lists.{joined}
use Rattle.paper.specs.Pack.Fields.{version, version_width, categories_width, lines_width, ranges_width, references_width, Field, field, flag, definition_fields}
use Rattle.paper.specs.Tables.Layout.{definition_size, invoke_at, group_at, definition_of, pieces}
use Rattle.paper.specs.Tables.Lent.{got}
use Rattle.paper.proofs.Lists.Facts.{map_append, joined_map_snoc}
use Rattle.paper.specs.declared.Counts.{Counts}
use Rattle.table_rules.proofs.Turn.{entry}
use Rattle.table_rules.proofs.Entries.{first_got}
use Rattle.put_ranges.proofs.Entries.{pieces_more}
use Rattle.put_parts.specs.Parts.{head_of}

-- what is made of the entries so far, and of one more
pub joined_more : {A B : Type 0} (f : A → List B) (g : List ℕ → A) (w i : ℕ) (l : List ℕ)
    → joined (map f (map g (pieces w (i + 1) l))) ≡ joined (map f (map g (pieces w i l))) ++ f (g (entry w i l))
joined_more f g w i l =
    ap (λ ps. joined (map f (map g ps))) (pieces_more w i l)
    ∙ ap (λ xs. joined (map f xs)) (map_append g (pieces w i l) (entry w i l ∷ []))
    ∙ joined_map_snoc f (map g (pieces w i l)) (g (entry w i l))

-- ---- a definition

flag_is : (k i : ℕ) (l : List ℕ) → k < definition_size → get_or l (definition_size * i + k) 0 ≡ get_or (entry definition_size i l) k 0
flag_is k i l h = sym (get_or-take definition_size (drop (definition_size * i) l) k 0 h ∙ get_or-drop (definition_size * i) l k 0)

pub definition_fields_lem : (i invoke group length' : ℕ) (l : List ℕ) → definition_size * i + definition_size ≤ length l
    → invoke ≡ flag (eqb (get_or l (definition_size * i + invoke_at) 0) 1) → group ≡ flag (eqb (get_or l (definition_size * i + group_at) 0) 1)
    → length' ≡ got 4 (definition_size * i) l
    → ◌≡◌ {A = List Field} (field 1 invoke ∷ field 1 group ∷ field 32 length' ∷ []) (definition_fields (definition_of (entry definition_size i l)))
definition_fields_lem i invoke group length' l long ei eg el =
    let a : invoke ≡ flag (definition_of (entry definition_size i l)).invoke = ei ∙ ap (λ n. flag (eqb n 1)) (flag_is invoke_at i l (omega arith)) in
    let b : group ≡ flag (definition_of (entry definition_size i l)).group = eg ∙ ap (λ n. flag (eqb n 1)) (flag_is group_at i l (omega arith)) in
    let c : length' ≡ (definition_of (entry definition_size i l)).len = el ∙ first_got 4 definition_size i l (omega arith) long in
    ap₂ (λ x xs. field 1 x ∷ xs) a (ap₂ (λ x xs. field 1 x ∷ xs) b (ap (λ x. field 32 x ∷ []) c))

-- ---- the head

pub head_fields : (v c d g r : ℕ) (n : Counts) → v ≡ version → c ≡ n.categories → d ≡ n.definitions → g ≡ n.ranges → r ≡ n.references
    → ◌≡◌ {A = List Field} (field version_width v ∷ field categories_width c ∷ field lines_width d ∷ field ranges_width g ∷ field references_width r ∷ []) (head_of n)
unfolding head_of
head_fields v c d g r n ev ec ed eg er = rw (ev, ec, ed, eg, er)
