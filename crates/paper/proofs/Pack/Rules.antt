-- The rules of a pack, "The pack" of the paper: what a reading keeps so that it has a pack.
-- Refusal 26 is given exactly when a reading breaks one; the test is `keeps_rules`.
-- Assumes nothing.
use Prim.Native.Nat.{ℕ}
use mathlib.Core.Path.{◌≡◌, refl}
use mathlib.Core.Logic.{◌↔◌}
use mathlib.Core.Bool.{Bool, true}
use mathlib.Core.List.{List, [], ◌∷◌}
use lib.Dec.{T, leb}
use lib.ListN.{length}
use mir.Facts.{and_yes, yes_and, leb_yes, yes_leb}
use Rattle.paper.specs.Sizes.{max_categories, max_name_bytes, max_category_lines, max_ranges, max_references}
use Rattle.paper.specs.Lists.{all}
use Rattle.paper.specs.Text.Scalar.{WellFormed}
use Rattle.paper.specs.CharDef.Reading.{Reading, name_bytes, references, Within}
use Rattle.paper.specs.Pack.Rules.{numbered, Each, PackRules, bounded, once, sized, has_bytes}
use Rattle.paper.specs.Computed.Decode.{Text, broken, chars, decode}
use Rattle.paper.specs.Computed.Rules.{formed, is_text, keeps_rules, within}
use Rattle.paper.proofs.Text.Code.{reads, ill_read}

-- ---- well-formed is what the decoder takes

pub formed_is : (s : List ℕ) → T (formed s) → WellFormed s
unfolding formed
formed_is s t = go (decode s) refl t
  where
    go : (o : Text) → decode s ≡ o → T (is_text o) → WellFormed s
    go (broken p) e t = absurd t
    go (chars cs) e t = (reads s).1 (cs, e)

pub is_formed : (s : List ℕ) → WellFormed s → T (formed s)
unfolding formed
is_formed s w = go (decode s) refl
  where
    go : (o : Text) → decode s ≡ o → T (is_text o)
    go (broken p) e = absurd (ill_read s p e w)
    go (chars cs) e = tt

-- ---- the test decides the rules

pub each_all : {A : Type 0} (P : A → Type 0) (p : A → Bool) → ((x : A) → P x → T (p x)) → (xs : List A) → Each P xs → T (all p xs)
each_all P p f [] e = tt
each_all P p f (x ∷ xs) e = yes_and (p x) (all p xs) (f x e.0) (each_all P p f xs e.1)

pub all_each : {A : Type 0} (P : A → Type 0) (p : A → Bool) → ((x : A) → T (p x) → P x) → (xs : List A) → T (all p xs) → Each P xs
all_each P p f [] e = tt
all_each P p f (x ∷ xs) e = let h = and_yes (p x) (all p xs) e in (f x h.0, all_each P p f xs h.1)

within_is : (r : Reading) → T (within r) → Within r
unfolding within
within_is r t =
    let a = and_yes (leb (length r.names) max_categories) _ t in
    let b = and_yes (leb (name_bytes r.names) max_name_bytes) _ a.1 in
    let c = and_yes (leb (length r.definitions) max_category_lines) _ b.1 in
    let d = and_yes (leb (length r.ranges) max_ranges) _ c.1 in
    let e = and_yes (leb (references r.ranges) max_references) true d.1 in
    record { categories_fit = leb_yes a.0; names_fit = leb_yes b.0; definitions_fit = leb_yes c.0; ranges_fit = leb_yes d.0; references_fit = leb_yes e.0 }

is_within : (r : Reading) → Within r → T (within r)
unfolding within
is_within r w =
    yes_and (leb (length r.names) max_categories) _ (yes_leb w.categories_fit)
    (yes_and (leb (name_bytes r.names) max_name_bytes) _ (yes_leb w.names_fit)
    (yes_and (leb (length r.definitions) max_category_lines) _ (yes_leb w.definitions_fit)
    (yes_and (leb (length r.ranges) max_ranges) _ (yes_leb w.ranges_fit)
    (yes_and (leb (references r.ranges) max_references) true (yes_leb w.references_fit) tt))))

pub rules_kept : (r : Reading) → T (keeps_rules r) → PackRules r
unfolding keeps_rules
rules_kept r t =
    let a = and_yes (within r) _ t in
    let b = and_yes (all has_bytes r.names) _ a.1 in
    let c = and_yes (all formed r.names) _ b.1 in
    let d = and_yes (once r.names) _ c.1 in
    let e = and_yes (all sized r.definitions) _ d.1 in
    let f = and_yes (all bounded r.ranges) _ e.1 in
    let g = and_yes (numbered r) true f.1 in
    record {
      limits = within_is r a.0;
      names_some = b.0;
      names_formed = all_each WellFormed formed formed_is r.names c.0;
      names_once = d.0;
      lengths = e.0;
      bounds = f.0;
      known = g.0;
    }

pub kept_rules : (r : Reading) → PackRules r → T (keeps_rules r)
unfolding keeps_rules
kept_rules r k =
    yes_and (within r) _ (is_within r k.limits)
    (yes_and (all has_bytes r.names) _ k.names_some
    (yes_and (all formed r.names) _ (each_all WellFormed formed is_formed r.names k.names_formed)
    (yes_and (once r.names) _ k.names_once
    (yes_and (all sized r.definitions) _ k.lengths
    (yes_and (all bounded r.ranges) _ k.bounds
    (yes_and (numbered r) true k.known tt))))))

pub rules : (r : Reading) → T (keeps_rules r) ↔ PackRules r
rules r = (rules_kept r, kept_rules r)
