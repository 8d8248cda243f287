-- The head: the version, and the counts within their limits; what is left to read behind it is the body that they announce.
-- Assumes nothing.
use Prim.Native.Nat.{ℕ, ◌+◌, ◌≤◌}
use native.Mathlib.Omega.{arith}
use mathlib.Core.Path.{◌≡◌, refl, sym, ap, ◌∙◌}
use mathlib.Core.List.{List}
use lib.Dec.{leb, eqb}
use borrow.Author.Tests.{leb-true, eq-eqb, ne_eqb}
use Rattle.paper.specs.Sizes.{max_categories, max_category_lines, max_ranges, max_references}
use Rattle.paper.specs.Refusals.{pack_version, pack_rule}
use Rattle.paper.specs.CharDef.Reading.{Reading}
use Rattle.paper.specs.Pack.Fields.{version, version_width, categories_width, lines_width, ranges_width, references_width, head_width}
use Rattle.paper.specs.Computed.ReadPack.{FieldStep, gave, broke, number, field_or, up_to, count_rule, read_counted, read_fields}
use Rattle.field.specs.Cursor.{rest, field_at}
use Rattle.pack_field.specs.Parts.{max_place}
use Rattle.pack_head.specs.Head.{last_width, counts_width, read_last, HeadIn, HeadIs}
use Rattle.pack_field.proofs.Steps.{go_on, stop, behind, alike, cut, keeps, breaks}
use Rattle.std.specs.Prelude.{Err, Ok, Result}
use Rattle.field.specs.declared.BitCursor.{BitCursor}
use Rattle.pack_head.specs.declared.Head.{Head}
use Rattle.paper.specs.declared.Refusal.{Refusal}

-- a count within its limit
up_to_lem : (w limit at : ℕ) (s : List ℕ) → number w (count_rule limit 0) at s ≡ number w (up_to limit) at s
up_to_lem w limit at s = alike pack_rule w at (count_rule limit 0) (up_to limit) s (λ n. (let e : 0 + n ≡ n = omega arith in ap (λ k. leb k limit) e))

abbrev Counted : List ℕ → (w limit at v to : ℕ) → Type 0
Counted p w limit at v to = gave v to (rest p to) ≡ number w (count_rule limit 0) at (rest p at)

pub record Within (w limit at v to : ℕ) : Type 0 where
  pub on : to ≡ at + w
  pub fits : v ≤ limit

pub within : (p : List ℕ) (w limit at : ℕ) {v to : ℕ} → Counted p w limit at v to → Within w limit at v to
within p w limit at {v} e =
    let b = behind pack_rule w at (count_rule limit 0) (rest p at) e in
    let f : 0 + v ≤ limit = leb-true _ _ b.kept in
    record { on = b.on; fits = omega arith }

counted : (p : List ℕ) (w limit at : ℕ) {v to : ℕ} → Counted p w limit at v to → number w (up_to limit) at (rest p at) ≡ gave v to (rest p to)
counted p w limit at e = sym (up_to_lem w limit at (rest p at)) ∙ sym e

-- what is behind decides
pub head_after : (p : List ℕ) (at at₁ width width₁ : ℕ) (g g₁ : FieldStep Reading) → g ≡ g₁ → at₁ + width₁ ≡ at + width
    → (r : Result (Head × BitCursor) Refusal) → HeadIs p at₁ width₁ g₁ r → HeadIs p at width g r
head_after p at at₁ width width₁ g g₁ e w (Ok (h, c)) z =
    let o = z.on in
    record {
      categories_fit = z.categories_fit;
      lines_fit = z.lines_fit;
      ranges_fit = z.ranges_fit;
      references_fit = z.references_fit;
      on = omega arith;
      reads = e ∙ z.reads;
    }
head_after p at at₁ width width₁ g g₁ e w (Err r) z = e ∙ z

-- ---- ranges and references

module _ (p : List ℕ) (at categories lines : ℕ) where
  pub last_stop : {n q : ℕ} → broke n q ≡ number ranges_width (count_rule max_ranges 0) at (rest p at) → read_last categories lines at (rest p at) ≡ broke n q
  unfolding read_last
  last_stop e = stop _ _ (sym (up_to_lem ranges_width max_ranges at (rest p at)) ∙ sym e)

  module _ {ranges at₁ : ℕ} (a : Counted p ranges_width max_ranges at ranges at₁) where
    pub last_stop_2 : {n q : ℕ} → broke n q ≡ number references_width (count_rule max_references 0) at₁ (rest p at₁)
        → read_last categories lines at (rest p at) ≡ broke n q
    unfolding read_last
    last_stop_2 e = go_on _ _ (counted p ranges_width max_ranges at a) (stop _ _ (sym (up_to_lem references_width max_references at₁ (rest p at₁)) ∙ sym e))

    pub last_read : {total next : ℕ} → Counted p references_width max_references at₁ total next → categories ≤ max_categories → lines ≤ max_category_lines
        → HeadIn p at last_width (read_last categories lines at (rest p at)) (record { categories = categories; lines = lines; ranges = ranges; references = total }) next
    unfolding read_last
    last_read b c l =
        let x = within p ranges_width max_ranges at a in
        let y = within p references_width max_references at₁ b in
        record {
          categories_fit = c;
          lines_fit = l;
          ranges_fit = x.fits;
          references_fit = y.fits;
          on = omega arith;
          reads = go_on _ _ (counted p ranges_width max_ranges at a) (go_on _ _ (counted p references_width max_references at₁ b) refl);
        }

-- ---- categories and category lines before them

module _ (p : List ℕ) (at : ℕ) where
  pub first_stop : {n q : ℕ} → broke n q ≡ number categories_width (count_rule max_categories 0) at (rest p at) → read_counted at (rest p at) ≡ broke n q
  unfolding read_counted
  first_stop e = stop _ _ (sym (up_to_lem categories_width max_categories at (rest p at)) ∙ sym e)

  module _ {categories at₁ : ℕ} (a : Counted p categories_width max_categories at categories at₁) where
    pub first_stop_2 : {n q : ℕ} → broke n q ≡ number lines_width (count_rule max_category_lines 0) at₁ (rest p at₁) → read_counted at (rest p at) ≡ broke n q
    unfolding read_counted
    first_stop_2 e = go_on _ _ (counted p categories_width max_categories at a) (stop _ _ (sym (up_to_lem lines_width max_category_lines at₁ (rest p at₁)) ∙ sym e))

    pub first_read : {lines at₂ : ℕ} → Counted p lines_width max_category_lines at₁ lines at₂ → (r : Result (Head × BitCursor) Refusal)
        → HeadIs p at₂ last_width (read_last categories lines at₂ (rest p at₂)) r → HeadIs p at counts_width (read_counted at (rest p at)) r
    unfolding read_counted read_last
    first_read {lines} {at₂} b r z =
        let x = within p categories_width max_categories at a in
        let y = within p lines_width max_category_lines at₁ b in
        head_after p at at₂ counts_width last_width (read_counted at (rest p at)) (read_last categories lines at₂ (rest p at₂))
        (go_on _ _ (counted p categories_width max_categories at a) (go_on _ _ (counted p lines_width max_category_lines at₁ b) refl)) (omega arith) r z

-- ---- the version

module _ (p : List ℕ) (at : ℕ) (near : at ≤ max_place) where
  pub version_cut : {n q : ℕ} → broke n q ≡ field_at p at version_width → read_fields at (rest p at) ≡ broke n q
  unfolding read_fields
  version_cut e = stop _ _ (sym (cut p at version_width near (omega arith) (omega arith) pack_version (eqb version) e))

  module _ {v to : ℕ} (e : gave v to (rest p to) ≡ field_at p at version_width) where
    pub version_other : (v ≡ version → ⊥) → read_fields at (rest p at) ≡ broke pack_version at
    unfolding read_fields
    version_other f = stop _ _ (sym (breaks p at version_width near (omega arith) (omega arith) pack_version (eqb version) e (ne_eqb version v (λ h. f (sym h)))))

    one_read : v ≡ version → gave v to (rest p to) ≡ field_or pack_version version_width (eqb version) at (rest p at)
    one_read i = keeps p at version_width near (omega arith) (omega arith) pack_version (eqb version) e (eq-eqb version v (sym i))

    pub version_on : v ≡ version → to ≡ at + version_width
    version_on i = (behind pack_version version_width at (eqb version) (rest p at) (one_read i)).on

    pub version_read : v ≡ version → (r : Result (Head × BitCursor) Refusal) → HeadIs p to counts_width (read_counted to (rest p to)) r → HeadIs p at head_width (read_fields at (rest p at)) r
    unfolding read_fields
    version_read i r z =
        let o = version_on i in
        head_after p at to head_width counts_width (read_fields at (rest p at)) (read_counted to (rest p to)) (go_on _ _ (sym (one_read i)) refl) (omega arith) r z
