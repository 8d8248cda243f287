-- From the parts to the answer: the head, the body, the padding; and a pack that is refused is refused by 18 to 21.
-- Assumes nothing.
use Prim.Native.Nat.{ℕ, ◌+◌, ◌≤◌}
use native.Mathlib.Omega.{arith}
use mathlib.Core.Path.{◌≡◌, refl, ap, ◌∙◌}
use mathlib.Core.Logic.{◌⊎◌, inl, inr, ⊎_elim}
use mathlib.Core.Bool.{Bool, true, false, not, cond, ◌||◌}
use mathlib.Core.List.{List, []}
use lib.Dec.{T, eqb}
use mir.Facts.{eqb_yes}
use Rattle.paper.specs.Refusals.{pack_ends, pack_rule, pack_version, pack_left_over}
use Rattle.paper.specs.CharDef.Reading.{Reading, refused}
use Rattle.paper.specs.Pack.Fields.{head_width}
use Rattle.paper.specs.Computed.ReadPack.{FieldStep, gave, broke, ◌▹◌, give, is_padding}
use Rattle.paper.specs.Computed.ReadPack.{padding, read_body, read_fields, read_all, answer, read_pack}
use Rattle.paper.specs.Tables.Layout.{Tables}
use Rattle.paper.specs.Tables.Reader.{clears}
use Rattle.paper.proofs.Pack.Verdict.{early, refused_numbers}
use Rattle.field.specs.Cursor.{rest}
use Rattle.room.specs.Sized.{AcceptedInto}
use Rattle.pack_head.specs.declared.Head.{Head}
use Rattle.pack_field.specs.Parts.{max_place}
use Rattle.pack_head.specs.Head.{HeadIn}
use Rattle.pack_body.specs.Body.{HeadFits, body_width, BodyIn}
use Rattle.pack_field.proofs.Steps.{go_on, stop, fails, passes}

either : (a b : Bool) → T (a || b) → T a ⊎ T b
either true b t = inl tt
either false b t = inr t

module _ (p : List ℕ) where
  abbrev fields_of : FieldStep Reading
  fields_of = read_fields 0 (rest p 0)

  from_start : read_pack p ≡ answer (read_all 0 (rest p 0))
  unfolding read_pack rest
  from_start = refl

  pub head_broke : {n q : ℕ} → fields_of ≡ broke n q → read_pack p ≡ refused n q
  unfolding read_all
  head_broke e = from_start ∙ ap answer (stop _ _ e)

  module _ (h : Head) (from : ℕ) (a : HeadIn p 0 head_width fields_of h from) where
    pub head_fits : HeadFits h
    head_fits = record { categories_fit = a.categories_fit; lines_fit = a.lines_fit; ranges_fit = a.ranges_fit; references_fit = a.references_fit }

    -- all that is left to read stands within the largest pack
    pub body_near : from + body_width h ≤ max_place
    body_near =
        let o = a.on in
        let b = a.categories_fit in
        let c = a.lines_fit in
        let d = a.ranges_fit in
        let e = a.references_fit in
        omega arith

    pub body_broke : {n q : ℕ} → read_body h.categories h.lines h.ranges h.references from (rest p from) ≡ broke n q → read_pack p ≡ refused n q
    unfolding read_all
    body_broke e = from_start ∙ ap answer (stop _ _ (a.reads ∙ e))

    module _ (t : Tables) (bytes next : ℕ) (b : BodyIn p from h t bytes next) (r : Bool) (pad : r ≡ is_padding (rest p next)) where
      ended : (x : Bool) → is_padding (rest p next) ≡ x
          → ◌▹◌ padding (λ end. give b.reading) next (rest p next) ≡ cond x (gave b.reading next []) (broke pack_left_over next)
      unfolding padding give
      ended true e = go_on _ _ (ap (λ x. cond x (gave tt next []) (broke pack_left_over next)) e) refl
      ended false e = stop _ _ (ap (λ x. cond x (gave tt next []) (broke pack_left_over next)) e)

      answered : (x : Bool) → is_padding (rest p next) ≡ x → read_pack p ≡ answer (cond x (gave b.reading next []) (broke pack_left_over next))
      unfolding read_all
      answered x e = from_start ∙ ap answer (go_on _ _ (a.reads ∙ b.reads) (ended x e))

      pub left_over : not r ≡ true → read_pack p ≡ refused pack_left_over next
      left_over n = answered false (fails r _ pad n)

      pub all_in : not r ≡ false
          → AcceptedInto (read_pack p) t (record { categories = h.categories; definitions = h.lines; ranges = h.ranges; references = h.references; bytes = bytes })
      all_in n = record { reading = b.reading; is = answered true (passes r _ pad n); counts = b.counts; tables = b.tables }

  -- what is refused behind 1 is refused by 18 to 21, and leaves the room zero
  pub refusals_clear : (n place : ℕ) → read_pack p ≡ refused n place → clears n ≡ true
  unfolding clears
  refusals_clear n place e = by_number (either (early n) (eqb n pack_left_over) (refused_numbers p n place e).0)
    where
      one : (k : ℕ) → clears k ≡ true → T (eqb n k) → clears n ≡ true
      one k h t = (let i : n ≡ k = eqb_yes t in ap clears i) ∙ h

      by_number : T (early n) ⊎ T (eqb n pack_left_over) → clears n ≡ true
      by_number (inr t) = one pack_left_over refl t
      by_number (inl t) =
          ⊎_elim (one pack_version refl) (λ u. ⊎_elim (one pack_ends refl) (one pack_rule refl) (either (eqb n pack_ends) (eqb n pack_rule) u))
          (either (eqb n pack_version) (eqb n pack_ends || eqb n pack_rule) t)
