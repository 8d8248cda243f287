-- From the parts to the body: names, definitions, ranges, the total; and the tables that they leave are the reading's layout.
-- Assumes nothing.
use Prim.Native.Nat.{ℕ, ◌+◌, ◌*◌, ◌≤◌}
use native.Mathlib.Omega.{arith}
use mathlib.Core.Path.{◌≡◌, refl, sym, ap, ◌∙◌}
use mathlib.Core.Bool.{Bool, true, false, cond}
use mathlib.Core.List.{List, [], map}
use lib.Dec.{eqb}
use lib.ListN.{length}
use borrow.Author.Tests.{eq-eqb, ne_eqb}
use Rattle.paper.specs.Sizes.{max_category_lines}
use Rattle.paper.specs.Refusals.{pack_rule}
use Rattle.paper.specs.Lists.{joined}
use Rattle.paper.specs.CharDef.Reading.{Definition, Range, Reading, name_bytes, references}
use Rattle.paper.specs.Pack.Fields.{definition_width}
use Rattle.paper.specs.Computed.ReadPack.{FieldStep, gave, broke, ◌▹◌, give, demand}
use Rattle.paper.specs.Computed.ReadPack.{many, read_names, read_definition, read_ranges, read_body}
use Rattle.paper.specs.Tables.Layout.{Tables, layout, in_room, counts_of, name_slots}
use Rattle.paper.specs.Tables.Layout.{range_slots, definition_bytes, definition_size}
use Rattle.paper.specs.Tables.Lent.{patch, padded}
use Rattle.paper.proofs.Tables.Laws.{table_length}
use Rattle.paper.proofs.Tables.Append.{patch_padded, padded_length}
use Rattle.paper.proofs.Tables.Trip.{tables_is, counts_is, wide_definition}
use Rattle.field.specs.Cursor.{rest}
use Rattle.room.specs.Sized.{no_tables}
use Rattle.pack_head.specs.declared.Head.{Head}
use Rattle.pack_field.specs.Parts.{max_place, Fills}
use Rattle.pack_names.specs.Names.{Stored, NamesIn}
use Rattle.pack_ranges.specs.Ranges.{Two, Ranged, RangesIn}
use Rattle.pack_body.specs.Body.{tail_width, read_tail, TailIn, BodyIn}
use Rattle.pack_field.proofs.Steps.{go_on, stop}

-- ---- tables that hold zero

module _ {t : Tables} (e : t ≡ in_room no_tables) where
  pub no_definitions : t.definitions ≡ padded (definition_size * max_category_lines) []
  unfolding in_room no_tables
  no_definitions = ap (λ u. u.definitions) e

  pub no_ranges : Ranged [] (record { ranges = t.ranges; references = t.references })
  unfolding in_room no_tables range_slots
  no_ranges = record { in_ranges = ap (λ u. u.ranges) e; in_references = ap (λ u. u.references) e }

  pub no_names : Stored [] t.names t.categories 0 0
  unfolding in_room no_tables name_slots name_bytes
  no_names =
      record {
        count_is = refl;
        bytes_is = refl;
        few = omega arith;
        short = omega arith;
        stored = ap (λ u. u.names) e;
        slotted = ap (λ u. u.categories) e;
      }

pub definitions_long : {l : List ℕ} → l ≡ padded (definition_size * max_category_lines) [] → length l ≡ definition_size * max_category_lines
definitions_long e = ap length e ∙ padded_length (definition_size * max_category_lines) [] (omega arith)

-- ---- behind the names

module _ (p : List ℕ) (at : ℕ) (h : Head) where
  abbrev definitions_of : FieldStep (List Definition)
  definitions_of = many h.lines read_definition at (rest p at)

  abbrev ranges_of : ℕ → FieldStep (List Range)
  ranges_of from = read_ranges h.ranges h.categories h.references 0 from (rest p from)

  pub definitions_broke : {n q : ℕ} → definitions_of ≡ broke n q → (names : List (List ℕ)) → read_tail h names at (rest p at) ≡ broke n q
  unfolding read_tail
  definitions_broke e names = stop _ _ e

  module _ (d₀ d₁ : List ℕ) (from : ℕ) (d : Fills definition_bytes definitions_of at definition_width h.lines 0 p d₀ d₁ from) where
    pub ranges_broke : {n q : ℕ} → ranges_of from ≡ broke n q → (names : List (List ℕ)) → read_tail h names at (rest p at) ≡ broke n q
    unfolding read_tail
    ranges_broke e names = go_on _ _ d.reads (stop _ _ e)

    module _ (t : Two) (used next : ℕ) (g : RangesIn p from (ranges_of from) h.references h.ranges t used next) where
      abbrev reading_of : List (List ℕ) → Reading
      reading_of names = record { names = names; definitions = d.all; ranges = g.all }

      demanded : (names : List (List ℕ)) (b : Bool) → b ≡ eqb (references g.all) h.references
          → ◌▹◌ {B = Reading} (demand (eqb (references g.all) h.references)) (λ whole. give (reading_of names)) next (rest p next)
          ≡ cond b (gave (reading_of names) next (rest p next)) (broke pack_rule next)
      unfolding demand give
      demanded names true e = go_on _ _ (ap (λ x. cond x (gave tt next (rest p next)) (broke pack_rule next)) (sym e)) refl
      demanded names false e = stop _ _ (ap (λ x. cond x (gave tt next (rest p next)) (broke pack_rule next)) (sym e))

      summed : (b : Bool) → b ≡ eqb (references g.all) h.references → (names : List (List ℕ))
          → read_tail h names at (rest p at) ≡ cond b (gave (reading_of names) next (rest p next)) (broke pack_rule next)
      unfolding read_tail
      summed b e names = go_on _ _ d.reads (go_on _ _ g.reads (demanded names b e))

      pub total_broken : (used ≡ h.references → ⊥) → (names : List (List ℕ)) → read_tail h names at (rest p at) ≡ broke pack_rule next
      total_broken f names = summed false (sym (ne_eqb _ _ (λ e. f (sym g.sum ∙ e)))) names

      pub tail_in : used ≡ h.references → at + tail_width h ≤ max_place → h.lines ≤ max_category_lines → d₀ ≡ padded (definition_size * max_category_lines) []
          → TailIn p at h d₁ t next
      tail_in e near few z =
          let o = d.on in
          let q = g.on in
          let l = d.size in
          let w = table_length definition_size definition_bytes wide_definition d.all in
          record {
            definitions = d.all;
            ranges = g.all;
            near = omega arith;
            reads = summed true (sym (eq-eqb _ _ (g.sum ∙ e)));
            lines_are = d.size;
            ranges_are = g.size;
            references_are = g.sum ∙ e;
            defined = d.is ∙ ap (patch 0 (joined (map definition_bytes d.all))) z
                ∙ patch_padded (definition_size * max_category_lines) [] (joined (map definition_bytes d.all)) (omega arith);
            ranged = g.held;
          }

-- ---- behind the head

module _ (p : List ℕ) (at : ℕ) (h : Head) where
  abbrev names_of : FieldStep (List (List ℕ))
  names_of = read_names h.categories 0 [] at (rest p at)

  abbrev body_of : FieldStep Reading
  body_of = read_body h.categories h.lines h.ranges h.references at (rest p at)

  pub names_broke : {n q : ℕ} → names_of ≡ broke n q → body_of ≡ broke n q
  unfolding read_body
  names_broke e = stop _ _ e

  module _ (names categories : List ℕ) (bytes from : ℕ) (a : NamesIn p at names_of names categories h.categories bytes from) where
    pub tail_broke : {n q : ℕ} → ((ns : List (List ℕ)) → read_tail h ns from (rest p from) ≡ broke n q) → body_of ≡ broke n q
    unfolding read_body read_tail
    tail_broke e = go_on _ _ a.reads (e a.all)

    pub body_in : (definitions : List ℕ) (t : Two) (next : ℕ) → TailIn p from h definitions t next
        → BodyIn p at h (record { names = names; categories = categories; definitions = definitions; ranges = t.ranges; references = t.references }) bytes next
    unfolding read_body read_tail counts_of in_room layout
    body_in definitions t next b =
        let r : Reading = record { names = a.all; definitions = b.definitions; ranges = b.ranges } in
        record {
          reading = r;
          near = b.near;
          reads = go_on _ _ a.reads (b.reads a.all);
          counts = counts_is (counts_of r) _ _ _ _ _ a.held.count_is (sym b.lines_are) (sym b.ranges_are) (sym b.references_are) a.held.bytes_is;
          tables = tables_is (in_room (layout r)) _ _ _ _ _ a.held.stored a.held.slotted b.defined b.ranged.in_ranges b.ranged.in_references;
        }
