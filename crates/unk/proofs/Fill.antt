-- Tables of the sizes, from zero to what the lines say: zero memory holds no entries, and at the end the entry table's marks are the entries'.
-- Assumes nothing.
use Prim.Native.Nat.{ℕ, ◌-◌, ◌≤◌}
use native.Mathlib.Omega.{arith}
use mathlib.Core.Path.{◌≡◌, refl, sym, ap, ap₂, ◌∙◌, subst}
use mathlib.Core.List.{List, [], ◌∷◌, map}
use mathlib.Core.Option.{Option, none, some}
use lib.Dec.{T, leb}
use lib.ListN.{length, replicate}
use mir.Facts.{yes_and, yes_leb}
use Rattle.paper.specs.Sizes.{max_categories, max_detail_bytes}
use Rattle.paper.specs.Lists.{all, joined}
use Rattle.paper.specs.Rows.Lookup.{Looked, gives, refuses}
use Rattle.paper.specs.Rows.Numbers.{find_name}
use Rattle.paper.specs.Tables.Layout.{pieces}
use Rattle.paper.specs.Tables.Lent.{num, padded}
use Rattle.paper.specs.Unk.Entry.{Entry}
use Rattle.paper.specs.Computed.ReadUnk.{Entries}
use Rattle.paper.proofs.Tables.Laws.{value_le, pieces_table}
use Rattle.unk_enter.specs.declared.UnkCounts.{UnkCounts}
use Rattle.unk.specs.Layout.{UnkTables}
use Rattle.unk_enter.specs.Fields.{entry_size, mark_at, word_bytes}
use Rattle.unk_enter.specs.Lines.{mark_said, mark_in, Memory, entry_bytes, Held}
use Rattle.unk.specs.Walk.{WalkEnded}
use Rattle.unk_members.specs.Members.{marks_in, lists_from, Marked, place_table, member_table, Listed}
use Rattle.unk.specs.Parse.{entries_size, offsets_size, places_size, members_size, in_room}
use Rattle.std.specs.Prelude.{Result, Ok, Err, true, is_err}
use Rattle.paper.specs.declared.Refusal.{Refusal}
use Rattle.paper.proofs.Apart.{true_false}
use Rattle.unk.specs.Filled.{no_tables, marks_of, laid_out, LinesAccepted, TablesFilled, LinesRead}
use Rattle.unk.proofs.Room.{tables_is}
use Rattle.unk_enter.proofs.Marks.{found_below}
use Rattle.unk_enter.proofs.Entered.{wide_word, entries_long}

-- ---- before

module _ {t : UnkTables} (e : t ≡ in_room no_tables) where
  pub zero_entries : t.entries ≡ padded entries_size []
  unfolding in_room no_tables
  zero_entries = ap (λ u. u.entries) e

  pub zero_offsets : t.offsets ≡ padded offsets_size []
  unfolding in_room no_tables
  zero_offsets = ap (λ u. u.offsets) e

  pub zero_details : t.details ≡ padded max_detail_bytes []
  unfolding in_room no_tables
  zero_details = ap (λ u. u.details) e

  pub zero_places : t.places ≡ padded places_size []
  unfolding in_room no_tables
  zero_places = ap (λ u. u.places) e

  pub zero_members : t.members ≡ padded members_size []
  unfolding in_room no_tables
  zero_members = ap (λ u. u.members) e

  pub holds_none : (mark : List ℕ → ℕ) → Held mark [] (record { entries = t.entries; offsets = t.offsets; details = t.details }) (record { entries = 0; bytes = 0 })
  holds_none mark =
      record {
        entries_are = refl;
        few = omega arith;
        bytes_are = refl;
        short = omega arith;
        in_entries = zero_entries;
        in_offsets = zero_offsets;
        in_details = zero_details;
      }

-- ---- marks

-- a mark is a category's number and 1, or 0
pub mark_most : (store table : List ℕ) (count : ℕ) (name : List ℕ) → mark_in store table count name ≤ count
unfolding mark_in
mark_most store table count name = go (find_name store table count name) refl
  where
    go : (r : Looked (Option ℕ)) → find_name store table count name ≡ r → mark_said r ≤ count
    go (gives none) e = omega arith
    go (gives (some k)) e = let h = found_below store table count name k e in omega arith
    go (refuses n) e = omega arith

mark_read : (l r c k : ℕ) → k ≤ max_categories → num 2 mark_at (word_bytes l r c k) ≡ k
unfolding num word_bytes
mark_read l r c k h = value_le 2 k (omega arith)

module _ (mark : List ℕ → ℕ) (count : ℕ) (most : (name : List ℕ) → mark name ≤ count) (small : count ≤ max_categories) where
  marks_read : (es : List Entry) → map (num 2 mark_at) (map (entry_bytes mark) es) ≡ marks_of mark es
  marks_read [] = refl
  marks_read (e ∷ es) =
      ap₂ (λ x l. x ∷ l) (mark_read e.left e.right e.cost (mark e.category) (let h = most e.category in omega arith)) (marks_read es)

  marks_below : (es : List Entry) → T (all (λ m. leb m count) (marks_of mark es))
  marks_below [] = tt
  marks_below (e ∷ es) = yes_and (leb (mark e.category) count) (all (λ m. leb m count) (marks_of mark es)) (yes_leb (most e.category)) (marks_below es)

  module _ {es : List Entry} {m : Memory} {c : UnkCounts} (z : Held mark es m c) where
    pub marks_are : marks_in c.entries m.entries ≡ marks_of mark es
    unfolding marks_in padded
    marks_are =
        ap₂ (λ n l. map (num 2 mark_at) (pieces entry_size n l)) z.entries_are z.in_entries
        ∙ ap (map (num 2 mark_at)) (pieces_table entry_size (entry_bytes mark) (wide_word mark) es (replicate (entries_size - length (joined (map (entry_bytes mark) es))) 0))
        ∙ marks_read es

    pub marked : Marked m.entries c.entries count
    marked =
        let a = entries_long z in
        let b = z.few in
        record { long = omega arith; few = z.few; small = small; below = subst (λ ms. T (all (λ k. leb k count) ms)) (sym marks_are) (marks_below es) }

  -- ---- after

  pub filled : {a : Entries} {m : Memory} {c : UnkCounts} (w : WalkEnded mark a m c) (places members : List ℕ)
      → Listed count (marks_in c.entries m.entries) places members
      → LinesAccepted mark count a (record { entries = m.entries; offsets = m.offsets; details = m.details; places = places; members = members }) c
  unfolding in_room laid_out
  filled w places members l =
      let z = w.held in
      record {
        entries = w.entries;
        is = w.is;
        entries_counted = z.entries_are;
        bytes_counted = z.bytes_are;
        tables = tables_is (in_room (laid_out mark count w.entries)) _ _ _ _ _ z.in_entries z.in_offsets z.in_details
            (l.in_places ∙ ap (λ ms. padded places_size (place_table (map length (lists_from 0 count ms)))) (marks_are z))
            (l.in_members ∙ ap (λ ms. padded members_size (member_table (lists_from 0 count ms))) (marks_are z));
      }

-- ---- where the walk stopped

pub refused_into : (mark : List ℕ → ℕ) (count : ℕ) (a : Entries) (before : UnkTables) {after : UnkTables} (r : Result UnkCounts Refusal)
    → is_err r ≡ true → TablesFilled mark count a before r → after ≡ in_room no_tables → LinesRead mark count a after r
refused_into mark count a before (Ok n) e h t = true_false (sym e)
refused_into mark count a before (Err x) e h t = record { is = h; tables = t }
