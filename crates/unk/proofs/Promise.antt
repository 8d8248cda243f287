-- What the promise of `parse_unk` says, in the paper's relations, and that it leaves nothing open. Assumes nothing.
use Prim.Native.Nat.{ℕ, ◌≤◌}
use native.Mathlib.Omega.{arith}
use mathlib.Core.Path.{◌≡◌, refl, sym, ap, ◌∙◌, subst}
use mathlib.Core.Logic.{◌↔◌}
use mathlib.Core.Bool.{true, false, cond}
use mathlib.Core.List.{List, map}
use mathlib.Core.Option.{Option, none, some}
use lib.ListN.{length, get_elem?, length-map}
use Rattle.paper.specs.Sizes.{max_categories, max_unk_entries, max_detail_bytes}
use Rattle.paper.specs.Refusals.{room_short, tables_apart}
use Rattle.paper.specs.Lists.{joined, sum, offsets_from}
use Rattle.paper.specs.Numbers.Bytes.{le, u32_size}
use Rattle.paper.specs.CharDef.Reading.{Reading}
use Rattle.paper.specs.Unk.Entry.{Entry, Unk, UnkFits, CategoryEntries, stored, unk_of, entries_of}
use Rattle.paper.specs.Unk.Bad.{UnkAnswer, accepted, refused, UnkRefused}
use Rattle.paper.specs.Computed.HandedIn.{decoded, holds, handed_in}
use Rattle.paper.specs.Computed.ReadUnk.{read_unk}
use Rattle.paper.specs.Tables.Layout.{Tables, reference_size}
use Rattle.paper.specs.Tables.Reader.{clears}
use Rattle.paper.specs.declared.Counts.{Counts}
use Rattle.paper.specs.declared.Refusal.{Refusal}
use Rattle.paper.proofs.Apart.{zero_one}
use Rattle.paper.proofs.Lists.Facts.{joined_length, offsets_length}
use Rattle.paper.proofs.Tables.Laws.{le_length, table_length}
use Rattle.paper.proofs.Unk.Details.{details_fit}
use Rattle.paper.proofs.Unk.Members.{category_entries}
use Rattle.paper.proofs.Unk.Refused.{unk_refused_exactly}
use Rattle.paper.proofs.Unk.Text.{unk_accepts}
use Rattle.room.proofs.Five.{past_padded, past_zero, past_either, by_test}
use Rattle.unk_enter.specs.declared.UnkCounts.{UnkCounts}
use Rattle.unk.specs.Layout.{UnkTables, layout}
use Rattle.unk_enter.specs.Fields.{entry_size, offset_size}
use Rattle.unk_enter.specs.Lines.{mark_in, entry_bytes}
use Rattle.unk_members.specs.Members.{lists_from, tallies, member_table}
use Rattle.unk.specs.Parse.{entries_size, offsets_size, places_size, members_size, has_room, over_reading, answer_to, counts_of, given, in_room, past, behind, cleared, leaves, ParsesUnk}
use Rattle.unk.specs.Filled.{marks_of, laid_out}
use Rattle.unk.proofs.Room.{tables_is, RoomIn, room_in}
use Rattle.unk_enter.proofs.Entered.{wide_word}
use Rattle.unk_members.proofs.Tallies.{tallies_length, sum_tallies}
use Rattle.unk_members.proofs.Places.{place_length}
use Rattle.unk_members.proofs.Passes.{lists_tallies}
use Rattle.unk.proofs.Laid.{laid_out_is}
use Rattle.unk.proofs.Whole.{named, few_categories, handed_true, handed_decoded, short_answer, has_answer}
use Rattle.std.specs.Prelude.{Err, Ok, Result}

-- ---- NOTHING IS LEFT OPEN: two outcomes that the promise allows coincide, in the answer and in the memory

pub parsed_one : {t : Tables} {n : Counts} {text : List ℕ} {lent a b : UnkTables} {r s : Result UnkCounts Refusal}
    → ParsesUnk t n text lent a r → ParsesUnk t n text lent b s → (r ≡ s) × (a ≡ b)
parsed_one p q = (p.answer ∙ sym q.answer, p.memory ∙ sym q.memory)

-- ---- the answers, by the enum's case

accepted_is : (a : UnkAnswer) (c : UnkCounts) → Ok c ≡ given a → (u : Unk) × (a ≡ accepted u) × (c ≡ counts_of u)
accepted_is (accepted u) c e = (u, refl, cc)
accepted_is (refused k place) c e = zero_one (cc)

refused_is : (a : UnkAnswer) (x : Refusal) → Err x ≡ given a → a ≡ refused x.number x.place
refused_is (accepted u) x e = zero_one (cc)
refused_is (refused k place) x e =
    let i : x ≡ record { number = k; place = place } = cc in
    sym (ap (λ y. refused y.number y.place) i)

module _ {t : Tables} {n : Counts} {text : List ℕ} {lent after : UnkTables} {r : Result UnkCounts Refusal} (p : ParsesUnk t n text lent after r) where
  -- ---- refusal 1: where the room is short, and nothing is changed

  pub short_exactly : has_room lent ≡ false → (r ≡ Err (record { number = room_short; place = 0 })) × (after ≡ lent)
  unfolding leaves clears
  short_exactly e =
      let a : answer_to t n text lent ≡ refused room_short 0 = short_answer t n text lent e in
      (p.answer ∙ ap given a, p.memory ∙ ap (λ x. leaves x lent) a)

  module _ (room : has_room lent ≡ true) where
    over : answer_to t n text lent ≡ over_reading (handed_in t n) text
    over = has_answer t n text lent room

    -- ---- refusal 26: where the tables hold no reading, and nothing is changed

    pub apart_exactly : handed_in t n ≡ none → (r ≡ Err (record { number = tables_apart; place = 0 })) × (after ≡ lent)
    unfolding leaves clears
    apart_exactly e =
        let a : answer_to t n text lent ≡ refused tables_apart 0 = over ∙ ap (λ x. over_reading x text) e in
        (p.answer ∙ ap given a, p.memory ∙ ap (λ x. leaves x lent) a)

    -- ---- over a reading

    module _ (q : Reading) (handed : handed_in t n ≡ some q) where
      answered_so : answer_to t n text lent ≡ read_unk q.names text
      answered_so = over ∙ ap (λ x. over_reading x text) handed

      -- accepted exactly when something fits, with its counts
      pub accepted_exactly : (c : UnkCounts) → (r ≡ Ok c) ↔ ((u : Unk) × UnkFits q.names text u × (c ≡ counts_of u))
      accepted_exactly c = (to, from)
        where
          to : r ≡ Ok c → (u : Unk) × UnkFits q.names text u × (c ≡ counts_of u)
          to e =
              let (u, a, d) = accepted_is (read_unk q.names text) c (sym e ∙ p.answer ∙ ap given answered_so) in
              (u, (unk_accepts q.names text u).0 a, d)

          from : (u : Unk) × UnkFits q.names text u × (c ≡ counts_of u) → r ≡ Ok c
          from (u, f, d) = p.answer ∙ ap given (answered_so ∙ (unk_accepts q.names text u).1 f) ∙ ap Ok (sym d)

      -- a refused text has exactly this number and place
      pub refused_exactly : (x : Refusal) → (r ≡ Err x) ↔ UnkRefused text x.number x.place
      refused_exactly x = (
        λ e. (unk_refused_exactly q.names text x.number x.place).0 (refused_is (read_unk q.names text) x (sym e ∙ p.answer ∙ ap given answered_so)),
        λ b. p.answer ∙ ap given (answered_so ∙ (unk_refused_exactly q.names text x.number x.place).1 b),
      )

      -- the tables of what fits, and what lay past the sizes
      pub holds_tables : (u : Unk) → UnkFits q.names text u → after ≡ behind (in_room (layout u)) (past lent)
      unfolding leaves
      holds_tables u f = p.memory ∙ ap (λ a. leaves a lent) (answered_so ∙ (unk_accepts q.names text u).1 f)

      -- a refusal leaves zero up to the sizes, or all as it was: 23 to 25 are those that clear
      pub refusal_leaves : (k place : ℕ) → UnkRefused text k place → after ≡ cond (clears k) (cleared lent) lent
      unfolding leaves
      refusal_leaves k place b = p.memory ∙ ap (λ a. leaves a lent) (answered_so ∙ (unk_refused_exactly q.names text k place).1 b)

-- ---- a category's list is exactly the entries with its name, ascending

pub category_list : (names : List (List ℕ)) (text : List ℕ) (u : Unk) (f : UnkFits names text u) (c : ℕ) (ks : List ℕ)
    → (entries_of u c ≡ some ks) ↔ ((name : List ℕ) × (get_elem? names c ≡ some name) × CategoryEntries name f.entries ks)
category_list names text u f c ks = category_entries names text u f c ks

-- ---- the tables fit the sizes: details never run out, nor do members

pub record FitsRoom (t : UnkTables) : Type 0 where
  pub entries : length t.entries ≤ entries_size
  pub offsets : length t.offsets ≤ offsets_size
  pub details : length t.details ≤ max_detail_bytes
  pub places : length t.places ≤ places_size
  pub members : length t.members ≤ members_size

laid_fits : (mark : List ℕ → ℕ) (count : ℕ) (es : List Entry) → count ≤ max_categories → length es ≤ max_unk_entries → length (joined (map stored es)) ≤ max_detail_bytes
    → FitsRoom (laid_out mark count es)
unfolding laid_out member_table
laid_fits mark count es few many short =
    let a = table_length entry_size (entry_bytes mark) (wide_word mark) es in
    let b = table_length offset_size (le u32_size) (le_length u32_size) (offsets_from 0 (map stored es)) in
    let b' : length (offsets_from 0 (map stored es)) ≡ length es = offsets_length 0 (map stored es) ∙ length-map es stored in
    let d = place_length (map length (lists_from 0 count (marks_of mark es))) in
    let d' : length (map length (lists_from 0 count (marks_of mark es))) ≡ count = sym (ap length (lists_tallies 0 count (marks_of mark es))) ∙ tallies_length 0 count (marks_of mark es) in
    let e = table_length reference_size (le reference_size) (le_length reference_size) (joined (lists_from 0 count (marks_of mark es))) in
    let e' : length (joined (lists_from 0 count (marks_of mark es))) ≡ sum (tallies 0 count (marks_of mark es))
    = joined_length (lists_from 0 count (marks_of mark es)) ∙ sym (ap sum (lists_tallies 0 count (marks_of mark es))) in
    let e'' = sum_tallies 0 count (marks_of mark es) in
    let m : length (marks_of mark es) ≡ length es = length-map es (λ x. mark x.category) in
    record { entries = omega arith; offsets = omega arith; details = short; places = omega arith; members = omega arith }

module _ (t : Tables) (n : Counts) (q : Reading) (handed : handed_in t n ≡ some q) where
  pub tables_fit : (text : List ℕ) (u : Unk) → UnkFits q.names text u → FitsRoom (layout u)
  unfolding unk_of
  tables_fit text u f =
      let h : holds t n ≡ true = handed_true t n q handed in
      let e : u ≡ unk_of (decoded t n).names f.entries = f.says ∙ ap (λ (x : Reading). unk_of x.names f.entries) (sym (handed_decoded t n q handed)) in
      let s : length (joined (map stored f.entries)) ≤ max_detail_bytes = subst (λ (x : Unk). length x.store ≤ max_detail_bytes) f.says (details_fit q.names text u f) in
      subst FitsRoom (laid_out_is (named t n h) f.entries ∙ ap layout (sym e))
      (laid_fits (mark_in t.names t.categories n.categories) n.categories f.entries (few_categories t n h) f.few s)

-- ---- past the sizes memory is untouched, whatever the answer

past_filled : (lent x : UnkTables) → FitsRoom x → past (behind (in_room x) (past lent)) ≡ past lent
unfolding past behind in_room
past_filled lent x w =
    tables_is (past lent) _ _ _ _ _ (past_padded entries_size x.entries (past lent).entries w.entries) (past_padded offsets_size x.offsets (past lent).offsets w.offsets)
    (past_padded max_detail_bytes x.details (past lent).details w.details) (past_padded places_size x.places (past lent).places w.places)
    (past_padded members_size x.members (past lent).members w.members)

past_cleared : (lent : UnkTables) → RoomIn lent → past (cleared lent) ≡ past lent
unfolding past cleared
past_cleared lent h =
    tables_is (past lent) _ _ _ _ _ (past_zero entries_size lent.entries h.first) (past_zero offsets_size lent.offsets h.second)
    (past_zero max_detail_bytes lent.details h.third) (past_zero places_size lent.places h.fourth) (past_zero members_size lent.members h.fifth)

pub past_kept : {t : Tables} {n : Counts} {text : List ℕ} {lent after : UnkTables} {r : Result UnkCounts Refusal} → ParsesUnk t n text lent after r → past after ≡ past lent
unfolding leaves
past_kept {t} {n} {text} {lent} {after} p = by_test (has_room lent) (λ room. by_reading room (handed_in t n) refl) (λ e. ap past (short_exactly p e).1)
  where
    by_answer : (q : Reading) → handed_in t n ≡ some q → (a : UnkAnswer) → read_unk q.names text ≡ a → RoomIn lent → past (leaves a lent) ≡ past lent
    by_answer q handed (accepted u) e h = past_filled lent (layout u) (tables_fit t n q handed text u ((unk_accepts q.names text u).0 e))
    by_answer q handed (refused k place) e h = past_either past (clears k) (past_cleared lent h)

    by_reading : has_room lent ≡ true → (o : Option Reading) → handed_in t n ≡ o → past after ≡ past lent
    by_reading room none e = ap past (apart_exactly p room e).1
    by_reading room (some q) e =
        ap past (p.memory ∙ ap (λ a. leaves a lent) (answered_so p room q e)) ∙ by_answer q e (read_unk q.names text) refl (room_in lent (sym room))
