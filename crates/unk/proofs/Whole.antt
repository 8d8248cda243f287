-- From the parts to the whole: which answer each way through `parse_unk` is, and what it leaves. Assumes nothing.
use Prim.Native.Nat.{ℕ, suc, ◌≤◌, ◌<◌}
use native.Mathlib.Nat.{le_refl}
use native.Mathlib.Omega.{arith}
use mathlib.Core.Path.{◌≡◌, refl, sym, ap, ◌∙◌, subst}
use mathlib.Core.Bool.{Bool, true, false, cond}
use mathlib.Core.List.{List, [], ◌∷◌, ◌++◌, map}
use mathlib.Core.Option.{none, some}
use lib.ListN.{length, take, drop, length-map}
use lib.Seq.{take-length}
use mir.Facts.{and_yes}
use borrow.Author.Tests.{le-ltb}
use Rattle.paper.specs.Sizes.{max_text_bytes, max_categories, max_detail_bytes}
use Rattle.paper.specs.Refusals.{room_short, text_long, text_ill_formed, tables_apart}
use Rattle.paper.specs.Lists.{joined}
use Rattle.paper.specs.Text.Scalar.{WellFormed, LongestPrefix}
use Rattle.paper.specs.CharDef.Reading.{Reading}
use Rattle.paper.specs.Unk.Entry.{Entry, stored, unk_of}
use Rattle.paper.specs.Unk.Bad.{accepted, refused, BadUnkLine, fields_short, number_unreadable, entries_full, too_long, ill_formed}
use Rattle.paper.specs.Computed.Decode.{chars, decode}
use Rattle.paper.specs.Computed.HandedIn.{enough, name_slots_in, names_in, decoded, holds, handed_in}
use Rattle.paper.specs.Computed.ReadUnk.{stops, read_entries, unk_lines, answer_unk, read_unk_text, read_unk}
use Rattle.paper.specs.Tables.Layout.{Tables, split, pieces, name_slot_of, name_slot_size}
use Rattle.paper.specs.Tables.Reader.{clears}
use Rattle.paper.specs.declared.Counts.{Counts}
use Rattle.paper.proofs.Apart.{none_some}
use Rattle.paper.proofs.Lists.Facts.{true→T}
use Rattle.paper.proofs.Rows.Numbers.{name_found, name_back}
use Rattle.paper.proofs.Tables.Laws.{pieces_length}
use Rattle.paper.proofs.Tables.Trip.{says}
use Rattle.paper.proofs.Text.Code.{decode_complete, well_formed}
use Rattle.paper.proofs.Unk.Refused.{unk_first_bad, unk_refused_exactly}
use Rattle.unk_enter.specs.declared.UnkCounts.{UnkCounts}
use Rattle.unk.specs.Layout.{UnkTables}
use Rattle.unk_enter.specs.Lines.{mark_in}
use Rattle.unk.specs.Parse.{entries_size, offsets_size, places_size, members_size, has_room, over_reading, answer_to, counts_of, given, in_room, past, behind, cleared, leaves, ParsesUnk}
use Rattle.unk.specs.Filled.{LinesRead, Judges, SoundInput, UnsoundInput}
use Rattle.unk.proofs.Room.{room_in, cleared_is}
use Rattle.unk.proofs.Laid.{Named, laid_out_is}
use Rattle.std.specs.Prelude.{Err, Ok, Result}
use Rattle.paper.specs.declared.Refusal.{Refusal}

-- ---- a reading's names

split_length : (ns l : List ℕ) → length (split ns l) ≡ length ns
unfolding split
split_length [] l = refl
split_length (n ∷ ns) l = ap suc (split_length ns (drop n l))

module _ (t : Tables) (n : Counts) (h : holds t n ≡ true) where
  pub handed : handed_in t n ≡ some (decoded t n)
  unfolding handed_in
  handed = ap (λ b. cond b (some (decoded t n)) none) h

  names_counted : length (decoded t n).names ≡ n.categories
  unfolding decoded names_in name_slots_in
  names_counted =
      split_length (map (λ p. p.len) (map name_slot_of (pieces name_slot_size n.categories t.categories))) t.names
      ∙ length-map (map name_slot_of (pieces name_slot_size n.categories t.categories)) (λ p. p.len)
      ∙ length-map (pieces name_slot_size n.categories t.categories) name_slot_of
      ∙ pieces_length name_slot_size n.categories t.categories

  pub named : Named t.names t.categories n.categories (decoded t n).names
  named = record { found = name_found t n (decoded t n) handed; back = name_back t n (decoded t n) handed; counted = names_counted }

  pub few_categories : n.categories ≤ max_categories
  unfolding holds
  few_categories =
      (says _ _ _ _ _ n
      (and_yes (enough (length t.names) (length t.categories) (length t.definitions) (length t.ranges) (length t.references) n) _ (true→T _ h)).0).limits.0

-- the other way round
module _ (t : Tables) (n : Counts) (q : Reading) (e : handed_in t n ≡ some q) where
  pub handed_true : holds t n ≡ true
  unfolding handed_in
  handed_true = go (holds t n) e
    where
      go : (b : Bool) → cond b (some (decoded t n)) none ≡ some q → b ≡ true
      go true h = refl
      go false h = none_some h

  pub handed_decoded : decoded t n ≡ q
  handed_decoded = let h = sym (handed t n handed_true) ∙ e in cc

-- ---- before any line

module _ (t : Tables) (n : Counts) (text : List ℕ) where
  pub apart : {x : Bool} → x ≡ holds t n → x ≡ false → UnsoundInput t n text tables_apart 0
  unfolding handed_in clears
  apart e h =
      let f : holds t n ≡ false = sym e ∙ h in
      record { is = ap (λ b. over_reading (cond b (some (decoded t n)) none) text) f; kept = refl }

  pub holding : {x : Bool} → x ≡ holds t n → x ≡ true → holds t n ≡ true
  holding e h = sym e ∙ h

  module _ (h : holds t n ≡ true) where
    over : over_reading (handed_in t n) text ≡ read_unk (decoded t n).names text
    over = ap (λ r. over_reading r text) (handed t n h)

    pub long_text : max_text_bytes < length text → UnsoundInput t n text text_long 0
    unfolding clears
    long_text l = record { is = over ∙ (unk_refused_exactly (decoded t n).names text text_long 0).1 (too_long l); kept = refl }

    module _ (short : length text ≤ max_text_bytes) {p : ℕ} (z : LongestPrefix p text) where
      pub ill_text : p < length text → UnsoundInput t n text text_ill_formed p
      unfolding clears
      ill_text l = record { is = over ∙ (unk_refused_exactly (decoded t n).names text text_ill_formed p).1 (ill_formed short ill z); kept = refl }
        where
          ill : WellFormed text → ⊥
          ill w = let k = z.longest (length text) (le_refl (length text)) (subst WellFormed (sym (take-length text)) w) in omega arith

      pub sound : length text ≤ p → SoundInput t n text
      sound l =
          let i = z.inside in
          let e : p ≡ length text = omega arith in
          record { holding = h; short = short; formed = subst WellFormed (ap (λ k. take k text) e ∙ take-length text) z.fits }

pub judged_as : (t : Tables) (n : Counts) (text : List ℕ) (s : Result Unit Refusal) {r : Result Unit Refusal} → r ≡ s → Judges t n text r → Judges t n text s
judged_as t n text s e h = subst (Judges t n text) e h

-- ---- the lines

lines_answer : (names : List (List ℕ)) (text : List ℕ) → length text ≤ max_text_bytes → WellFormed text → read_unk names text ≡ answer_unk names (read_entries 1 (unk_lines text))
unfolding read_unk decode
lines_answer names text h w =
    let (cs, e, sc) = (well_formed text).0 w in
    let d : decode text ≡ chars cs = ap decode e ∙ decode_complete cs 0 sc in
    rw (le-ltb max_text_bytes (length text) h) (ap (read_unk_text names text) d)

-- what a line is refused by clears the room
bad_clears : {before : ℕ} {cs : List ℕ} {k : ℕ} → BadUnkLine before cs k → clears k ≡ true
unfolding clears
bad_clears (fields_short u) = refl
bad_clears (number_unreadable u) = refl
bad_clears (entries_full u full) = refl

line_clears : (text : List ℕ) (k place : ℕ) → read_entries 1 (unk_lines text) ≡ stops k place → clears k ≡ true
line_clears text k place e = bad_clears ((unk_first_bad text k place).0 e).wrong

-- an entry's numbers
numbers_of : Entry → ℕ × ℕ × ℕ
numbers_of e = (e.left, e.right, e.cost)

counts_is : (c d : UnkCounts) → c.entries ≡ d.entries → c.bytes ≡ d.bytes → c ≡ d
counts_is c d p q = λ i. record { entries = p i; bytes = q i }

counted : (names : List (List ℕ)) (es : List Entry) (c : UnkCounts) → c.entries ≡ length es → c.bytes ≡ length (joined (map stored es)) → c ≡ counts_of (unk_of names es)
unfolding counts_of unk_of numbers_of
counted names es c p q = counts_is c (counts_of (unk_of names es)) (p ∙ sym (length-map es numbers_of)) q

-- ---- the ways through

module _ (t : Tables) (n : Counts) (text : List ℕ) (lent : UnkTables) where
  pub short_answer : has_room lent ≡ false → answer_to t n text lent ≡ refused room_short 0
  unfolding answer_to
  short_answer e = ap (λ b. cond b (over_reading (handed_in t n) text) (refused room_short 0)) e

  pub has_answer : has_room lent ≡ true → answer_to t n text lent ≡ over_reading (handed_in t n) text
  unfolding answer_to
  has_answer e = ap (λ b. cond b (over_reading (handed_in t n) text) (refused room_short 0)) e

  unchanged : (k place : ℕ) → answer_to t n text lent ≡ refused k place → clears k ≡ false → ParsesUnk t n text lent lent (Err (record { number = k; place = place }))
  unfolding leaves
  unchanged k place e h =
      record {
        answer = ap given (sym e);
        memory = sym (ap (λ x. leaves x lent) e ∙ ap (λ b. cond b (cleared lent) lent) h);
      }

  pub short_room : false ≡ has_room lent → ParsesUnk t n text lent lent (Err (record { number = room_short; place = 0 }))
  unfolding clears
  short_room e = unchanged room_short 0 (short_answer (sym e)) refl

  module _ (room : true ≡ has_room lent) where
    pub unsound : (k place : ℕ) → UnsoundInput t n text k place → ParsesUnk t n text lent lent (Err (record { number = k; place = place }))
    unsound k place u = unchanged k place (has_answer (sym room) ∙ u.is) u.kept

    module _ (s : SoundInput t n text) where
      names : List (List ℕ)
      names = (decoded t n).names

      by_lines : answer_to t n text lent ≡ answer_unk names (read_entries 1 (unk_lines text))
      unfolding names
      by_lines = has_answer (sym room) ∙ over t n text s.holding ∙ lines_answer (decoded t n).names text s.short s.formed

      into : (part after : UnkTables) → after ≡ behind part (past lent) → (r : Result UnkCounts Refusal)
          → LinesRead (mark_in t.names t.categories n.categories) n.categories (read_entries 1 (unk_lines text)) part r → ParsesUnk t n text lent after r
      unfolding leaves names
      into part after e (Ok c) z =
          let i : answer_to t n text lent ≡ accepted (unk_of names z.entries) = by_lines ∙ ap (answer_unk names) z.is in
          record {
            answer = ap Ok (counted names z.entries c z.entries_counted z.bytes_counted) ∙ ap given (sym i);
            memory = e ∙ ap (λ x. behind x (past lent)) (z.tables ∙ ap in_room (laid_out_is (named t n s.holding) z.entries)) ∙ ap (λ x. leaves x lent) (sym i);
          }
      into part after e (Err x) z =
          let i : answer_to t n text lent ≡ refused x.number x.place = by_lines ∙ ap (answer_unk names) z.is in
          record {
            answer = ap given (sym i);
            memory = e ∙ ap (λ y. behind y (past lent)) z.tables ∙ cleared_is lent (room_in lent room)
                ∙ sym (ap (λ y. leaves y lent) i ∙ ap (λ b. cond b (cleared lent) lent) (line_clears text x.number x.place z.is));
          }

      -- what lies past the sizes stays behind the parts that were lent
      pub lines_parsed : (part : UnkTables) (r : Result UnkCounts Refusal)
          → LinesRead (mark_in t.names t.categories n.categories) n.categories (read_entries 1 (unk_lines text)) part r
          → ParsesUnk t n text lent
          (record {
            entries = part.entries ++ drop entries_size lent.entries;
            offsets = part.offsets ++ drop offsets_size lent.offsets;
            details = part.details ++ drop max_detail_bytes lent.details;
            places = part.places ++ drop places_size lent.places;
            members = part.members ++ drop members_size lent.members;
          }) r
      unfolding behind past
      lines_parsed part r z = into part (behind part (past lent)) refl r z
