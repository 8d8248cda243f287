-- From the reader's promise to its entry's: two numbers one behind another are the counts, the room of the counts is asked for first, and counts that are
-- cut are read as those of no reading.
-- Assumes nothing.
use Prim.Native.Nat.{ℕ, ◌+◌, ◌*◌, ◌≤◌, ◌<◌}
use native.Mathlib.Omega.{arith}
use mathlib.Core.Path.{◌≡◌, refl, sym, ap, ◌∙◌}
use mathlib.Core.Bool.{Bool, true, false, cond, ◌&&◌}
use mathlib.Core.List.{List}
use mathlib.Core.Option.{none}
use lib.Dec.{leb}
use lib.ListN.{length}
use borrow.Author.Tests.{le-leb, lt-leb}
use Rattle.paper.specs.Refusals.{room_short}
use Rattle.paper.specs.Numbers.Bytes.{le, u16_size, u32_size}
use Rattle.paper.specs.Computed.HandedIn.{enough, holds, handed_in}
use Rattle.paper.specs.Tables.Layout.{Tables}
use Rattle.paper.specs.Tables.Lent.{num, got, zeroed, patch}
use Rattle.paper.specs.Tables.Reader.{clears}
use Rattle.paper.specs.Unk.Bad.{refused}
use Rattle.paper.specs.declared.Counts.{Counts}
use Rattle.paper.specs.declared.Refusal.{Refusal}
use Rattle.paper.proofs.Tables.Append.{patch_patch}
use Rattle.paper.proofs.Tables.Laws.{got_in}
use Rattle.unk_enter.specs.declared.UnkCounts.{UnkCounts}
use Rattle.unk.specs.Layout.{UnkTables}
use Rattle.unk.specs.Parse.{has_room, over_reading, answer_to, given, leaves, ParsesUnk}
use Rattle.exported.specs.Answer.{place_unit, counts_size}
use Rattle.terminal_unk.specs.Answer.{code_of, unk_count_bytes, unk_counts_size, counts_after, counts_in, handed_over, answer_over, ExportsUnk}
use Rattle.terminal_unk.specs.Room.{no_counts, counts_read, Gives}
use Rattle.std.specs.Prelude.{Err, Ok, Result}

-- ---- counts

pub count_patches : (a b : ℕ) (l : List ℕ) → unk_counts_size ≤ length l
    → patch 2 (le u32_size b) (patch 0 (le u16_size a) l) ≡ patch 0 (unk_count_bytes (record { entries = a; bytes = b })) l
unfolding unk_count_bytes
count_patches a b l h = patch_patch 0 2 (le u16_size a) (le u32_size b) l refl (omega arith)

abbrev pub counted : ℕ → ℕ → ℕ → ℕ → ℕ → Counts
counted a b c d e = record { categories = a; definitions = b; ranges = c; references = d; bytes = e }

module _ (l : List ℕ) where
  pub counts_cut : length l < counts_size → no_counts ≡ counts_read l
  unfolding counts_read
  counts_cut h = sym (ap (λ b. cond b (counts_in l) no_counts) (lt-leb counts_size (length l) h))

  counts_whole : counts_size ≤ length l → counts_in l ≡ counts_read l
  unfolding counts_read
  counts_whole h = sym (ap (λ b. cond b (counts_in l) no_counts) (le-leb counts_size (length l) h))

  -- five numbers got, one behind another
  pub counts_got : (a b c d e : ℕ) → counts_size ≤ length l
      → a ≡ got u16_size 0 l → b ≡ got u16_size 2 l → c ≡ got u16_size 4 l → d ≡ got u16_size 6 l → e ≡ got u16_size 8 l
      → counted a b c d e ≡ counts_read l
  unfolding counts_in
  counts_got a b c d e h pa pb pc pd pe =
      let n : ℕ → ℕ = λ at. num u16_size at l in
      ap (λ x. counted x b c d e) (pa ∙ got_in u16_size 0 l (omega arith))
      ∙ ap (λ x. counted (n 0) x c d e) (pb ∙ got_in u16_size 2 l (omega arith))
      ∙ ap (λ x. counted (n 0) (n 2) x d e) (pc ∙ got_in u16_size 4 l (omega arith))
      ∙ ap (λ x. counted (n 0) (n 2) (n 4) x e) (pd ∙ got_in u16_size 6 l (omega arith))
      ∙ ap (counted (n 0) (n 2) (n 4) (n 6)) (pe ∙ got_in u16_size 8 l (omega arith))
      ∙ counts_whole h

none_handed : (t : Tables) → handed_in t no_counts ≡ none
unfolding handed_in holds enough
none_handed t = refl

-- what is read of the counts hands over what the paper's order asks for
pub handed_same : (t : Tables) (l : List ℕ) → handed_in t (counts_read l) ≡ handed_over t l
unfolding counts_read handed_over
handed_same t l = go (leb counts_size (length l))
  where
    go : (b : Bool) → handed_in t (cond b (counts_in l) no_counts) ≡ cond b (handed_in t (counts_in l)) none
    go true = refl
    go false = none_handed t

-- ---- an outcome as C gets it

module _ (o : Result UnkCounts Refusal) (before after : List ℕ) where
  pub gives_counts : (n : UnkCounts) → o ≡ Ok n → after ≡ patch 0 (unk_count_bytes n) before → Gives o before after 0
  unfolding counts_after
  gives_counts n e h = record { number = sym (ap code_of e); counts = h ∙ sym (ap (λ x. counts_after x before) e) }

  pub gives_refusal : (x : Refusal) (r : ℕ) → o ≡ Err x → after ≡ cond (clears x.number) (zeroed unk_counts_size before) before
      → r ≡ x.number + place_unit * x.place → Gives o before after r
  unfolding counts_after
  gives_refusal x r e h k = record { number = k ∙ sym (ap code_of e); counts = h ∙ sym (ap (λ y. counts_after y before) e) }

-- ---- the entry

module _ (t : Tables) (counts text : List ℕ) (lent left : UnkTables) (room after : List ℕ) where
  over_is : (n : Counts) → unk_counts_size ≤ length room → n ≡ counts_read counts → answer_to t n text lent ≡ answer_over t counts text lent room
  unfolding answer_to answer_over
  over_is n h e =
      ap (λ m. answer_to t m text lent) e
      ∙ ap (λ x. cond (has_room lent) (over_reading x text) (refused room_short 0)) (handed_same t counts)
      ∙ sym (ap (λ b. cond (b && has_room lent) (over_reading (handed_over t counts) text) (refused room_short 0)) (le-leb unk_counts_size (length room) h))

  pub exports : (n : Counts) (o : Result UnkCounts Refusal) (r : ℕ) → unk_counts_size ≤ length room → n ≡ counts_read counts → ParsesUnk t n text lent left o
      → Gives o room after r → ExportsUnk t counts text lent left room after r
  exports n o r h e p g =
      let q : o ≡ given (answer_over t counts text lent room) = p.answer ∙ ap given (over_is n h e) in
      record {
        number = g.number ∙ ap code_of q;
        tables = p.memory ∙ ap (λ x. leaves x lent) (over_is n h e);
        counts_left = g.counts ∙ ap (λ x. counts_after x room) q;
      }

pub short_counts : (t : Tables) (counts text : List ℕ) (lent : UnkTables) (room : List ℕ) → length room < unk_counts_size
    → ExportsUnk t counts text lent lent room room room_short
unfolding answer_over leaves clears counts_after
short_counts t counts text lent room h =
    let e : answer_over t counts text lent room ≡ refused room_short 0
    = ap (λ b. cond (b && has_room lent) (over_reading (handed_over t counts) text) (refused room_short 0)) (lt-leb unk_counts_size (length room) h) in
    record {
      number = sym (ap (λ x. code_of (given x)) e);
      tables = sym (ap (λ x. leaves x lent) e);
      counts_left = sym (ap (λ x. counts_after (given x) room) e);
    }
