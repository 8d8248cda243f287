-- The walk over the lines: what is left of them, read behind the entries so far, gives the answer to all. Assumes nothing.
use Prim.Native.Nat.{ℕ, suc, ◌+◌, ◌-◌, ◌≤◌, ◌<◌}
use native.Mathlib.Numerals.{add-one}
use native.Mathlib.Omega.{arith}
use native.Mathlib.Decide.{dec_le}
use mathlib.Core.Path.{◌≡◌, refl, sym, ap, ap₂, ◌∙◌}
use mathlib.Core.Bool.{not}
use mathlib.Core.List.{List, [], ◌∷◌, ◌++◌, map, append_assoc, append-nil}
use lib.Dec.{T}
use lib.ListN.{length, take, drop, length-append, length-drop, drop_of_length-le}
use lib.Seq.{take-length}
use borrow.Author.Tests.{le-ltb}
use Rattle.paper.specs.Sizes.{max_text_bytes, max_categories, max_unk_entries}
use Rattle.paper.specs.Lists.{empty, is, until, cut, joined}
use Rattle.paper.specs.Text.Scalar.{lf}
use Rattle.paper.specs.Unk.Entry.{Entry, stored}
use Rattle.paper.specs.Computed.ReadUnk.{drop_cr, from_pieces, unk_lines, UnkFound, unk_line_of, Entries, entries_are, stops, cons_entry, enter_unk, read_entries}
use Rattle.paper.proofs.Lists.Parts.{part_length}
use Rattle.paper.proofs.Tables.Append.{table_snoc}
use Rattle.paper.proofs.Unk.Details.{entry_short}
use Rattle.paper.proofs.Unk.Line.{unk_line}
use Rattle.unk_line.proofs.Commas.{piece_from, piece_upto, piece_first, piece_last}
use Rattle.unk_line.proofs.Joined.{cut_some}
use Rattle.unk_enter.specs.declared.UnkCounts.{UnkCounts}
use Rattle.unk_enter.specs.Lines.{Inside, Memory, Held, Asked, Working, Went}
use Rattle.unk.specs.Walk.{LineStops, WalkEnded}

-- ---- the lines from a place on

lines_more : (l : List ℕ) (ls : List (List ℕ)) → T (not (empty ls)) → from_pieces (l ∷ ls) ≡ drop_cr l ∷ from_pieces ls
lines_more l [] n = absurd n
lines_more l (m ∷ ls) n = refl

lines_one : (l : List ℕ) → 0 < length l → from_pieces (l ∷ []) ≡ l ∷ []
lines_one [] h = absurd (omega arith)
lines_one (x ∷ l) h = refl

pub lines_none : (text : List ℕ) (at : ℕ) → length text ≤ at → unk_lines (drop at text) ≡ []
unfolding unk_lines
lines_none text at h = ap (λ l. from_pieces (cut (is lf) l)) (drop_of_length-le text h)

-- where the LF of the line at `at` is sought
abbrev pub EndsAt : List ℕ → ℕ → ℕ → Type 0
EndsAt text at end = end ≡ at + length (until (is lf) (drop at (take (length text) text)))

module _ (text : List ℕ) (at end : ℕ) (h : at < length text) (e : EndsAt text at end) where
  whole : take (length text) text ≡ text
  whole = take-length text

  pub line_inside : Inside text at end
  line_inside =
      record {
        order = piece_from lf text at (length text) end (omega arith) e;
        within = piece_upto lf text at (length text) end (omega arith) e (omega arith);
      }

  lines_next_LF : end < length text → unk_lines (drop at text) ≡ drop_cr (drop at (take end text)) ∷ unk_lines (drop (end + 1) text)
  unfolding unk_lines
  lines_next_LF g =
      ap (λ t. from_pieces (cut (is lf) (drop at t))) (sym whole)
      ∙ ap from_pieces (piece_first lf text at (length text) end (omega arith) e g)
      ∙ lines_more (drop at (take end text)) (cut (is lf) (drop (end + 1) (take (length text) text))) (cut_some (is lf) (drop (end + 1) (take (length text) text)))
      ∙ ap (λ t. drop_cr (drop at (take end text)) ∷ from_pieces (cut (is lf) (drop (end + 1) t))) whole

  lines_last : length text ≤ end → unk_lines (drop at text) ≡ drop at text ∷ []
  unfolding unk_lines
  lines_last g =
      let l : length (drop at text) ≡ length text - at = length-drop at text in
      ap (λ t. from_pieces (cut (is lf) (drop at t))) (sym whole)
      ∙ ap from_pieces (piece_last lf text at (length text) end (omega arith) e g)
      ∙ ap (λ t. from_pieces (drop at t ∷ [])) whole
      ∙ lines_one (drop at text) (omega arith)

  pub lines_next : (stop : ℕ) → LineStops text at end stop → unk_lines (drop at text) ≡ drop at (take stop text) ∷ unk_lines (drop (end + 1) text)
  lines_next stop s = elim (dec_le (length text) end) [
    | yes g ↦ final g
    | no g ↦ before (omega arith)
  ]
    where
      before : end < length text → unk_lines (drop at text) ≡ drop at (take stop text) ∷ unk_lines (drop (end + 1) text)
      before g = lines_next_LF g ∙ ap (λ l. l ∷ unk_lines (drop (end + 1) text)) (sym (s.before_LF g))

      final : length text ≤ end → unk_lines (drop at text) ≡ drop at (take stop text) ∷ unk_lines (drop (end + 1) text)
      final g =
          let i = line_inside.within in
          let k : stop ≡ length text = let x = s.last g in omega arith in
          lines_last g
          ∙ ap₂ (λ (x : List ℕ) (y : List (List ℕ)). x ∷ y) (sym (ap (λ n. drop at (take n text)) k ∙ ap (drop at) whole)) (sym (lines_none text (end + 1) (omega arith)))

-- ---- entries before others

abbrev behind : List Entry → Entries → Entries
behind es (entries_are fs) = entries_are (es ++ fs)
behind es (stops n place) = stops n place

behind_none : (a : Entries) → behind [] a ≡ a
behind_none (entries_are fs) = refl
behind_none (stops n place) = refl

behind_one : (es : List Entry) (e : Entry) (a : Entries) → behind es (cons_entry e a) ≡ behind (es ++ (e ∷ [])) a
behind_one es e (entries_are fs) = ap entries_are (sym (append_assoc es (e ∷ []) fs))
behind_one es e (stops n place) = refl

-- ---- the loop

pub record Walking (mark : List ℕ → ℕ) (text : List ℕ) (m : Memory) (c : UnkCounts) (at : ℕ) : Type 0 where
  pub small : length text ≤ max_text_bytes
  pub upto : at ≤ length text + 1
  pub used : c.bytes ≤ at
  pub entries : List Entry
  pub held : Held mark entries m c
  pub gives : behind entries (read_entries (suc (length entries)) (unk_lines (drop at text))) ≡ read_entries 1 (unk_lines text)

abbrev no_counts : UnkCounts
no_counts = record { entries = 0; bytes = 0 }

pub walk_start : (mark : List ℕ → ℕ) (text : List ℕ) (m : Memory) → length text ≤ max_text_bytes → Held mark [] m no_counts → Walking mark text m no_counts 0
walk_start mark text m s h =
    record { small = s; upto = omega arith; used = omega arith; entries = []; held = h; gives = behind_none (read_entries 1 (unk_lines text)) }

module _ {mark : List ℕ → ℕ} {text : List ℕ} {m : Memory} {c : UnkCounts} {at : ℕ} (z : Walking mark text m c at) where
  pub working : Working mark m c
  working = record { entries = z.entries; held = z.held }

  module _ (h : at < length text) (end : ℕ) (e : EndsAt text at end) (stop : ℕ) (s : LineStops text at end stop) where
    pub stop_inside : Inside text at stop
    stop_inside = let i = (line_inside text at end h e).within in let u = s.upto in record { order = s.from; within = omega arith }

    pub walk_asked : (count : ℕ) → count ≤ max_categories → Asked count stop at c
    walk_asked count f = let i = stop_inside.within in let w = z.small in record { categories = f; text = omega arith; used = z.used }

    abbrev Line : UnkFound
    Line = unk_line_of (drop at (take stop text))

    one_line : read_entries 1 (unk_lines text)
        ≡ behind z.entries (enter_unk (suc (length z.entries)) Line (λ j. read_entries j (unk_lines (drop (end + 1) text))))
    unfolding read_entries
    one_line = sym z.gives ∙ ap (λ ls. behind z.entries (read_entries (suc (length z.entries)) ls)) (lines_next text at end h e stop s)

    pub walk_stops : (k : ℕ) → ((es : List Entry) → Held mark es m c → (go : ℕ → Entries) → enter_unk (suc (length es)) Line go ≡ stops k (suc (length es)))
        → read_entries 1 (unk_lines text) ≡ stops k (c.entries + 1)
    walk_stops k f =
        let n = z.held.entries_are in
        one_line ∙ ap (behind z.entries) (f z.entries z.held (λ j. read_entries j (unk_lines (drop (end + 1) text))))
        ∙ ap (stops k) (sym (add-one (length z.entries)) ∙ ap (λ j. j + 1) (sym n))

    pub walk_on : (m' : Memory) (d : UnkCounts) → ((es : List Entry) → Held mark es m c → Went mark es Line m' d) → Walking mark text m' d (end + 1)
    walk_on m' d f = from (f z.entries z.held)
      where
        goes : (w : Went mark z.entries Line m' d) → read_entries 1 (unk_lines text)
            ≡ behind (z.entries ++ (w.one ∷ [])) (read_entries (suc (suc (length z.entries))) (unk_lines (drop (end + 1) text)))
        goes w =
            one_line
            ∙ ap (λ x. behind z.entries (enter_unk (suc (length z.entries)) x (λ j. read_entries j (unk_lines (drop (end + 1) text))))) w.says
            ∙ rw (le-ltb max_unk_entries (suc (length z.entries)) w.room) (behind_one z.entries w.one (read_entries (suc (suc (length z.entries))) (unk_lines (drop (end + 1) text))))

        from : Went mark z.entries Line m' d → Walking mark text m' d (end + 1)
        from w =
            let i = (line_inside text at end h e).within in
            let o = s.from in
            let u = s.upto in
            let k : length (z.entries ++ (w.one ∷ [])) ≡ length z.entries + 1 = length-append z.entries (w.one ∷ []) in
            let j : suc (length (z.entries ++ (w.one ∷ []))) ≡ suc (suc (length z.entries)) = omega (arith, add-one (length z.entries)) in
            let a = entry_short (drop at (take stop text)) w.one ((unk_line (drop at (take stop text)) w.one).0 w.says) in
            let p = part_length text at stop stop_inside.within in
            let b = w.held.bytes_are in
            let b₀ = z.held.bytes_are in
            let g = z.used in
            let l = ap length (table_snoc stored z.entries w.one) in
            let q = length-append (joined (map stored z.entries)) (stored w.one) in
            record {
              small = z.small;
              upto = omega arith;
              used = omega arith;
              entries = z.entries ++ (w.one ∷ []);
              held = w.held;
              gives = ap (λ n. behind (z.entries ++ (w.one ∷ [])) (read_entries n (unk_lines (drop (end + 1) text)))) j ∙ sym (goes w);
            }

  pub walk_ends : length text ≤ at → WalkEnded mark (read_entries 1 (unk_lines text)) m c
  unfolding read_entries
  walk_ends h =
      record {
        entries = z.entries;
        is = sym z.gives ∙ ap (λ ls. behind z.entries (read_entries (suc (length z.entries)) ls)) (lines_none text at h) ∙ ap entries_are (append-nil z.entries);
        held = z.held;
      }
