-- The walk over the lines: what is left of them, entered behind the reading so far, gives the answer to all.
-- Assumes nothing.
use Prim.Native.Nat.{ℕ, suc, ◌+◌, ◌*◌, ◌≤◌, ◌<◌}
use native.Mathlib.Numerals.{add-one}
use native.Mathlib.Omega.{arith}
use mathlib.Core.Path.{◌≡◌, refl, sym, ap, ◌∙◌}
use mathlib.Core.List.{List, map}
use lib.ListN.{length, take, drop}
use Rattle.paper.specs.Sizes.{max_text_bytes, max_categories, max_name_bytes, max_category_lines, max_ranges, max_references}
use Rattle.paper.specs.Lists.{joined, until}
use Rattle.paper.specs.Numbers.Bytes.{le}
use Rattle.paper.specs.CharDef.Reading.{Reading, refused, name_bytes, is_lf}
use Rattle.paper.specs.Computed.ReadText.{stop, after_line, nothing_read}
use Rattle.paper.specs.Tables.Layout.{range_slots, definition_bytes, slot_bytes, numbers_of, definition_size, range_slot_size, reference_size}
use Rattle.std.specs.Prelude.{Result, Ok, Err}
use Rattle.std.specs.Result.{MatchResult, IsErrAnd}
use Rattle.paper.specs.declared.Counts.{Counts}
use Rattle.paper.specs.declared.Refusal.{Refusal}
use Rattle.paper.proofs.Lists.Facts.{joined_length}
use Rattle.paper.proofs.Tables.Append.{padded_length}
use Rattle.paper.proofs.Tables.Laws.{table_length}
use Rattle.paper.proofs.Tables.Trip.{rows_length, numbers_length, wide_definition, wide_row, wide_number}
use Rattle.scan.specs.Asked.{Inside}
use Rattle.line.specs.Bytes.{line_bytes}
use Rattle.slot.proofs.Laid as laid
use Rattle.entry.specs.Steps.{Memory, Held, Working, Went, enter_found_bytes}
use Rattle.lines.specs.Lines.{read_bytes, read_all, lines_from, WalkEnded}
use Rattle.lines.proofs.Scan.{lines_all, lines_none, lines_next, end_inside}

-- ---- memory that holds a reading has the sizes

module _ {r : Reading} {m : Memory} {c : Counts} (z : Held r m c) where
  pub store_long : length m.store ≡ max_name_bytes
  unfolding name_bytes
  store_long =
      let l = z.names in
      let a = joined_length r.names in
      let b = l.short in
      let d = l.bytes_is in
      ap length l.stored ∙ padded_length max_name_bytes (joined r.names) (omega arith)

  pub slots_long : length m.slots ≡ max_categories
  slots_long = laid.slots_long z.names

  pub definitions_long : length m.definitions ≡ definition_size * max_category_lines
  definitions_long =
      let a = table_length 6 definition_bytes wide_definition r.definitions in
      let b = z.definitions_few in
      let d = z.definitions_are in
      ap length z.in_definitions ∙ padded_length (definition_size * max_category_lines) (joined (map definition_bytes r.definitions)) (omega arith)

  pub ranges_long : length m.ranges ≡ range_slot_size * max_ranges
  ranges_long =
      let a = table_length 8 slot_bytes wide_row (range_slots 0 r.ranges) in
      let e = rows_length 0 r.ranges in
      let b = z.ranges_few in
      let d = z.ranges_are in
      ap length z.in_ranges ∙ padded_length (range_slot_size * max_ranges) (joined (map slot_bytes (range_slots 0 r.ranges))) (omega arith)

  pub references_long : length m.references ≡ reference_size * max_references
  references_long =
      let a = table_length 2 (le 2) wide_number (numbers_of r.ranges) in
      let e = numbers_length r.ranges in
      let b = z.references_few in
      let d = z.references_are in
      ap length z.in_references ∙ padded_length (reference_size * max_references) (joined (map (le 2) (numbers_of r.ranges))) (omega arith)

  pub working : Working m c
  working =
      record {
        reading = r;
        held = z;
        store_long = store_long;
        slots_long = slots_long;
        definitions_long = definitions_long;
        ranges_long = ranges_long;
        references_long = references_long;
      }

-- ---- what a refused line's number becomes

module _ (Q : ℕ → Refusal → Type 0) where
  pub went_on : (s : Result Counts ℕ) {r : Result Counts Refusal} {d : Counts} → MatchResult s (λ c. r ≡ Ok c) (λ k. IsErrAnd r (Q k)) → r ≡ Ok d → s ≡ Ok d
  went_on (Ok c) m e = let z : ◌≡◌ {A = Result Counts Refusal} (Ok c) (Ok _) = sym m ∙ e in cc
  went_on (Err k) m e = absurd (rw e at m)

  pub went_wrong : (s : Result Counts ℕ) {r : Result Counts Refusal} {x : Refusal} (line : ℕ) → MatchResult s (λ c. r ≡ Ok c) (λ k. IsErrAnd r (Q k)) → r ≡ Err x
      → ((k : ℕ) (y : Refusal) → Q k y → y ≡ record { number = k; place = line }) → (k : ℕ) × (s ≡ Err k) × (x ≡ record { number = k; place = line })
  went_wrong (Ok c) line m e q = cc
  went_wrong (Err k) line m e q = (k, refl, q k _ (rw e at m))

-- ---- the loop

pub record Walking (text : List ℕ) (m : Memory) (c : Counts) (line at : ℕ) : Type 0 where
  pub small : length text ≤ max_text_bytes
  pub upto : at ≤ length text + 1
  pub counted : line ≤ at + 1
  pub reading : Reading
  pub held : Held reading m c
  pub gives : read_bytes line (lines_from at text) reading ≡ read_all text

abbrev no_counts : Counts
no_counts = record { categories = 0; definitions = 0; ranges = 0; references = 0; bytes = 0 }

pub walk_start : (text : List ℕ) (m : Memory) → length text ≤ max_text_bytes → Held nothing_read m no_counts → Walking text m no_counts 1 0
unfolding read_all
walk_start text m s h =
    record { small = s; upto = omega arith; counted = omega arith; reading = nothing_read; held = h; gives = ap (λ ls. read_bytes 1 ls nothing_read) (lines_all text) }

module _ {text : List ℕ} {m : Memory} {c : Counts} {line at : ℕ} (z : Walking text m c line at) where
  module _ (end : ℕ) (e : end ≡ at + length (until is_lf (drop at text))) (h : at ≤ length text) where
    one_line : read_all text ≡ after_line line (enter_found_bytes z.reading (line_bytes (drop at (take end text)))) (λ r. read_bytes (suc line) (lines_from (end + 1) text) r)
    unfolding read_bytes
    one_line = sym z.gives ∙ ap (λ ls. read_bytes line ls z.reading) (lines_next text at end h e)

    pub walk_inside : Inside text at end
    walk_inside = record { order = omega arith; within = end_inside text at end h e }

    pub walk_stops : (k : ℕ) → ((r : Reading) → Held r m c → enter_found_bytes r (line_bytes (drop at (take end text))) ≡ stop k) → read_all text ≡ refused k line
    walk_stops k s = one_line ∙ ap (λ x. after_line line x (λ r. read_bytes (suc line) (lines_from (end + 1) text) r)) (s z.reading z.held)

    pub walk_on : (m' : Memory) (d : Counts)
        → ((r : Reading) → Held r m c → Went (enter_found_bytes r (line_bytes (drop at (take end text)))) m' d) → Walking text m' d (line + 1) (end + 1)
    walk_on m' d f =
        let w = f z.reading z.held in
        let i = end_inside text at end h e in
        let k = z.counted in
        record {
          small = z.small;
          upto = omega arith;
          counted = omega arith;
          reading = w.after;
          held = w.held;
          gives = ap (λ n. read_bytes n (lines_from (end + 1) text) w.after) (add-one line)
              ∙ sym (one_line ∙ ap (λ x. after_line line x (λ r. read_bytes (suc line) (lines_from (end + 1) text) r)) w.goes);
        }

  pub walk_ends : length text < at → WalkEnded (read_all text) m c
  unfolding read_bytes
  walk_ends h =
      record {
        reading = z.reading;
        is = sym z.gives ∙ ap (λ ls. read_bytes line ls z.reading) (lines_none text at h);
        held = z.held;
      }
