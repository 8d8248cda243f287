-- From the parts to the whole: which answer each way through `parse` is, and what it leaves.
-- Assumes nothing.
use Prim.Native.Nat.{ℕ, ◌*◌, ◌≤◌, ◌<◌}
use native.Mathlib.Nat.{le_refl}
use native.Mathlib.Omega.{arith}
use mathlib.Core.Path.{◌≡◌, refl, sym, ap, ◌∙◌, subst}
use mathlib.Core.Bool.{true}
use mathlib.Core.List.{List, ◌++◌}
use lib.ListN.{length, take, drop}
use lib.Seq.{take-length}
use borrow.Author.Tests.{le-leb, le-ltb}
use Rattle.paper.specs.Sizes.{max_text_bytes, max_categories, max_name_bytes, max_category_lines, max_ranges, max_references}
use Rattle.paper.specs.Refusals.{text_long, text_ill_formed, range_parts, name_bytes_full}
use Rattle.paper.specs.Lists.{cut}
use Rattle.paper.specs.Text.Scalar.{WellFormed, LongestPrefix}
use Rattle.paper.specs.CharDef.Reading.{refused, is_lf}
use Rattle.paper.specs.CharDef.Bad.{BadText, too_long, ill_formed, bad_line}
use Rattle.paper.specs.Computed.Decode.{chars, decode}
use Rattle.paper.specs.Computed.ReadText.{nothing_read, read_chars, read_text}
use Rattle.paper.specs.Tables.Layout.{Tables, name_slot_size, definition_size, range_slot_size, reference_size}
use Rattle.paper.specs.Tables.Reader.{has_room, clears}
use Rattle.paper.proofs.Text.Bytes.{cut_utf8}
use Rattle.paper.proofs.Text.Code.{decode_complete, well_formed}
use Rattle.paper.proofs.CharDef.FirstBad.{LF_ascii}
use Rattle.paper.proofs.CharDef.BadLine.{bad_number}
use Rattle.paper.proofs.CharDef.Answers.{refused_text, too_long_exactly, ill_formed_exactly}
use Rattle.room.specs.Sized.{ReadInto}
use Rattle.room.proofs.Whole.{nothing_written, reads}
use Rattle.lines.specs.Lines.{read_bytes, read_all}
use Rattle.char_def.specs.Parse.{Parsed}
use Rattle.char_def.proofs.Text.{read_bytes_lem}
use Rattle.std.specs.Prelude.{Err, Result}
use Rattle.paper.specs.declared.Counts.{Counts}
use Rattle.paper.specs.declared.Refusal.{Refusal}

-- ---- the answer

clears_lines : (n : ℕ) → range_parts ≤ n → n ≤ name_bytes_full → clears n ≡ true
unfolding clears
clears_lines n a b = rw (le-leb range_parts n a) (rw (le-leb n name_bytes_full b) refl)

module _ (text : List ℕ) where
  -- well-formed text is read byte by byte as the paper reads its characters
  read_text_lem : length text ≤ max_text_bytes → WellFormed text → read_text text ≡ read_all text
  unfolding read_text read_chars read_all decode
  read_text_lem h w =
      let (cs, e, sc) = (well_formed text).0 w in
      let d : decode text ≡ chars cs = ap decode e ∙ decode_complete cs 0 sc in
      rw (le-ltb max_text_bytes (length text) h)
      (ap read_chars d ∙ sym (read_bytes_lem 1 (cut is_lf cs) nothing_read)
      ∙ ap (λ ls. read_bytes 1 ls nothing_read) (sym (ap (cut is_lf) e ∙ cut_utf8 is_lf LF_ascii cs)))

  pub whole_formed : (p : ℕ) → LongestPrefix p text → length text ≤ p → WellFormed text
  whole_formed p z h =
      let i = z.inside in
      let e : p ≡ length text = omega arith in
      subst WellFormed (ap (λ k. take k text) e ∙ take-length text) z.fits

  part_ill : (p : ℕ) → LongestPrefix p text → p < length text → WellFormed text → ⊥
  part_ill p z h w =
      let k = z.longest (length text) (le_refl (length text)) (subst WellFormed (sym (take-length text)) w) in
      omega arith

  -- what is refused behind 1, 2 and 3 is refused by 4 to 13
  line_clears : (n place : ℕ) → length text ≤ max_text_bytes → WellFormed text → read_text text ≡ refused n place → clears n ≡ true
  line_clears n place h w e = go ((refused_text text n place).0 e)
    where
      go : {n place : ℕ} → BadText n place text → clears n ≡ true
      go (too_long l) = absurd (omega arith)
      go (ill_formed s f p) = absurd (f w)
      go (bad_line s v f) = let (a, b) = bad_number f.wrong in clears_lines _ a b

-- ---- the ways through

module _ (text : List ℕ) (t : Tables) (room : true ≡ has_room t) where
  pub long_text : max_text_bytes < length text → Parsed text t t (Err (record { number = text_long; place = 0 }))
  unfolding clears
  long_text h = nothing_written (read_text text) t room text_long 0 ((too_long_exactly text 0).1 (h, refl)) refl

  pub ill_text : length text ≤ max_text_bytes → (p : ℕ) → LongestPrefix p text → p < length text → Parsed text t t (Err (record { number = text_ill_formed; place = p }))
  unfolding clears
  ill_text h p z l = nothing_written (read_text text) t room text_ill_formed p ((ill_formed_exactly text p).1 (h, part_ill text p z l, z)) refl

  pub lines_parsed : length text ≤ max_text_bytes → WellFormed text → (part : Tables) (r : Result Counts Refusal) → ReadInto (read_all text) part r
      → Parsed text t
      (record {
        names = part.names ++ drop max_name_bytes t.names;
        categories = part.categories ++ drop (name_slot_size * max_categories) t.categories;
        definitions = part.definitions ++ drop (definition_size * max_category_lines) t.definitions;
        ranges = part.ranges ++ drop (range_slot_size * max_ranges) t.ranges;
        references = part.references ++ drop (reference_size * max_references) t.references;
      }) r
  lines_parsed h w part r z =
      reads (read_text text) t room (λ n place e. line_clears text n place h w e) part r (subst (λ a. ReadInto a part r) (sym (read_text_lem text h w)) z)
