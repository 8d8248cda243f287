-- One line entered: the tables hold its entry behind the others, or the paper stops there. Assumes nothing.
use Prim.Native.Nat.{ℕ, ◌+◌, ◌*◌, ◌-◌, ◌≤◌, ◌<◌}
use native.Mathlib.Omega.{arith}
use mathlib.Core.Path.{◌≡◌, refl, sym, ap, ap₂, ◌∙◌, subst}
use mathlib.Core.List.{List, [], ◌∷◌, ◌++◌, map, append-nil}
use lib.ListN.{length, take, drop, length-append, length-map, length-take}
use borrow.Author.Tests.{lt-ltb}
use Rattle.paper.specs.Sizes.{max_unk_entries, max_detail_bytes}
use Rattle.paper.specs.Refusals.{unk_entries_full}
use Rattle.paper.specs.Lists.{joined, offsets_from}
use Rattle.paper.specs.Numbers.Bytes.{le, u32_size}
use Rattle.paper.specs.Tables.Lent.{patch, padded}
use Rattle.paper.specs.Unk.Entry.{Entry, stored, length_bytes}
use Rattle.paper.specs.Computed.ReadUnk.{UnkFound, entry, no_entry, Entries, stops, enter_unk, unk_line_of}
use Rattle.paper.proofs.Lists.Facts.{map_append, offsets_length}
use Rattle.paper.proofs.Lists.Parts.{part_length}
use Rattle.paper.proofs.Tables.Append.{padded_length, patch_padded, table_snoc, entry_more}
use Rattle.paper.proofs.Tables.Laws.{le_length, table_length}
use Rattle.paper.proofs.Unk.Details.{entry_short, stored_length}
use Rattle.paper.proofs.Unk.Line.{unk_line}
use Rattle.unk_line.specs.declared.UnkEntry.{UnkEntry}
use Rattle.unk_line.specs.Line.{SaysLine, SaysEntry, entry_at, joined_fields, stored_fields}
use Rattle.unk_line.proofs.Joined.{joined_long}
use Rattle.unk_enter.specs.declared.UnkCounts.{UnkCounts}
use Rattle.unk_enter.specs.Fields.{entry_size, offset_size, word_bytes}
use Rattle.unk_enter.specs.Lines.{Inside, Memory, Placed, RoomLeft, Appended, entry_bytes, Held, Asked, Went}
use Rattle.std.specs.Prelude.{Result}

pub says_as : (text : List ℕ) (start end : ℕ) (f : UnkFound) (s : Result UnkEntry ℕ) {r : Result UnkEntry ℕ} → r ≡ s → SaysLine text start end f r → SaysLine text start end f s
says_as text start end f s e h = subst (SaysLine text start end f) e h

-- ---- one more element

pub wide_word : (mark : List ℕ → ℕ) (e : Entry) → length (entry_bytes mark e) ≡ entry_size
unfolding word_bytes
wide_word mark e = refl

offsets_snoc : (at : ℕ) (ls : List (List ℕ)) (l : List ℕ) → offsets_from at (ls ++ (l ∷ [])) ≡ offsets_from at ls ++ ((at + length (joined ls)) ∷ [])
offsets_snoc at [] l = let e : at ≡ at + 0 = omega arith in ap (λ k. k ∷ []) e
offsets_snoc at (m ∷ ls) l =
    let e : at + length m + length (joined ls) ≡ at + length (m ++ joined ls) = omega (arith, length-append m (joined ls)) in
    ap (λ r. at ∷ r) (offsets_snoc (at + length m) ls l ∙ ap (λ k. offsets_from (at + length m) ls ++ (k ∷ [])) e)

-- ---- sizes

module _ {mark : List ℕ → ℕ} {es : List Entry} {m : Memory} {c : UnkCounts} (z : Held mark es m c) where
  pub entries_long : length m.entries ≡ entry_size * max_unk_entries
  entries_long =
      let a = table_length entry_size (entry_bytes mark) (wide_word mark) es in
      let b = z.few in
      let d = z.entries_are in
      ap length z.in_entries ∙ padded_length (entry_size * max_unk_entries) (joined (map (entry_bytes mark) es)) (omega arith)

  pub offsets_long : length m.offsets ≡ offset_size * max_unk_entries
  offsets_long =
      let a = table_length offset_size (le u32_size) (le_length u32_size) (offsets_from 0 (map stored es)) in
      let k : length (offsets_from 0 (map stored es)) ≡ length es = offsets_length 0 (map stored es) ∙ length-map es stored in
      let b = z.few in
      let d = z.entries_are in
      ap length z.in_offsets ∙ padded_length (offset_size * max_unk_entries) (joined (map (le u32_size) (offsets_from 0 (map stored es)))) (omega arith)

  pub details_long : length m.details ≡ max_detail_bytes
  details_long =
      let b = z.short in
      let d = z.bytes_are in
      ap length z.in_details ∙ padded_length max_detail_bytes (joined (map stored es)) (omega arith)

-- ---- the line's entry

module _ {text : List ℕ} {start end : ℕ} (i : Inside text start end) {e : UnkEntry} (s : SaysEntry text start end (unk_line_of (drop start (take end text))) e) where
  line_long : length (take end text) ≡ end
  line_long = let w = i.within in simp length-take (omega arith)

  pub placed : Placed text start end e
  placed =
      let l = line_long in
      let a = s.surface_inside in
      let b = s.details_inside in
      let w = i.within in
      record { name = record { order = s.from; within = omega arith }; fields = record { order = omega arith; within = omega arith } }

  -- the joined fields are as long as the part
  details_size : length (joined_fields (drop e.details (take end text))) ≡ end - e.details
  details_size = joined_long (drop e.details (take end text)) ∙ part_length text e.details end i.within

  stored_is : stored (entry_at text start end e) ≡ stored_fields (drop e.details (take end text))
  unfolding stored stored_fields
  stored_is = refl

  -- an entry's details and their length take no more than its line
  pub fits_line : length_bytes + (end - e.details) ≤ end - start
  fits_line =
      let a = entry_short (drop start (take end text)) (entry_at text start end e) ((unk_line (drop start (take end text)) (entry_at text start end e)).0 s.is) in
      let b = stored_length (entry_at text start end e) in
      let d = details_size in
      let p = part_length text start end i.within in
      omega arith

  module _ {mark : List ℕ → ℕ} {es : List Entry} {m : Memory} {c : UnkCounts} (z : Held mark es m c) {count : ℕ} (a : Asked count end start c) where
    pub room_left : c.entries < max_unk_entries → RoomLeft m c (end - e.details)
    room_left h =
        let x = entries_long z in
        let y = offsets_long z in
        let w = details_long z in
        let f = fits_line in
        let t = a.text in
        let u = a.used in
        let o = i.order in
        record { for_entry = omega arith; for_offset = omega arith; for_details = omega arith; few = h; short = omega arith }

    pub line_enters : c.entries < max_unk_entries → (m' : Memory) (d : UnkCounts) → Appended mark text start end e m c m' d
        → Went mark es (unk_line_of (drop start (take end text))) m' d
    line_enters h m' d p =
        let n = z.entries_are in
        let b = z.bytes_are in
        let f = fits_line in
        let t = a.text in
        let u = a.used in
        let o = i.order in
        let x = p.entries_more in
        let y = p.bytes_more in
        let k : length (es ++ (one ∷ [])) ≡ length es + 1 = length-append es (one ∷ []) in
        record {
          one = one;
          says = s.is;
          room = omega arith;
          held = record {
            entries_are = omega arith;
            few = omega arith;
            bytes_are = let l = ap length (table_snoc stored es one) in let q = length-append (joined (map stored es)) (stored one) in let r = stored_length one in let v = details_size in omega arith;
            short = omega arith;
            in_entries = p.entry_put
                ∙ ap (λ (g : List ℕ). patch (entry_size * c.entries) g m.entries) (sym (append-nil (entry_bytes mark one)))
                ∙ ap (patch (entry_size * c.entries) (entry_bytes mark one ++ [])) z.in_entries
                ∙ entry_more entry_size (entry_bytes mark) (wide_word mark) es (one ∷ []) (entry_size * c.entries) (entry_size * max_unk_entries) (omega arith) (omega arith);
            in_offsets = p.offset_put
                ∙ ap (λ (g : List ℕ). patch (offset_size * c.entries) g m.offsets) (sym (append-nil (le u32_size c.bytes)))
                ∙ ap (patch (offset_size * c.entries) (le u32_size c.bytes ++ [])) z.in_offsets
                ∙ entry_more offset_size (le u32_size) (le_length u32_size) (offsets_from 0 (map stored es)) (c.bytes ∷ []) (offset_size * c.entries) (offset_size * max_unk_entries)
                (let g = offsets_many in omega arith) (let g = offsets_many in omega arith)
                ∙ ap (λ (g : List ℕ). padded (offset_size * max_unk_entries) (joined (map (le u32_size) g)))
                (ap (λ (g : ℕ). offsets_from 0 (map stored es) ++ (g ∷ [])) (let g : c.bytes ≡ 0 + length (joined (map stored es)) = omega arith in g)
                ∙ sym (offsets_snoc 0 (map stored es) (stored one)) ∙ ap (offsets_from 0) (sym (map_append stored es (one ∷ []))));
            in_details = p.details_put
                ∙ ap (λ (g : List ℕ). patch c.bytes g m.details) (sym stored_is)
                ∙ ap₂ (λ (g : ℕ) (v : List ℕ). patch g (stored one) v) b z.in_details
                ∙ patch_padded max_detail_bytes (joined (map stored es)) (stored one) (let r = stored_length one in let v = details_size in omega arith)
                ∙ ap (padded max_detail_bytes) (sym (table_snoc stored es one));
          };
        }
      where
        one : Entry
        one = entry_at text start end e

        offsets_many : length (offsets_from 0 (map stored es)) ≡ length es
        offsets_many = offsets_length 0 (map stored es) ∙ length-map es stored

-- ---- where the paper stops

pub stops_line : (f : UnkFound) (n k : ℕ) → f ≡ no_entry n → (go : ℕ → Entries) → enter_unk k f go ≡ stops n k
stops_line f n k e go = ap (λ x. enter_unk k x go) e

pub stops_full : (f : UnkFound) (one : Entry) (k : ℕ) → f ≡ entry one → max_unk_entries < k → (go : ℕ → Entries) → enter_unk k f go ≡ stops unk_entries_full k
stops_full f one k e h go = ap (λ x. enter_unk k x go) e ∙ rw (lt-ltb max_unk_entries k h)
