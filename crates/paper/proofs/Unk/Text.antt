-- A text of unk.def: it is accepted exactly with what fits it, and one thing fits it at most. Uniqueness follows from completeness of the
-- reader.
-- Assumes nothing.
use Prim.Native.Nat.{ℕ, suc, ◌+◌, ◌≤◌, suc-le-suc}
use native.Mathlib.Omega.{arith}
use mathlib.Core.Path.{◌≡◌, refl, sym, ap, ◌∙◌}
use mathlib.Core.Logic.{◌↔◌}
use mathlib.Core.Bool.{Bool, true, false, cond}
use mathlib.Core.List.{List, [], ◌∷◌}
use lib.Dec.{ltb, lit≤}
use lib.ListN.{length}
use mir.Facts.{ltb_no, no_ltb}
use borrow.Author.Tests.{ltb-false, le-ltb}
use Rattle.paper.specs.Sizes.{max_text_bytes, max_unk_entries}
use Rattle.paper.specs.Refusals.{text_long}
use Rattle.paper.specs.Unk.Entry.{Entry, Unk, EachUnk, done, next, UnkFits}
use Rattle.paper.specs.Unk.Bad.{accepted, refused}
use Rattle.paper.specs.Computed.Decode.{Text, broken, chars, decode}
use Rattle.paper.specs.Computed.ReadUnk.{unk_lines, UnkFound, entry, no_entry, unk_line_of, Entries, entries_are, stops, cons_entry, or_full, enter_unk, read_entries, answer_unk, read_unk_text, read_unk}
use Rattle.paper.proofs.Apart.{stops_entries, unk_refused_accepted}
use Rattle.paper.proofs.Lists.Facts.{T→false, false→T}
use Rattle.paper.proofs.Text.Code.{decode_complete, decode_sound}
use Rattle.paper.proofs.Unk.Lines.{lines_are}
use Rattle.paper.proofs.Unk.Line.{unk_line_sound, unk_line_complete}

-- ---- all lines

entries_sound : (css : List (List ℕ)) (k : ℕ) (es : List Entry) → k ≤ suc max_unk_entries → read_entries k css ≡ entries_are es → EachUnk css es × (k + length es ≤ suc max_unk_entries)
unfolding read_entries
entries_sound [] k es small h =
    let e : es ≡ [] = cc in
    rw e (done, omega arith)
entries_sound (cs ∷ css) k es small h = found_case (unk_line_of cs) refl h (λ es'. entries_sound css (suc k) es')
  where
    Below : Type 0
    Below = (es' : List Entry) → suc k ≤ suc max_unk_entries → read_entries (suc k) css ≡ entries_are es' → EachUnk css es' × (suc k + length es' ≤ suc max_unk_entries)

    Goal : Type 0
    Goal = EachUnk (cs ∷ css) es × (k + length es ≤ suc max_unk_entries)

    rest_case : (e : Entry) → unk_line_of cs ≡ entry e → k ≤ max_unk_entries → (o : Entries) → read_entries (suc k) css ≡ o → cons_entry e o ≡ entries_are es → Below → Goal
    rest_case e ee room (stops n p) eo h ih = stops_entries h
    rest_case e ee room (entries_are es') eo h ih =
        let q : es ≡ e ∷ es' = cc in
        let (f, l) = ih es' (suc-le-suc room) eo in
        rw q (next (unk_line_sound cs e ee) f, omega arith)

    room_case : (e : Entry) → unk_line_of cs ≡ entry e → (b : Bool) → ltb max_unk_entries k ≡ b → or_full b k e (λ j. read_entries j css) ≡ entries_are es → Below → Goal
    room_case e ee true eb h ih = stops_entries h
    room_case e ee false eb h ih = rest_case e ee (ltb-false max_unk_entries k eb) (read_entries (suc k) css) refl h ih

    found_case : (o : UnkFound) → unk_line_of cs ≡ o → enter_unk k o (λ j. read_entries j css) ≡ entries_are es → Below → Goal
    found_case (no_entry n) eo h ih = stops_entries h
    found_case (entry e) eo h ih = room_case e eo (ltb max_unk_entries k) refl h ih

entries_complete : {css : List (List ℕ)} {es : List Entry} (k : ℕ) → EachUnk css es → k + length es ≤ suc max_unk_entries → read_entries k css ≡ entries_are es
unfolding read_entries
entries_complete k done h = refl
entries_complete k (next {cs = cs} {e = e} {es = es} u t) h =
    let i : k ≤ max_unk_entries = room h in
    rw (unk_line_complete cs e u, le-ltb max_unk_entries k i, entries_complete (suc k) t (shift h))
  where
    room : k + suc (length es) ≤ suc max_unk_entries → k ≤ max_unk_entries
    room h = omega arith

    shift : k + suc (length es) ≤ suc max_unk_entries → suc k + length es ≤ suc max_unk_entries
    shift h = omega arith

-- ---- a text

unk_accepted_fits : (names : List (List ℕ)) (bytes : List ℕ) (u : Unk) → read_unk names bytes ≡ accepted u → UnkFits names bytes u
unfolding read_unk
unk_accepted_fits names bytes u h = size_case (ltb max_text_bytes (length bytes)) refl h
  where
    lines_case : length bytes ≤ max_text_bytes → (cs : List ℕ) → decode bytes ≡ chars cs → (o : Entries) → read_entries 1 (unk_lines bytes) ≡ o → answer_unk names o ≡ accepted u → UnkFits names bytes u
    lines_case short cs ec (stops n k) eo h = unk_refused_accepted h
    lines_case short cs ec (entries_are es) eo h =
        let (sc, w) = decode_sound bytes 0 0 cs (unfold decode in ec) in
        let (each, few) = entries_sound (unk_lines bytes) 1 es (lit≤ tt) eo in
        record {
          characters = cs;
          lines = unk_lines bytes;
          entries = es;
          short = short;
          encoded = w;
          scalars = sc;
          split = (lines_are bytes (unk_lines bytes)).0 refl;
          each = each;
          few = omega arith;
          says = cc;
        }

    text_case : length bytes ≤ max_text_bytes → (o : Text) → decode bytes ≡ o → read_unk_text names bytes o ≡ accepted u → UnkFits names bytes u
    text_case short (broken at) e h = unk_refused_accepted h
    text_case short (chars cs) e h = lines_case short cs e (read_entries 1 (unk_lines bytes)) refl h

    size_case : (b : Bool) → ltb max_text_bytes (length bytes) ≡ b → cond b (refused text_long 0) (read_unk_text names bytes (decode bytes)) ≡ accepted u → UnkFits names bytes u
    size_case true e h = unk_refused_accepted h
    size_case false e h = text_case (ltb_no (false→T _ e)) (decode bytes) refl h

unk_fits_accepted : (names : List (List ℕ)) (bytes : List ℕ) (u : Unk) → UnkFits names bytes u → read_unk names bytes ≡ accepted u
unfolding read_unk decode
unk_fits_accepted names bytes u f =
    let d : decode bytes ≡ chars f.characters = ap decode f.encoded ∙ decode_complete f.characters 0 f.scalars in
    let l : unk_lines bytes ≡ f.lines = (lines_are bytes f.lines).1 f.split in
    let few : length f.entries ≤ max_unk_entries = f.few in
    let room : 1 + length f.entries ≤ suc max_unk_entries = omega arith in
    let r : read_entries 1 (unk_lines bytes) ≡ entries_are f.entries = ap (read_entries 1) l ∙ entries_complete 1 f.each room in
    rw (T→false (ltb max_text_bytes (length bytes)) (no_ltb f.short))
    (ap (read_unk_text names bytes) d ∙ ap (answer_unk names) r ∙ ap accepted (sym f.says))

-- an unk.def is accepted exactly with what fits it
pub unk_accepts : (names : List (List ℕ)) (bytes : List ℕ) (u : Unk) → (read_unk names bytes ≡ accepted u) ↔ UnkFits names bytes u
unk_accepts names bytes u = (unk_accepted_fits names bytes u, unk_fits_accepted names bytes u)

pub unk_fits_one : (names : List (List ℕ)) (bytes : List ℕ) (u v : Unk) → UnkFits names bytes u → UnkFits names bytes v → u ≡ v
unk_fits_one names bytes u v f g =
    let e : read_unk names bytes ≡ accepted u = unk_fits_accepted names bytes u f in
    let d : read_unk names bytes ≡ accepted v = unk_fits_accepted names bytes v g in
    cc
