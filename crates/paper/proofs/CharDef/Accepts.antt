-- A text is accepted with a reading exactly where the reading fits it; so one reading fits at most.
-- Assumes nothing.
use Prim.Native.Nat.{ℕ, ◌≤◌, zero-le}
use mathlib.Core.Path.{◌≡◌, refl, sym, ap, ◌∙◌, subst}
use mathlib.Core.Logic.{◌↔◌}
use mathlib.Core.Bool.{Bool, true, false, cond}
use mathlib.Core.List.{List, []}
use lib.Dec.{ltb}
use lib.ListN.{length}
use mir.Facts.{ltb_no, no_ltb}
use Rattle.paper.specs.Sizes.{max_text_bytes}
use Rattle.paper.specs.Refusals.{text_long}
use Rattle.paper.specs.Lists.{cut}
use Rattle.paper.specs.CharDef.Reading.{Reading, reading_of, name_bytes, references, Within, Fits, is_lf, accepted, refused}
use Rattle.paper.specs.Computed.Decode.{Text, broken, chars, decode}
use Rattle.paper.specs.Computed.ReadText.{read_lines, nothing_read, read_chars, read_text}
use Rattle.paper.proofs.Apart.{refused_accepted}
use Rattle.paper.proofs.Lists.Facts.{T→false, false→T}
use Rattle.paper.proofs.Lists.Pieces.{cut_pieces}
use Rattle.paper.proofs.Text.Code.{decode_complete, decode_sound}
use Rattle.paper.proofs.CharDef.Whole.{lines_sound, lines_complete, cut_joined, pieces_joined}

nothing_is : nothing_read ≡ reading_of []
unfolding nothing_read reading_of
nothing_is = refl

nothing_within : Within (reading_of [])
unfolding reading_of name_bytes references
nothing_within = record { categories_fit = zero-le; names_fit = zero-le; definitions_fit = zero-le; ranges_fit = zero-le; references_fit = zero-le }

pub accepted_fits : (bytes : List ℕ) (r : Reading) → read_text bytes ≡ accepted r → Fits bytes r
unfolding read_text
accepted_fits bytes r h = size_case (ltb max_text_bytes (length bytes)) refl h
  where
    text_case : length bytes ≤ max_text_bytes → (o : Text) → decode bytes ≡ o → read_chars o ≡ accepted r → Fits bytes r
    text_case short (broken at) e h = refused_accepted h
    text_case short (chars cs) e h =
        let (sc, w) = decode_sound bytes 0 0 cs e in
        let (ms, each, says, within) = lines_sound (cut is_lf cs) 1 [] r nothing_within (ap (read_lines 1 (cut is_lf cs)) (sym nothing_is) ∙ h) in
        let (j, n, a) = pieces_joined (cut_pieces is_lf cs) in
        record {
          chars = cs;
          texts = cut is_lf cs;
          lines = ms;
          short = short;
          encoded = w;
          scalars = sc;
          split = j;
          some_line = n;
          ended = a;
          each = each;
          says = says;
          within = within;
        }

    size_case : (b : Bool) → ltb max_text_bytes (length bytes) ≡ b → cond b (refused text_long 0) (read_chars (decode bytes)) ≡ accepted r → Fits bytes r
    size_case true e h = refused_accepted h
    size_case false e h = text_case (ltb_no (false→T _ e)) (decode bytes) refl h

pub fits_accepted : (bytes : List ℕ) (r : Reading) → Fits bytes r → read_text bytes ≡ accepted r
unfolding read_text
fits_accepted bytes r f =
    let d : decode bytes ≡ chars f.chars = ap decode f.encoded ∙ decode_complete f.chars 0 f.scalars in
    let c : cut is_lf f.chars ≡ f.texts = ap (cut is_lf) f.split ∙ cut_joined f.texts f.some_line f.ended in
    rw (T→false (ltb max_text_bytes (length bytes)) (no_ltb f.short), d, c)
    (ap (read_lines 1 f.texts) nothing_is
    ∙ lines_complete 1 [] f.each (subst Within f.says f.within)
    ∙ ap accepted (sym f.says))

pub accepts : (bytes : List ℕ) (r : Reading) → (read_text bytes ≡ accepted r) ↔ Fits bytes r
accepts bytes r = (accepted_fits bytes r, fits_accepted bytes r)

-- one reading fits at most
pub fits_one : (bytes : List ℕ) (r s : Reading) → Fits bytes r → Fits bytes s → r ≡ s
fits_one bytes r s f g =
    let e : read_text bytes ≡ accepted r = fits_accepted bytes r f in
    let d : read_text bytes ≡ accepted s = fits_accepted bytes s g in
    cc

-- a refused text is one that no reading fits
pub refused_none : (bytes : List ℕ) (n place : ℕ) → read_text bytes ≡ refused n place → (r : Reading) → Fits bytes r → ⊥
refused_none bytes n place h r f = refused_accepted (sym h ∙ fits_accepted bytes r f)
