-- What each answer to a char.def means: too long, not well-formed, a first bad line, or a reading that fits. Each refusal is given exactly
-- where the relation holds, and one number and place hold at most.
-- Assumes nothing.
use Prim.Native.Nat.{ℕ, ◌<◌, ◌≤◌}
use native.Mathlib.Omega.{arith}
use mathlib.Core.Path.{◌≡◌, refl, sym, ap, ◌∙◌, subst}
use mathlib.Core.Logic.{◌↔◌}
use mathlib.Core.Bool.{Bool, true, false, cond}
use mathlib.Core.List.{List}
use lib.Dec.{ltb}
use lib.ListN.{length}
use borrow.Author.Tests.{ltb-true, ltb-false, lt-ltb, le-ltb}
use Rattle.paper.specs.Sizes.{max_text_bytes}
use Rattle.paper.specs.Refusals.{text_long, text_ill_formed, range_parts}
use Rattle.paper.specs.Lists.{cut}
use Rattle.paper.specs.Text.Scalar.{WellFormed, LongestPrefix}
use Rattle.paper.specs.CharDef.Bad.{FirstBad, BadText, too_long, ill_formed, Answered, fitting, refusing}
use Rattle.paper.specs.CharDef.Reading.{is_lf, Answer, accepted, refused}
use Rattle.paper.specs.Computed.Decode.{bad, Text, broken, chars, decode}
use Rattle.paper.specs.Computed.ReadText.{read_lines, nothing_read, read_chars, read_text}
use Rattle.paper.proofs.Apart.{zero_one}
use Rattle.paper.proofs.Text.Code.{reads, well_formed, ill_read}
use Rattle.paper.proofs.Text.Prefix.{prefix_of_lem, longest_one}
use Rattle.paper.proofs.CharDef.Accepts.{accepted_fits, fits_accepted}
use Rattle.paper.proofs.CharDef.BadLine.{bad_line, bad_number}
use Rattle.paper.proofs.CharDef.FirstBad.{first_bad, lines_stop, bad_refused}

-- ---- every text has one of these answers, and only one

pub answered : (bytes : List ℕ) → Answered bytes (read_text bytes)
unfolding read_text read_chars
answered bytes = size_case (ltb max_text_bytes (length bytes)) refl refl
  where
    lines_case : length bytes ≤ max_text_bytes → (cs : List ℕ) → decode bytes ≡ chars cs → (a : Answer) → read_lines 1 (cut is_lf cs) nothing_read ≡ a → read_text bytes ≡ a → Answered bytes a
    lines_case short cs e (accepted r) el h = fitting (accepted_fits bytes r h)
    lines_case short cs e (refused n place) el h =
        let s = lines_stop (cut is_lf cs) 1 nothing_read n place el in
        let (low, high) = bad_number ((bad_line s.state s.bad n).0 s.stops) in
        refusing (BadText.bad_line short ((reads bytes).1 (cs, e)) (first_bad bytes n place h low))

    text_case : length bytes ≤ max_text_bytes → (o : Text) → decode bytes ≡ o → read_text bytes ≡ read_chars o → Answered bytes (read_chars o)
    text_case short (broken p) e h = refusing (ill_formed short (ill_read bytes p e) (prefix_of_lem bytes p e))
    text_case short (chars cs) e h = lines_case short cs e (read_lines 1 (cut is_lf cs) nothing_read) refl h

    size_case : (b : Bool) → ltb max_text_bytes (length bytes) ≡ b → read_text bytes ≡ cond b (refused text_long 0) (read_chars (decode bytes))
        → Answered bytes (cond b (refused text_long 0) (read_chars (decode bytes)))
    size_case true e h = refusing (too_long (ltb-true max_text_bytes (length bytes) e))
    size_case false e h = text_case (ltb-false max_text_bytes (length bytes) e) (decode bytes) refl h

bad_text_read : {n place : ℕ} {bytes : List ℕ} → BadText n place bytes → read_text bytes ≡ refused n place
unfolding read_text read_chars
bad_text_read {bytes = bytes} (too_long h) = rw (lt-ltb max_text_bytes (length bytes) h)
bad_text_read {bytes = bytes} (ill_formed {p = p} short ill f) =
    rw (le-ltb max_text_bytes (length bytes) short) (go (decode bytes) refl)
  where
    go : (o : Text) → decode bytes ≡ o → read_chars o ≡ refused text_ill_formed p
    go (broken q) e = ap (refused text_ill_formed) (longest_one bytes q p (prefix_of_lem bytes q e) f)
    go (chars cs) e = absurd (ill ((reads bytes).1 (cs, e)))
bad_text_read {bytes = bytes} (BadText.bad_line short w f) =
    let (cs, e, sc) = (well_formed bytes).0 w in
    bad_refused short cs e sc f

pub answered_one : (bytes : List ℕ) (a : Answer) → Answered bytes a → read_text bytes ≡ a
answered_one bytes (accepted r) (fitting f) = fits_accepted bytes r f
answered_one bytes (refused n place) (refusing b) = bad_text_read b

-- ---- given exactly when

read_bad_text : (bytes : List ℕ) (n place : ℕ) → read_text bytes ≡ refused n place → BadText n place bytes
read_bad_text bytes n place h = go (subst (Answered bytes) h (answered bytes))
  where
    go : Answered bytes (refused n place) → BadText n place bytes
    go (refusing b) = b

pub refused_text : (bytes : List ℕ) (n place : ℕ) → (read_text bytes ≡ refused n place) ↔ BadText n place bytes
refused_text bytes n place = (read_bad_text bytes n place, bad_text_read)

-- one number and one place at most
pub refused_one : (bytes : List ℕ) (n m place other : ℕ) → BadText n place bytes → BadText m other bytes → (n ≡ m) × (place ≡ other)
refused_one bytes n m place other a b =
    let e : read_text bytes ≡ refused n place = bad_text_read a in
    let d : read_text bytes ≡ refused m other = bad_text_read b in
    (cc, cc)

long_text : {n place : ℕ} {bytes : List ℕ} → BadText n place bytes → n ≡ text_long → (max_text_bytes < length bytes) × (place ≡ 0)
long_text (too_long h) e = (h, refl)
long_text (ill_formed short ill p) e = zero_one (omega arith)
long_text (BadText.bad_line short w f) e = let b = bad_number f.wrong in zero_one (omega arith)

ill_text : {n place : ℕ} {bytes : List ℕ} → BadText n place bytes → n ≡ text_ill_formed
    → (length bytes ≤ max_text_bytes) × (WellFormed bytes → ⊥) × LongestPrefix place bytes
ill_text (too_long h) e = zero_one (omega arith)
ill_text (ill_formed short ill p) e = (short, ill, p)
ill_text (BadText.bad_line short w f) e = let b = bad_number f.wrong in zero_one (omega arith)

line_text : {n place : ℕ} {bytes : List ℕ} → BadText n place bytes → range_parts ≤ n
    → (length bytes ≤ max_text_bytes) × WellFormed bytes × FirstBad n place bytes
line_text (too_long h) low = zero_one (omega arith)
line_text (ill_formed short ill p) low = zero_one (omega arith)
line_text (BadText.bad_line short w f) low = (short, w, f)

-- 2
pub too_long_exactly : (bytes : List ℕ) (place : ℕ) → (read_text bytes ≡ refused text_long place) ↔ ((max_text_bytes < length bytes) × (place ≡ 0))
too_long_exactly bytes place =
    (λ h. long_text (read_bad_text bytes text_long place h) refl, λ (h, e). bad_text_read (too_long h) ∙ ap (refused text_long) (sym e))

-- 3
pub ill_formed_exactly : (bytes : List ℕ) (place : ℕ)
    → (read_text bytes ≡ refused text_ill_formed place) ↔ ((length bytes ≤ max_text_bytes) × (WellFormed bytes → ⊥) × LongestPrefix place bytes)
ill_formed_exactly bytes place =
    (λ h. ill_text (read_bad_text bytes text_ill_formed place h) refl, λ (short, ill, p). bad_text_read (ill_formed short ill p))

-- 4 to 13
pub refused_exactly : (bytes : List ℕ) (n place : ℕ) → range_parts ≤ n
    → (read_text bytes ≡ refused n place) ↔ ((length bytes ≤ max_text_bytes) × WellFormed bytes × FirstBad n place bytes)
refused_exactly bytes n place low =
    (λ h. line_text (read_bad_text bytes n place h) low, λ (short, w, f). bad_text_read (BadText.bad_line short w f))
