-- UTF-8 by three accounts that agree: the ABNF of RFC 3629, section 4, the table of section 3 over scalar values, and the decoder. A text is
-- well-formed exactly where it is `utf8` of scalar values (`well_formed`), which the decoder then answers, and nothing else (`decodes`).
-- Assumes nothing.
use Prim.Native.Nat.{ℕ, ◌+◌, ◌<◌, ◌≤◌, zero-le}
use native.Mathlib.Nat.{le_refl}
use native.Mathlib.Omega.{arith}
use mathlib.Core.Path.{◌≡◌, refl, sym, ap, ◌∙◌, subst}
use mathlib.Core.Logic.{◌↔◌}
use mathlib.Core.List.{List}
use lib.Dec.{T}
use lib.ListN.{length}
use lib.Seq.{take-length}
use Rattle.paper.specs.Lists.{all}
use Rattle.paper.specs.Text.Scalar.{is_scalar, utf8, WellFormed}
use Rattle.paper.specs.Computed.Decode.{Text, broken, chars, decode}
use Rattle.paper.proofs.Apart.{broken_chars}
use Rattle.paper.proofs.Text.Prefix.{prefix_longest, broken_inside, chars_formed}
pub use Rattle.paper.proofs.Text.Lengths.{enc_1, enc_2, enc_3, enc_4, dec_1, dec_2, dec_3, dec_4}
pub use Rattle.paper.proofs.Text.Undo.{decode_complete}
pub use Rattle.paper.proofs.Text.Taken.{Undone, first_taken, decode_sound}

-- the decoder takes `utf8` of scalar values, and nothing else
pub decodes : (s cs : List ℕ) → (decode s ≡ chars cs) ↔ ((s ≡ utf8 cs) × T (all is_scalar cs))
unfolding decode
decodes s cs = (λ e. let (a, i) = decode_sound s 0 0 cs e in (i, a), λ (i, a). ap decode i ∙ decode_complete cs 0 a)

-- and so much is well-formed
pub reads : (s : List ℕ) → WellFormed s ↔ ((cs : List ℕ) × (decode s ≡ chars cs))
unfolding decode
reads s = (λ w. go w (decode s) refl, λ (cs, e). chars_formed s 0 0 cs e)
  where
    never : (p : ℕ) → 0 + length s ≤ p → p < 0 + length s → ⊥
    never p a b = omega arith

    go : WellFormed s → (o : Text) → decode s ≡ o → (cs : List ℕ) × (decode s ≡ chars cs)
    go w (chars cs) e = (cs, e)
    go w (broken p) e = absurd (never p (prefix_longest s 0 0 p e (length s) zero-le (le_refl (length s)) (subst WellFormed (sym (take-length s)) w)) (broken_inside s 0 0 p e))

pub well_formed : (s : List ℕ) → WellFormed s ↔ ((cs : List ℕ) × (s ≡ utf8 cs) × T (all is_scalar cs))
well_formed s =
    (λ w. let (cs, e) = (reads s).0 w in let (i, a) = (decodes s cs).0 e in (cs, i, a), λ (cs, i, a). (reads s).1 (cs, (decodes s cs).1 (i, a)))

-- what the decoder breaks off at is not well-formed
pub ill_read : (s : List ℕ) (p : ℕ) → decode s ≡ broken p → WellFormed s → ⊥
ill_read s p e w = let (cs, i) = (reads s).0 w in broken_chars (sym e ∙ i)

-- no two texts of scalar values have the same bytes
pub utf8_one : (cs ds : List ℕ) → T (all is_scalar cs) → T (all is_scalar ds) → utf8 cs ≡ utf8 ds → cs ≡ ds
utf8_one cs ds a b e =
    let p : decode (utf8 cs) ≡ chars cs = (decodes (utf8 cs) cs).1 (refl, a) in
    let q : decode (utf8 cs) ≡ chars ds = (decodes (utf8 cs) ds).1 (e, b) in
    cc
