-- The pack is whole: its fields and zero bits up to the end of the last byte are bytes that all went to memory, and they are the paper's.
-- Assumes nothing.
use Prim.Native.Nat.{ℕ, zero, suc, ◌-◌, ◌/◌, ◌%◌, ◌^◌, ◌<◌}
use native.Mathlib.Nat.{div-eq_of_lt}
use native.Mathlib.Omega.{arith}
use mathlib.Core.Path.{◌≡◌, sym, ap, ◌∙◌}
use mathlib.Core.List.{List, [], ◌∷◌, ◌++◌, append-nil}
use lib.Dec.{T, ltb, eqb}
use lib.ListN.{length, drop}
use lib.Pow.{pow_pos}
use mir.Facts.{yes_and, yes_ltb, yes_eqb}
use Rattle.paper.specs.Lists.{all}
use Rattle.paper.specs.Numbers.Bytes.{is_byte}
use Rattle.paper.specs.CharDef.Reading.{Reading}
use Rattle.paper.specs.Pack.Fields.{byte_width, field, bits, bits_of, in_bytes, pack_fields, pack_bits, pack_bytes}
use Rattle.paper.specs.Computed.ReadPack.{is_padding}
use Rattle.paper.proofs.Pack.Bits.{spell_append, in_bytes_unpack, in_bytes_pad, unpack_length}
use Rattle.paper.proofs.Pack.Size.{bits_length}
use Rattle.put_field.specs.declared.BitWriter.{BitWriter}
use Rattle.put_field.specs.Writer.{waiting_bits, start, Writes, Puts}
use Rattle.put_field.proofs.Writing.{puts_both}

zero_bits : (w : ℕ) → T (all (eqb 0) (bits w 0))
zero_bits zero = tt
zero_bits (suc w) =
    let e : 0 ≡ 0 / 2 ^ w % 2 = sym (ap (λ q. q % 2) (div-eq_of_lt (pow_pos w))) in
    yes_and (eqb 0 (0 / 2 ^ w % 2)) (all (eqb 0) (bits w 0)) (yes_eqb e) (zero_bits w)

pads : (w : ℕ) → w < byte_width → T (is_padding (bits w 0))
pads w h =
    let k : length (bits w 0) < byte_width = rw (bits_length w 0) h in
    yes_and (ltb (length (bits w 0)) byte_width) (all (eqb 0) (bits w 0)) (yes_ltb k) (zero_bits w)

-- where no bit waits, bits with padding behind them are the bytes that went to memory
whole_is : (s : List ℕ) (pad : ℕ) (whole : List ℕ) → pad < byte_width → T (all is_byte whole) → s ++ bits pad 0 ≡ bits_of whole → in_bytes s ≡ whole
whole_is s pad whole few b e =
    let even : length (s ++ bits pad 0) % byte_width ≡ 0 = ap (λ l. length l % byte_width) e ∙ unpack_length whole in
    sym (in_bytes_pad s (bits pad 0) (pads pad few) even) ∙ ap in_bytes e ∙ in_bytes_unpack whole b

none_wait : (w : BitWriter) → w.waiting ≡ 0 → waiting_bits w ≡ []
none_wait w e = ap (λ k. bits k w.held) e

pub pack_whole : (q : Reading) (pad : ℕ) {n v : ℕ} {lent a after : List ℕ} {w r : BitWriter} → Puts lent start (pack_fields q) n a w
    → Puts a w (field pad v ∷ []) pad after r → pad ≡ (byte_width - w.waiting) % byte_width → v ≡ 0
    → after ≡ pack_bytes q ++ drop (length (pack_bytes q)) lent
unfolding pack_bytes pack_bits
pack_whole q pad {n} {v} {lent} {a} {after} {w} {r} x y e d =
    let fw = x.few in
    let fr = y.few in
    let m = y.moved in
    let few : pad < byte_width = omega arith in
    let none : r.waiting ≡ 0 = omega arith in
    let z : Writes lent start (pack_fields q ++ (field pad v ∷ [])) after r = (puts_both x y).writes in
    let spelt : pack_bits q ++ bits pad 0 ≡ bits_of z.whole =
    ap (λ k. pack_bits q ++ bits pad k) (sym d) ∙ ap (λ l. pack_bits q ++ l) (sym (append-nil (bits pad v)))
    ∙ sym (spell_append (pack_fields q) (field pad v ∷ [])) ∙ z.spelt ∙ ap (λ l. bits_of z.whole ++ l) (none_wait r none) ∙ append-nil (bits_of z.whole) in
    let is : pack_bytes q ≡ z.whole = whole_is (pack_bits q) pad z.whole few z.are_bytes spelt in
    let on : r.at ≡ length z.whole = let o = z.on in omega arith in
    z.memory ∙ ap (λ k. z.whole ++ drop k lent) on ∙ ap (λ l. l ++ drop (length l) lent) (sym is)
