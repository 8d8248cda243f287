-- A walk from character to character ends where the decoder's does, which is the end of the longest well-formed prefix.
-- Assumes nothing.
use Prim.Native.Nat.{ℕ, zero, suc, ◌+◌, ◌-◌, ◌≤◌, ◌<◌, zero-le}
use native.Mathlib.Nat.{add-zero, suc-add, add-suc}
use native.Mathlib.Omega.{arith}
use mathlib.Core.Path.{◌≡◌, refl, sym, ap, ◌∙◌, subst}
use mathlib.Core.List.{List, [], ◌∷◌}
use lib.ListN.{length, take, drop, get_or, length-drop, drop_of_length-le}
use lib.Seq.{drop-nil, drop-cons, drop-drop, take_all}
use Rattle.paper.specs.Text.Scalar.{utf8_of, WellFormed, LongestPrefix}
use Rattle.paper.specs.Computed.Decode.{bad, good, Text, broken, chars, cons_text, onward, decode_from, decode, prefix_of}
use Rattle.paper.proofs.Apart.{bad_good}
use Rattle.paper.proofs.Text.Code.{dec_1}
use Rattle.paper.proofs.Text.Prefix.{prefix_is, prefix_fits, prefix_longest, chars_formed}
use Rattle.text.specs.declared.Scalar.{Scalar}
use Rattle.text.specs.Answers.{Stands, head_of}
use Rattle.text.proofs.Chars.{some_octets, char_head}

skip : (s : List ℕ) (at extra : ℕ) → decode_from at extra s ≡ decode_from (at + extra) 0 (drop extra s)
unfolding decode_from
skip [] at extra = rw drop-nil
skip (a ∷ s) at zero = rw add-zero
skip (a ∷ s) at (suc extra) = skip s (suc at) extra ∙ ap (λ k. decode_from k 0 (drop extra s)) (suc-add at extra ∙ sym (add-suc at extra))

kept : (c n : ℕ) (o : Text) → prefix_of (cons_text c o) n ≡ prefix_of o n
kept c n (broken p) = refl
kept c n (chars cs) = refl

module _ (s : List ℕ) where
  -- how far the decoder comes from a place
  abbrev pub from : ℕ → ℕ
  from at = prefix_of (decode_from at 0 (drop at s)) (length s)

  pub from_start : from 0 ≡ prefix_of (decode s) (length s)
  unfolding decode
  from_start = refl

  pub from_char : (at c extra : ℕ) → head_of (drop at s) ≡ good c extra → from at ≡ from (at + suc extra)
  unfolding decode_from
  from_char at c extra e = go (drop at s) refl e
    where
      go : (m : List ℕ) → drop at s ≡ m → head_of m ≡ good c extra → prefix_of (decode_from at 0 m) (length s) ≡ from (at + suc extra)
      go [] q h = bad_good h
      go (a ∷ r) q h =
          let t : drop extra r ≡ drop (at + suc extra) s = ap (drop (suc extra)) (sym q) ∙ drop-drop (suc extra) at s in
          let k : suc at + extra ≡ at + suc extra = suc-add at extra ∙ sym (add-suc at extra) in
          ap (λ f. prefix_of (onward at f (λ x. decode_from (suc at) x r)) (length s)) h
          ∙ kept c (length s) (decode_from (suc at) extra r)
          ∙ ap (λ o. prefix_of o (length s)) (skip r (suc at) extra)
          ∙ ap (λ l. prefix_of (decode_from (suc at + extra) 0 l) (length s)) t
          ∙ ap (λ j. prefix_of (decode_from j 0 (drop (at + suc extra) s)) (length s)) k

  pub from_bad : (at : ℕ) → at < length s → head_of (drop at s) ≡ bad → from at ≡ at
  unfolding decode_from
  from_bad at h e = go (drop at s) (rw length-drop (omega arith)) e
    where
      go : (m : List ℕ) → 0 < length m → head_of m ≡ bad → prefix_of (decode_from at 0 m) (length s) ≡ at
      go [] p q = absurd (omega arith)
      go (a ∷ r) p q = ap (λ f. prefix_of (onward at f (λ x. decode_from (suc at) x r)) (length s)) q

  pub from_next : (at : ℕ) (r : Scalar) → Stands s at r → from at ≡ from r.next
  from_next at r x =
      let p = some_octets r.value in
      let e : at + suc (length (utf8_of r.value) - 1) ≡ r.next = (let b = x.behind in omega arith) in
      from_char at r.value _ (char_head s at r x) ∙ ap from e

  pub from_ascii : (at : ℕ) → at < length s → get_or s at 0 ≤ 0x7F → from at ≡ from (at + 1)
  from_ascii at h k = from_char at (get_or s at 0) 0 (ap head_of (drop-cons s at 0 h) ∙ dec_1 (get_or s at 0) (drop (suc at) s) k)

  pub from_end : (at : ℕ) → at ≡ length s → from at ≡ at
  unfolding decode_from
  from_end at e = let h : length s ≤ at = omega arith in rw (drop_of_length-le s h) (sym e)

  -- where the decoder stops is the longest prefix
  pub decoder_longest : LongestPrefix (prefix_of (decode s) (length s)) s
  unfolding decode
  decoder_longest = go (decode_from 0 0 s) refl
    where
      go : (o : Text) → decode_from 0 0 s ≡ o → LongestPrefix (prefix_of o (length s)) s
      go (broken p) e =
          let (n, q, k, l, w) = prefix_fits s 0 0 p e in
          let r : n ≡ p = omega arith in
          record {
            inside = omega arith;
            fits = subst (λ x. WellFormed (take x s)) r w;
            longest = λ m h v. let k = prefix_longest s 0 0 p e m zero-le h v in omega arith;
          }
      go (chars cs) e = record {
        inside = omega arith;
        fits = subst WellFormed (sym (take_all (length s) s (omega arith))) (chars_formed s 0 0 cs e);
        longest = λ m h v. h;
      }

  -- and no other length is
  pub prefix_decoded : (r : ℕ) → LongestPrefix r s → r ≡ prefix_of (decode s) (length s)
  prefix_decoded r h = prefix_is s r h.inside h.fits (λ k l m w. let n = h.longest k m w in omega arith)

  pub prefix_one : (r q : ℕ) → LongestPrefix r s → LongestPrefix q s → r ≡ q
  prefix_one r q h k = prefix_decoded r h ∙ sym (prefix_decoded q k)
