use Prim.Native.Nat.{ℕ}
use native.Mathlib.Omega.{arith}
use mathlib.Core.Path.{◌≡◌, sym, ◌∙◌, subst}
use mathlib.Core.List.{List}
use lib.ListN.{length}
use Rattle.paper.specs.Text.Scalar.{LongestPrefix}
use Rattle.paper.specs.Computed.Decode.{decode, prefix_of}
use Rattle.text.proofs.Chars.{some_octets, no_char}
use Rattle.text.proofs.Prefix.{from_start, from_ascii, from_next, from_bad, from_end, decoder_longest}
use Rattle.text.proofs.valid_prefix.Goals as goal

ended : (s : List ℕ) (at : ℕ) → at ≡ prefix_of (decode s) (length s) → LongestPrefix at s
ended s at e = subst (λ r. LongestPrefix r s) (sym e) (decoder_longest s)

pub loop-at-init : goal.loop-at-init
loop-at-init c = (omega arith, from_start c.args.s.now)

pub loop-at-preserved-then-s-at-lt128 : goal.loop-at-preserved-then-s-at-lt128
loop-at-preserved-then-s-at-lt128 c =
    let s = c.args.s.now in
    (omega arith, sym (from_ascii s c.loop-at.at c.loop-at-test.true (omega arith)) ∙ c.loop-at.invariant.1)

pub octets_at-requires : goal.octets_at-requires
octets_at-requires c = record { at_in_bounds = c.loop-at-test.true; by_class = c.classes-table.ensures; bound = omega arith }

pub returns-in_default : goal.returns-in_default
returns-in_default c =
    let s = c.args.s.now in
    let e = from_bad s c.loop-at.at c.loop-at-test.true (no_char s c.loop-at.at c.octets_at.result c.in_default.not-Char c.loop-at-test.true c.octets_at.ensures) in
    ended s c.loop-at.at (sym e ∙ c.loop-at.invariant.1)

pub loop-at-smaller : goal.loop-at-smaller
loop-at-smaller c =
    let x = c.in-Char.ensures in
    let p = some_octets c.in-Char.c.value in
    omega arith

pub loop-at-preserved : goal.loop-at-preserved
loop-at-preserved c =
    let x = c.in-Char.ensures in
    (x.inside, sym (from_next c.args.s.now c.loop-at.at c.in-Char.c x) ∙ c.loop-at.invariant.1)

pub returns : goal.returns
returns c =
    let s = c.args.s.now in
    ended s c.loop-at.at (sym (from_end s c.loop-at.at (omega arith)) ∙ c.loop-at.invariant.1)
