-- `pack_padding::is_padding` meets its contract. Assumes nothing.
use native.Mathlib.Omega.{arith}
use borrow.Author.Rules.{rules}
use Rattle.std.proofs.lemmas.Result.{MatchResult-weaker}
use Rattle.pack_padding.proofs.Padding.{nothing_left, whole_byte, bytes_over, last_or_cut}
use Rattle.pack_padding.proofs.is_padding.Goals as goal
use Rattle.pack_padding.proofs.is_padding.Goals.{then-over-eq0-via-then-over-eq0, then-over-eq0-via-else-over-eq0+then-whole-pack}

pub returns-then-pack-whole : goal.returns-then-pack-whole
returns-then-pack-whole c = nothing_left _ _ (omega arith)

pub returns-then-over-eq0 : goal.returns-then-over-eq0
returns-then-over-eq0 c =
    elim c.then-over-eq0.branch [
      | then-over-eq0-via-then-over-eq0 w ↦ whole_byte _ _ (omega arith) (omega arith)
      | then-over-eq0-via-else-over-eq0+then-whole-pack w ↦ bytes_over _ _ (omega arith)
    ]

pub returns : goal.returns
returns c =
    last_or_cut _ _ (omega arith) (omega arith) (omega arith) (omega arith) c.is_ok_and.result _ c.field.ensures
    (MatchResult-weaker c.field.result c.is_ok_and.ensures (λ x h. search rules) (λ x h. h))
