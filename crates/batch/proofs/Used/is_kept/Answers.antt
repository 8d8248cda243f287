-- `batch::Used::is_kept`: the two parts that are tested are those of `IsKept`.
use Rattle.std.proofs.Common.{◌≡◌, ℕ, ◌-◌, List, length, take, drop, ap, ◌∙◌, arith, length-drop}
use Rattle.std.specs.Prelude.{min}
use Rattle.std.proofs.lemmas.List.{take_all}
use Rattle.batch.specs.Kept.{past_used}
use Rattle.batch.proofs.Used.is_kept.Goals as goal

to_end : (m : ℕ) (l : List ℕ) → take (length l - m) (drop m l) ≡ drop m l
to_end m l = take_all (length l - m) (drop m l) (omega (arith, length-drop m l))

same_part : (front room : List ℕ) (m used : ℕ) → front ≡ take (length room - 16) room → length front ≡ length room - 16 → m ≡ min used (length front)
    → take (length front - m) (drop m front) ≡ past_used used room
same_part front room m used e n h =
    to_end m front ∙ ap (λ k. drop k front) (h ∙ ap (min used) n) ∙ ap (drop (min used (length room - 16))) e

pub returns-then-is_filled : goal.returns-then-is_filled
returns-then-is_filled c =
    let p = same_part _ _ _ _ c.split_at.ensures.front c.split_at.ensures.front_len c.min.ensures in
    let d = rw p at c.is_filled.ensures in
    let e = rw c.split_at.ensures.back at c.is_filled-then-is_filled.ensures in
    (λ t. (omega arith, d.0 c.if-is_filled.true, e.0 t), λ (a, b, f). e.1 f)

pub returns-else-is_filled : goal.returns-else-is_filled
returns-else-is_filled c =
    let p = same_part _ _ _ _ c.split_at.ensures.front c.split_at.ensures.front_len c.min.ensures in
    let d = rw p at c.is_filled.ensures in
    (λ t. absurd (cc), λ (a, b, f). d.1 b)
