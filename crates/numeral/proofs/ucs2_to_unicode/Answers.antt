-- `ucs2_to_unicode` answers `checked_bound`: a mark is refused, a surrogate stands for FFFD, any other code for itself.
-- Assumes nothing.
use native.Mathlib.Omega.{arith}
use mathlib.Core.Logic.{inl, inr}
use Rattle.numeral.proofs.Bounds.{mark, swapped, before, surrogate, behind}
use Rattle.numeral.proofs.ucs2_to_unicode.Goals as goal

pub returns-in-65279 : goal.returns-in-65279
returns-in-65279 c = elim c.in-65279.is [ inl e ↦ mark _ e | inr e ↦ swapped _ e ]

pub returns-in-55296-to-57343 : goal.returns-in-55296-to-57343
returns-in-55296-to-57343 c = surrogate _ (λ e. omega arith) (λ e. omega arith) (omega arith) (omega arith)

pub returns-in_default : goal.returns-in_default
returns-in_default c = before _ (λ e. omega arith) (λ e. omega arith) (omega arith)

pub returns-in_default-2 : goal.returns-in_default-2
returns-in_default-2 c = behind _ (λ e. grind arith) (λ e. grind arith) (omega arith)
