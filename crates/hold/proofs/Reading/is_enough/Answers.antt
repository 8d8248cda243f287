-- `hold::Reading::is_enough` meets its contract: each comparison alone refuses. Assumes nothing.
use native.Mathlib.Omega.{arith}
use Rattle.hold.proofs.Enough.{not_enough, is_enough}
use Rattle.hold.proofs.Reading.is_enough.Goals as goal

pub returns-then-n-gt-MAX_CATEGORIES : goal.returns-then-n-gt-MAX_CATEGORIES
returns-then-n-gt-MAX_CATEGORIES c = not_enough _ _ _ _ _ _ (λ h. omega arith)

pub returns-then-n-gt-MAX_NAME_BYTES : goal.returns-then-n-gt-MAX_NAME_BYTES
returns-then-n-gt-MAX_NAME_BYTES c = not_enough _ _ _ _ _ _ (λ h. omega arith)

pub returns-then-n-gt-MAX_CATEGORY_LINES : goal.returns-then-n-gt-MAX_CATEGORY_LINES
returns-then-n-gt-MAX_CATEGORY_LINES c = not_enough _ _ _ _ _ _ (λ h. omega arith)

pub returns-then-n-gt-MAX_RANGES : goal.returns-then-n-gt-MAX_RANGES
returns-then-n-gt-MAX_RANGES c = not_enough _ _ _ _ _ _ (λ h. omega arith)

pub returns-then-n-gt-MAX_REFERENCES : goal.returns-then-n-gt-MAX_REFERENCES
returns-then-n-gt-MAX_REFERENCES c = not_enough _ _ _ _ _ _ (λ h. omega arith)

pub returns-then-self-n : goal.returns-then-self-n
returns-then-self-n c = not_enough _ _ _ _ _ _ (λ h. omega arith)

pub returns-then-self-n-2 : goal.returns-then-self-n-2
returns-then-self-n-2 c = not_enough _ _ _ _ _ _ (λ h. omega arith)

pub returns-then-self-n-3 : goal.returns-then-self-n-3
returns-then-self-n-3 c = not_enough _ _ _ _ _ _ (λ h. omega arith)

pub returns-then-self-n-4 : goal.returns-then-self-n-4
returns-then-self-n-4 c = not_enough _ _ _ _ _ _ (λ h. omega arith)

pub returns-then-self-n-5 : goal.returns-then-self-n-5
returns-then-self-n-5 c = not_enough _ _ _ _ _ _ (λ h. omega arith)

pub returns : goal.returns
returns c =
    is_enough _ _ _ _ _ _
    (record {
      limits = (omega arith, (omega arith, (omega arith, (omega arith, omega arith))));
      for_names = omega arith;
      for_categories = omega arith;
      for_definitions = omega arith;
      for_ranges = omega arith;
      for_references = omega arith;
    })
