-- Counts within the limits and tables that long: the test as a record, so that a single comparison refuses it.
-- Assumes nothing.
use Prim.Native.Nat.{ℕ, ◌*◌}
use mathlib.Core.Path.{◌≡◌, sym}
use mathlib.Core.Bool.{true, false}
use lib.Dec.{leb}
use mir.Facts.{yes_and, yes_leb}
use Rattle.paper.specs.Computed.HandedIn.{enough}
use Rattle.paper.specs.declared.Counts.{Counts}
use Rattle.paper.proofs.Lists.Facts.{T→true}
use Rattle.paper.proofs.Tables.Trip.{Enough, says}
use Rattle.table_rules.proofs.Tests.{refused}

module _ (a b c d e : ℕ) (n : Counts) where
  pub not_enough : (Enough a b c d e n → ⊥) → false ≡ enough a b c d e n
  not_enough f = refused (enough a b c d e n) (λ t. f (says a b c d e n t))

  pub is_enough : Enough a b c d e n → true ≡ enough a b c d e n
  unfolding enough
  is_enough h =
      sym (T→true _
      (yes_and (leb n.categories 512) _ (yes_leb h.limits.0)
      (yes_and (leb n.bytes 16384) _ (yes_leb h.limits.1.0)
      (yes_and (leb n.definitions 512) _ (yes_leb h.limits.1.1.0)
      (yes_and (leb n.ranges 2048) _ (yes_leb h.limits.1.1.1.0)
      (yes_and (leb n.references 8192) _ (yes_leb h.limits.1.1.1.1)
      (yes_and (leb n.bytes a) _ (yes_leb h.for_names)
      (yes_and (leb (4 * n.categories) b) _ (yes_leb h.for_categories)
      (yes_and (leb (6 * n.definitions) c) _ (yes_leb h.for_definitions)
      (yes_and (leb (8 * n.ranges) d) (leb (2 * n.references) e) (yes_leb h.for_ranges) (yes_leb h.for_references)))))))))))
