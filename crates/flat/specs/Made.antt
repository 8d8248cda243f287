-- The flat table of the walk's rows, or 16 or 17: what stands between the walk and the promise of `build_flat_table`.
-- Assumes nothing.
use Rattle.std.specs.Prelude.{ℕ, ◌≡◌, List}
use Rattle.std.proofs.Math.Option.{some}
use Rattle.paper.specs.CharDef.Reading.{Reading}
use Rattle.paper.specs.Rows.Covering.{boundaries, rows}
use Rattle.fill_flat.specs.Walked.{FlatRoom}
use Rattle.flat.specs.Built.{answer_to, given, leaves}
use Rattle.std.specs.Prelude.{Result}
use Rattle.paper.specs.declared.Refusal.{Refusal}

-- refused or built, by every reading that has these boundaries and rows
pub record Builds (r : Reading) (lent after : FlatRoom) (a : Result ℕ Refusal) : Type 0 where
  pub answer : a ≡ given r (answer_to (some r) lent)
  pub memory : after ≡ leaves r (answer_to (some r) lent) lent

abbrev pub BuildsOf : List ℕ → List (List ℕ) → FlatRoom → FlatRoom → Result ℕ Refusal → Type 0
BuildsOf bs ws lent after a = (r : Reading) → bs ≡ boundaries r → ws ≡ rows r → Builds r lent after a
