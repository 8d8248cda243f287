-- Demand 3 is met: what the promise of a reader says (`room`), with what the paper's answer to a text means (`CharDef`).
-- Assumes nothing.
use Prim.Native.Nat.{ℕ, ◌≤◌}
use mathlib.Core.Path.{◌≡◌, refl}
use mathlib.Core.Logic.{◌↔◌}
use mathlib.Core.List.{List, ◌∷◌, ◌++◌}
use mathlib.Core.Option.{some}
use Rattle.paper.specs.Refusals.{range_parts}
use Rattle.paper.specs.Text.Scalar.{lf}
use Rattle.paper.specs.CharDef.Reading.{Reading, Fits}
use Rattle.paper.specs.CharDef.Bad.{BadText, FirstBad, lines_before, through_line}
use Rattle.paper.specs.Tables.Layout.{counts_of}
use Rattle.paper.specs.Computed.HandedIn.{handed_in}
use Rattle.paper.specs.declared.Counts.{Counts}
use Rattle.paper.specs.declared.Refusal.{Refusal}
use Rattle.paper.proofs.CharDef.Accepts.{accepts, fits_one}
use Rattle.paper.proofs.CharDef.Answers.{refused_text, refused_exactly}
use Rattle.paper.proofs.CharDef.FirstBad.{nothing_after}
use Rattle.paper.proofs.Pack.Kept.{fits_rules}
use Rattle.room.proofs.Promise as promise
use Rattle.demand.specs.Demand3.{Run, Demand3}
use Rattle.std.specs.Prelude.{Err, Ok}

module _ (text : List ℕ) (run : Run text) where
  accepted_so : (n : Counts) → (run.outcome ≡ Ok n) ↔ ((q : Reading) × Fits text q × (n ≡ counts_of q))
  accepted_so n =
      let p = promise.accepted_exactly run.room run.promised n in
      (λ e. let (q, a, c) = p.0 e in (q, (accepts text q).0 a, c), λ (q, f, c). p.1 (q, (accepts text q).1 f, c))

  in_the_tables : (q : Reading) → Fits text q → handed_in run.left (counts_of q) ≡ some q
  in_the_tables q f = promise.handed_back run.room run.promised q ((accepts text q).1 f) (fits_rules text q f)

  refused_so : (x : Refusal) → (run.outcome ≡ Err x) ↔ BadText x.number x.place text
  refused_so x =
      let p = promise.refused_exactly run.room run.promised x in
      let q = refused_text text x.number x.place in
      (λ e. q.0 (p.0 e), λ b. p.1 (q.1 b))

  first_bad : (x : Refusal) → run.outcome ≡ Err x → range_parts ≤ x.number → FirstBad x.number x.place text
  first_bad x e low = ((refused_exactly text x.number x.place low).0 ((promise.refused_exactly run.room run.promised x).0 e)).2

pub demand3 : (text : List ℕ) (run : Run text) → Demand3 text run
demand3 text run =
    record {
      accepted_exactly = accepted_so text run;
      one_reading = fits_one text;
      in_the_tables = in_the_tables text run;
      refused_exactly = refused_so text run;
      accepted_before = λ x e low other.
          let f = first_bad text run x e low in
          (counts_of f.reading, (accepted_so (lines_before x.place text) other (counts_of f.reading)).1 (f.reading, f.before, refl));
      refused_after = λ x e low u other n a.
          let (q, g, c) = (accepted_so (through_line x.place text ++ (lf ∷ u)) other n).0 a in
          nothing_after (first_bad text run x e low) u q g;
    }
