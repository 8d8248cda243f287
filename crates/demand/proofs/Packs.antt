-- Demand 2's packs: the reader's promise and the writer's meet in the reading that stands in the tables.
-- Assumes nothing.
use Prim.Native.Nat.{ℕ}
use mathlib.Core.Path.{◌≡◌, refl, sym, ap, ◌∙◌, subst}
use mathlib.Core.Logic.{◌↔◌}
use mathlib.Core.List.{List}
use mathlib.Core.Option.{some}
use lib.Dec.{T}
use Rattle.paper.specs.Lists.{all}
use Rattle.paper.specs.Numbers.Bytes.{is_byte}
use Rattle.paper.specs.CharDef.Reading.{Reading, accepted}
use Rattle.paper.specs.Pack.Fields.{pack_bytes}
use Rattle.paper.specs.Pack.Rules.{PackRules}
use Rattle.paper.specs.Pack.Broken.{Broken}
use Rattle.paper.specs.Tables.Layout.{Tables, layout, counts_of, used}
use Rattle.paper.specs.Tables.HandedIn.{OfBytes}
use Rattle.paper.specs.Computed.HandedIn.{handed_in}
use Rattle.paper.specs.Computed.ReadPack.{read_pack}
use Rattle.paper.specs.declared.Counts.{Counts}
use Rattle.paper.specs.declared.Refusal.{Refusal}
use Rattle.paper.proofs.Pack.Broken.{refused_exactly}
use Rattle.paper.proofs.Pack.Trip.{pack_is, write_read, read_write}
use Rattle.paper.proofs.Tables.Holds.{handed_exactly, handed_inverse}
use Rattle.room.proofs.Promise as promise
use Rattle.packer.proofs.Promise as writer
use Rattle.demand.specs.Packs.{Unpacked, Written, pack_in, ReadsPacks, OutAndBack, WithinLimit, BackAndOut}
use Rattle.std.specs.Prelude.{Err, Ok}

module _ (pack : List ℕ) (bytes : T (all is_byte pack)) (run : Unpacked pack) where
  accepted_so : (n : Counts) → (run.outcome ≡ Ok n) ↔ ((q : Reading) × PackRules q × (pack_bytes q ≡ pack) × (n ≡ counts_of q))
  accepted_so n =
      let p = promise.accepted_exactly run.room run.promised n in (
        λ e. let (q, a, c) = p.0 e in (q, (pack_is pack q a).rules, read_write pack q bytes a, c),
        λ (q, k, w, c). p.1 (q, ap read_pack (sym w) ∙ write_read q k, c),
      )

  refused_so : (x : Refusal) → (run.outcome ≡ Err x) ↔ Broken pack x.number x.place
  refused_so x =
      let p = promise.refused_exactly run.room run.promised x in
      let q = refused_exactly pack x.number x.place in
      (λ e. q.0 (p.0 e), λ b. p.1 (q.1 b))

  in_the_tables : (q : Reading) → PackRules q → pack_bytes q ≡ pack → handed_in run.left (counts_of q) ≡ some q
  in_the_tables q k w = promise.handed_back run.room run.promised q (ap read_pack (sym w) ∙ write_read q k) k

  pub reads_packs : ReadsPacks pack run
  reads_packs = record { accepted_exactly = accepted_so; refused_exactly = refused_so; in_the_tables = in_the_tables }

  pub back_and_out : OfBytes run.left → BackAndOut pack run
  back_and_out b n e w =
      let (q, k, p, c) = (accepted_so n).0 e in
      let h : handed_in run.left n ≡ some q = subst (λ m. handed_in run.left m ≡ some q) (sym c) (in_the_tables q k p) in
      writer.same_bytes b w.promised w.bytes refl q ((handed_exactly run.left n q b).0 h) pack bytes (ap read_pack (sym p) ∙ write_read q k)

module _ (t : Tables) (n : Counts) (b : OfBytes t) (w : Written t n) where
  pub within_limit : WithinLimit w
  within_limit = writer.never_over b w.promised w.bytes refl

  pub out_and_back : (run : Unpacked (pack_in w)) → OfBytes run.left → OutAndBack t n w run
  out_and_back run o =
      let e = (writer.written_exactly b w.promised w.bytes).0 refl in
      let q = e.reading in
      let h = e.stands in
      let a : read_pack (pack_in w) ≡ accepted q = writer.read_back b w.promised w.bytes refl q h in
      let i : handed_in run.left (counts_of q) ≡ some q = promise.handed_back run.room run.promised q a h.rules in
      let u : layout q ≡ used (counts_of q) run.left = ((handed_inverse q h.rules).1 run.left (counts_of q) o i).0 in
      record {
        accepted = (promise.accepted_exactly run.room run.promised n).1 (q, a, sym h.counted);
        same_tables = ap (λ m. used m run.left) (sym h.counted) ∙ sym u ∙ h.laid_out;
      }
