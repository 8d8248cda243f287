-- End to end: the reading that is accepted stands in the tables, and lookups over what the builders leave of them are over it.
-- Assumes nothing.
use Prim.Native.Nat.{ℕ}
use mathlib.Core.Path.{◌≡◌, sym, ap, ◌∙◌, subst}
use mathlib.Core.List.{List}
use mathlib.Core.Option.{some}
use Rattle.paper.specs.CharDef.Reading.{Reading, Fits, accepted}
use Rattle.paper.specs.Tables.Layout.{Tables, counts_of}
use Rattle.paper.specs.Computed.HandedIn.{handed_in}
use Rattle.paper.specs.Computed.ReadPack.{read_pack}
use Rattle.paper.specs.declared.Counts.{Counts}
use Rattle.paper.proofs.Pack.Trip.{write_read}
use Rattle.demand.specs.Demand2.{BuiltOver}
use Rattle.demand.specs.EndToEnd.{OneReading, FromText, PackOf, FromPack}
use Rattle.demand.proofs.Demand2.{looks_up, finds_by_number}
use Rattle.demand.proofs.Demand3.{demand3}
use Rattle.demand.proofs.Packs.{reads_packs}

over_it : (Meant : Reading → Type 0) (t : Tables) (n : Counts) (b : BuiltOver t n) (q : Reading) → Meant q → ((p : Reading) → Meant p → p ≡ q)
    → n ≡ counts_of q → handed_in t (counts_of q) ≡ some q → OneReading Meant t n b
over_it Meant t n b q m one c h =
    let e : handed_in t n ≡ some q = subst (λ k. handed_in t k ≡ some q) (sym c) h in
    record { reading = q; meant = m; no_other = one; lookups = looks_up t n q e b; by_number = finds_by_number t n q e }

pub from_text : (text : List ℕ) → FromText text
from_text text run n a b =
    let d = demand3 text run in
    let (q, f, c) = (d.accepted_exactly n).0 a in
    over_it (Fits text) run.left n b q f (λ p g. d.one_reading p q g f) c (d.in_the_tables q f)

read_one : (pack : List ℕ) (p q : Reading) → PackOf pack p → PackOf pack q → p ≡ q
read_one pack p q (k, e) (l, f) =
    let i : accepted p ≡ accepted q = sym (write_read p k) ∙ ap read_pack (e ∙ sym f) ∙ write_read q l in
    cc

pub from_pack : (pack : List ℕ) → FromPack pack
from_pack pack bytes run n a b =
    let d = reads_packs pack bytes run in
    let (q, k, p, c) = (d.accepted_exactly n).0 a in
    over_it (PackOf pack) run.left n b q (k, p) (λ o g. read_one pack o q g (k, p)) c (d.in_the_tables q k p)
