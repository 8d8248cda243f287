-- unk.def's part is met: what the promise of `parse_unk` says, gathered, and what the lookups' promises say over the tables that it leaves.
-- Assumes nothing.
use Prim.Native.Nat.{ℕ}
use mathlib.Core.Path.{◌≡◌, sym, subst}
use mathlib.Core.List.{List}
use mathlib.Core.Option.{some}
use Rattle.paper.specs.CharDef.Reading.{Reading, Fits}
use Rattle.paper.specs.Tables.Layout.{Tables}
use Rattle.paper.specs.Computed.HandedIn.{handed_in}
use Rattle.paper.specs.declared.Counts.{Counts}
use Rattle.paper.specs.Unk.Entry.{Unk, UnkFits}
use Rattle.paper.proofs.Unk.Details.{word_is, details_are}
use Rattle.paper.proofs.Unk.Text.{unk_fits_one}
use Rattle.unk.specs.Parse.{counts_of}
use Rattle.unk_enter.specs.declared.UnkCounts.{UnkCounts}
use Rattle.unk.proofs.Promise as promise
use Rattle.word.proofs.Promise as word
use Rattle.demand.specs.Demand3.{Run}
use Rattle.demand.specs.Unk.{RunUnk, ReadsUnk, FindsWords}
use Rattle.demand.proofs.Demand3.{demand3}
use Rattle.std.specs.Prelude.{Ok}

pub reads_unk : (t : Tables) (n : Counts) (q : Reading) → handed_in t n ≡ some q → (text : List ℕ) (run : RunUnk t n text) → ReadsUnk q text run
reads_unk t n q e text run =
    record {
      accepted_exactly = promise.accepted_exactly run.promised run.room q e;
      one_answer = unk_fits_one q.names text;
      in_the_tables = promise.holds_tables run.promised run.room q e;
      refused_exactly = promise.refused_exactly run.promised run.room q e;
      after_refusal = λ x r. promise.refusal_leaves run.promised run.room q e x.number x.place ((promise.refused_exactly run.promised run.room q e x).0 r);
      category_list = promise.category_list q.names text;
      entry_list = word_is q.names text;
      details_list = details_are q.names text;
    }

-- END TO END: from the bytes of an accepted unk.def through `parse_unk` to what the lookups return: what its lines say, and 15 past them
pub from_unk : (t : Tables) (n : Counts) (q : Reading) → handed_in t n ≡ some q → (text : List ℕ) (run : RunUnk t n text) (c : UnkCounts) → run.outcome ≡ Ok c
    → (u : Unk) × UnkFits q.names text u × FindsWords q u run.left n.categories c.entries
unfolding counts_of
from_unk t n q e text run c a =
    let (u, f, d) = (promise.accepted_exactly run.promised run.room q e c).0 a in
    let h = promise.holds_tables run.promised run.room q e u f in
    let w : FindsWords q u run.left n.categories (counts_of u).entries
    = record {
      ids_held = word.ids_held t n q e text u f run.lent run.left h;
      ids_refused = word.ids_refused t n q e text u f run.lent run.left h;
      word_held = word.word_held t n q e text u f run.lent run.left h;
      word_refused = word.entry_refused t n q e text u f run.lent run.left h;
      details_held = word.details_held t n q e text u f run.lent run.left h;
      details_refused = word.details_refused t n q e text u f run.lent run.left h;
    } in
    (u, f, subst (λ (k : UnkCounts). FindsWords q u run.left n.categories k.entries) (sym d) w)

-- and from the bytes of both: the one reading that fits the char.def is what the unk.def is read over
pub from_texts : (text : List ℕ) (run : Run text) (n : Counts) → run.outcome ≡ Ok n
    → (unk : List ℕ) (read : RunUnk run.left n unk) (c : UnkCounts) → read.outcome ≡ Ok c
    → (q : Reading) × Fits text q × (u : Unk) × UnkFits q.names unk u × FindsWords q u read.left n.categories c.entries
from_texts text run n a unk read c b =
    let d = demand3 text run in
    let (q, f, k) = (d.accepted_exactly n).0 a in
    let e : handed_in run.left n ≡ some q = subst (λ m. handed_in run.left m ≡ some q) (sym k) (d.in_the_tables q f) in
    let (u, g, w) = from_unk run.left n q e unk read c b in
    (q, f, u, g, w)
