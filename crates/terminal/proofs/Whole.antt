-- From a reader's promise to its entry's: the room of the counts is asked for first.
-- Assumes nothing.
use Prim.Native.Nat.{ℕ, ◌≤◌, ◌<◌}
use mathlib.Core.Path.{◌≡◌, sym, ap, ◌∙◌}
use mathlib.Core.Bool.{cond}
use mathlib.Core.List.{List}
use lib.ListN.{length}
use borrow.Author.Tests.{le-leb, lt-leb}
use Rattle.paper.specs.Refusals.{room_short}
use Rattle.paper.specs.CharDef.Reading.{Answer, refused}
use Rattle.paper.specs.Tables.Layout.{Tables}
use Rattle.paper.specs.Tables.Reader.{in_lent, given, clears, leaves, Reads}
use Rattle.exported.specs.Answer.{code_of, counts_size, counts_after, over_lent, Exports}
use Rattle.exported.specs.Room.{Gives}
use Rattle.std.specs.Prelude.{Result}
use Rattle.paper.specs.declared.Counts.{Counts}
use Rattle.paper.specs.declared.Refusal.{Refusal}

module _ (a : Answer) (lent left : Tables) (counts after : List ℕ) where
  pub exports : (o : Result Counts Refusal) (r : ℕ) → counts_size ≤ length counts → Reads a lent left o → Gives o counts after r → Exports a lent left counts after r
  unfolding over_lent
  exports o r h p g =
      let e : over_lent counts lent a ≡ in_lent lent a = ap (λ b. cond b (in_lent lent a) (refused room_short 0)) (le-leb counts_size (length counts) h) in
      let q : o ≡ given (over_lent counts lent a) = p.answer ∙ ap given (sym e) in
      record {
        number = g.number ∙ ap code_of q;
        tables = p.memory ∙ ap (λ x. leaves x lent) (sym e);
        counts_left = g.counts ∙ ap (λ x. counts_after x counts) q;
      }

pub short_counts : (a : Answer) (lent : Tables) (counts : List ℕ) → length counts < counts_size → Exports a lent lent counts counts room_short
unfolding over_lent leaves clears counts_after
short_counts a lent counts h =
    let e : over_lent counts lent a ≡ refused room_short 0 = ap (λ b. cond b (in_lent lent a) (refused room_short 0)) (lt-leb counts_size (length counts) h) in
    record {
      number = sym (ap (λ x. code_of (given x)) e);
      tables = sym (ap (λ x. leaves x lent) e);
      counts_left = sym (ap (λ x. counts_after (given x) counts) e);
    }
