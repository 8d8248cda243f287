-- What the promise of `read_pack` says of a pack, in the paper's relations: accepted exactly where it is the pack of a reading that keeps the rules,
-- refused exactly by its first broken field; the tables that it leaves hold together; and nothing is left open.
-- Assumes nothing.
use Prim.Native.Nat.{ℕ, ◌≤◌}
use mathlib.Core.Path.{◌≡◌, refl, sym, ap, ◌∙◌}
use mathlib.Core.Logic.{◌↔◌}
use mathlib.Core.Bool.{true, cond}
use mathlib.Core.List.{List}
use mathlib.Core.Option.{some}
use lib.Dec.{T}
use lib.ListN.{length}
use Rattle.paper.specs.Sizes.{max_pack_bytes}
use Rattle.paper.specs.Lists.{all}
use Rattle.paper.specs.Numbers.Bytes.{is_byte}
use Rattle.paper.specs.CharDef.Reading.{Reading, accepted}
use Rattle.paper.specs.Pack.Fields.{pack_bytes}
use Rattle.paper.specs.Pack.Rules.{PackRules}
use Rattle.paper.specs.Pack.Broken.{Broken}
use Rattle.paper.specs.Computed.HandedIn.{handed_in}
use Rattle.paper.specs.Computed.ReadPack.{read_pack}
use Rattle.paper.specs.Tables.Layout.{Tables, layout, in_room, behind, counts_of}
use Rattle.paper.specs.Tables.Reader.{has_room, past, cleared, Reads}
use Rattle.paper.specs.declared.Counts.{Counts}
use Rattle.paper.specs.declared.Refusal.{Refusal}
use Rattle.paper.proofs.Pack.Trip.{write_read, read_rules, read_write, accepted_length}
use Rattle.paper.proofs.Pack.Broken as paper
use Rattle.room.proofs.Promise as room
use Rattle.pack.proofs.Answer.{refusals_clear}
use Rattle.std.specs.Prelude.{Err, Ok, Result}

-- ---- NOTHING IS LEFT OPEN: two outcomes that the promise allows coincide, in the answer and in the memory

pub pack_one : (pack : List ℕ) {lent a b : Tables} {r s : Result Counts Refusal} → Reads (read_pack pack) lent a r → Reads (read_pack pack) lent b s → (r ≡ s) × (a ≡ b)
pack_one pack p q = room.reads_one p q

-- ---- where there is room

module _ (pack : List ℕ) {lent after : Tables} {r : Result Counts Refusal} (lending : has_room lent ≡ true) (p : Reads (read_pack pack) lent after r) where
  -- accepted exactly when the pack is the one that is written from a reading which keeps the rules, with that reading's counts
  pub accepted_exactly : T (all is_byte pack) → (n : Counts) → (r ≡ Ok n) ↔ ((q : Reading) × PackRules q × (pack_bytes q ≡ pack) × (n ≡ counts_of q))
  accepted_exactly b n = (to, from)
    where
      to : r ≡ Ok n → (q : Reading) × PackRules q × (pack_bytes q ≡ pack) × (n ≡ counts_of q)
      to e = let (q, i, c) = (room.accepted_exactly lending p n).0 e in (q, read_rules pack q i, read_write pack q b i, c)

      from : (q : Reading) × PackRules q × (pack_bytes q ≡ pack) × (n ≡ counts_of q) → r ≡ Ok n
      from (q, k, w, c) = (room.accepted_exactly lending p n).1 (q, ap read_pack (sym w) ∙ write_read q k, c)

  -- refused exactly by its first broken field: 18 to 21, at the bit where the field starts
  pub refused_exactly : (x : Refusal) → (r ≡ Err x) ↔ Broken pack x.number x.place
  refused_exactly x = (
    λ e. (paper.refused_exactly pack x.number x.place).0 ((room.refused_exactly lending p x).0 e),
    λ f. (room.refused_exactly lending p x).1 ((paper.refused_exactly pack x.number x.place).1 f),
  )

  -- a written pack brings its reading's tables back, and what lay past the sizes stays
  pub written_back : (q : Reading) → PackRules q → pack_bytes q ≡ pack → (r ≡ Ok (counts_of q)) × (after ≡ behind (in_room (layout q)) (past lent))
  written_back q k w =
      let i : read_pack pack ≡ accepted q = ap read_pack (sym w) ∙ write_read q k in
      ((room.accepted_exactly lending p (counts_of q)).1 (q, i, refl), room.holds_reading lending p q i)

  -- 18 to 21 leave the room zero up to the sizes
  pub broken_clears : (n place : ℕ) → Broken pack n place → after ≡ cleared lent
  broken_clears n place f =
      let i = (paper.refused_exactly pack n place).1 f in
      room.refused_leaves lending p n place i ∙ ap (λ b. cond b (cleared lent) lent) (refusals_clear pack n place i)

  -- no pack that is accepted is longer than the paper says
  pub accepted_short : T (all is_byte pack) → (n : Counts) → r ≡ Ok n → length pack ≤ max_pack_bytes
  accepted_short b n e = let (q, i, c) = (room.accepted_exactly lending p n).0 e in accepted_length pack q b i

-- handed in, the tables and the counts of an acceptance are the reading: nobody who is handed them gives 26
pub handed_back : (pack : List ℕ) {lent after : Tables} {n : Counts} → has_room lent ≡ true → Reads (read_pack pack) lent after (Ok n)
    → (q : Reading) × PackRules q × (read_pack pack ≡ accepted q) × (handed_in after n ≡ some q)
handed_back pack {lent} {after} {n} lending p =
    let (q, i, c) = (room.accepted_exactly lending p n).0 refl in
    let k = read_rules pack q i in
    (q, k, i, ap (handed_in after) c ∙ room.handed_back lending p q i k)

-- past the sizes memory is untouched, whatever the answer
pub past_kept : (pack : List ℕ) {lent after : Tables} {r : Result Counts Refusal} → Reads (read_pack pack) lent after r → past after ≡ past lent
past_kept pack p = room.past_kept p (λ q i. read_rules pack q i)
