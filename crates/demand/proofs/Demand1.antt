-- Demand 1 is met. An accepted reading keeps the pack's rules, so its tables end at the sizes; builders and the writer answer by cases of the reading
-- that is handed in and of the room.
-- Assumes nothing.
use Prim.Native.Nat.{ℕ}
use mathlib.Core.Path.{◌≡◌, refl, sym, ◌∙◌}
use mathlib.Core.Bool.{Bool, true, false, cond}
use mathlib.Core.List.{List}
use mathlib.Core.Option.{Option, none, some}
use lib.Dec.{T, eqb}
use lib.ListN.{length}
use Rattle.paper.specs.Lists.{any}
use Rattle.paper.specs.Refusals.{flat_row_long, table_room_short, pack_room_short}
use Rattle.paper.specs.Rows.Build.{built, refused_by, row_room_short, row_overlong, flat_room_short, write_room_short, rows_built, flat_built, pack_written}
use Rattle.paper.specs.Rows.Build as answer
use Rattle.paper.specs.CharDef.Reading.{Reading, Answer, accepted}
use Rattle.paper.specs.Computed.HandedIn.{decoded, handed_in}
use Rattle.paper.specs.Computed.ReadPack.{read_pack}
use Rattle.paper.specs.Computed.ReadText.{read_text}
use Rattle.paper.specs.Pack.Rules.{PackRules}
use Rattle.paper.specs.Tables.Layout.{Tables}
use Rattle.paper.specs.Tables.Reader.{Reads}
use Rattle.paper.specs.declared.Counts.{Counts}
use Rattle.paper.specs.declared.Refusal.{Refusal}
use Rattle.paper.proofs.Apart.{zero_one}
use Rattle.paper.proofs.CharDef.Accepts.{accepts}
use Rattle.paper.proofs.Pack.Kept.{fits_rules}
use Rattle.paper.proofs.Pack.Trip.{pack_is}
use Rattle.room.proofs.Promise as promise
use Rattle.char_def.specs.Parse.{Parsed}
use Rattle.fill_rows.specs.Walked.{RowRoom}
use Rattle.row.specs.Built.{BuildsRows}
use Rattle.row.specs.Built as rows
use Rattle.row.proofs.Promise as row
use Rattle.fill_flat.specs.Walked.{FlatRoom}
use Rattle.flat.specs.Built.{BuildsFlat}
use Rattle.flat.specs.Built as flat-table
use Rattle.flat.proofs.Promise as flat
use Rattle.packer.specs.Write.{WritesPack, pack_of}
use Rattle.packer.specs.Write as written
use Rattle.packer.proofs.Promise as writer
use Rattle.unk.specs.Layout.{UnkTables}
use Rattle.unk.specs.Parse.{ParsesUnk}
use Rattle.unk.proofs.Promise as unk
use Rattle.demand.specs.Demand1.{Finished, UnkFinished, Built, row_numbers, flat_numbers, writer_numbers}
use Rattle.std.specs.Prelude.{Err, Result}
use Rattle.unk_enter.specs.declared.UnkCounts.{UnkCounts}
use Rattle.row.specs.declared.RowCounts.{RowCounts}

-- ---- the readers

finished : (a : Answer) → ((q : Reading) → a ≡ accepted q → PackRules q) → (lent left : Tables) (r : Result Counts Refusal) → Reads a lent left r → Finished a lent left r
finished a rules lent left r p =
    record {
      short_room = λ e. promise.short_exactly p e;
      after_refusal = λ room x e. promise.refused_leaves room p x.number x.place ((promise.refused_exactly room p x).0 e);
      past_kept = promise.past_kept p rules;
      nothing_open = λ other s q. promise.reads_one q p;
    }

pub char_def_finished : (text : List ℕ) (lent left : Tables) (r : Result Counts Refusal) → Parsed text lent left r → Finished (read_text text) lent left r
char_def_finished text = finished (read_text text) (λ q e. fits_rules text q ((accepts text q).0 e))

pub pack_finished : (pack : List ℕ) (lent left : Tables) (r : Result Counts Refusal) → Reads (read_pack pack) lent left r → Finished (read_pack pack) lent left r
pack_finished pack = finished (read_pack pack) (λ q e. (pack_is pack q e).rules)

pub unk_finished : (t : Tables) (n : Counts) (text : List ℕ) (lent left : UnkTables) (r : Result UnkCounts Refusal) → ParsesUnk t n text lent left r → UnkFinished t n text lent left r
unk_finished t n text lent left r p =
    record {
      short_room = λ e. unk.short_exactly p e;
      apart = λ room e. unk.apart_exactly p room e;
      after_refusal = λ room q h x e. unk.refusal_leaves p room q h x.number x.place ((unk.refused_exactly p room q h x).0 e);
      past_kept = unk.past_kept p;
      nothing_open = λ other s q. unk.parsed_one q p;
    }

-- ---- the builders and the writer: which numbers the paper's answer may have

abbrev Among : List ℕ → answer.Built → Type 0
Among numbers built = T true
Among numbers (refused_by k) = any (eqb k) numbers ≡ true

by_room : (numbers : List ℕ) (k : ℕ) → any (eqb k) numbers ≡ true → (b : Bool) → Among numbers (cond b (refused_by k) built)
by_room numbers k m true = m
by_room numbers k m false = tt

row_numbers_lem : (o : Option Reading) (b s l p : ℕ) → Among row_numbers (rows_built o b s l p)
unfolding rows_built
row_numbers_lem none b s l p = refl
row_numbers_lem (some q) b s l p = by_room row_numbers table_room_short refl (row_room_short q b s l p)

flat_numbers_lem : (o : Option Reading) (i p : ℕ) → Among flat_numbers (flat_built o i p)
unfolding flat_built
flat_numbers_lem none i p = refl
flat_numbers_lem (some q) i p = go (row_overlong q)
  where
    go : (b : Bool) → Among flat_numbers (cond b (refused_by flat_row_long) (cond (flat_room_short q i p) (refused_by table_room_short) built))
    go true = refl
    go false = by_room flat_numbers table_room_short refl (flat_room_short q i p)

writer_numbers_lem : (o : Option Reading) (k : ℕ) → Among writer_numbers (pack_written o k)
unfolding pack_written
writer_numbers_lem none k = refl
writer_numbers_lem (some q) k = by_room writer_numbers pack_room_short refl (write_room_short q k)

abbrev Kept : {Room : Type 0} → List ℕ → Room → Room → Refusal → Type 0
Kept numbers lent left x = (any (eqb x.number) numbers ≡ true) × (x.place ≡ 0) × (left ≡ lent)

kept : {Room : Type 0} (numbers : List ℕ) (lent left : Room) (k : ℕ) (x : Refusal) → any (eqb k) numbers ≡ true → x ≡ record { number = k; place = 0 } → left ≡ lent
    → Kept numbers lent left x
kept numbers lent left k x m e f = rw e (m, refl, f)

pub rows_finished : (t : Tables) (n : Counts) (lent left : RowRoom) (r : Result RowCounts Refusal) → BuildsRows t n lent left r
    → Built row_numbers Err (BuildsRows t n lent) lent left r
rows_finished t n lent left r p =
    record {
      after_refusal = λ x e. go x (rows.answer_to t n lent) (row_numbers_lem _ _ _ _ _) (sym e ∙ p.answer) p.memory;
      nothing_open = λ other s q. row.built_one q p;
    }
  where
    go : (x : Refusal) (a : answer.Built) → Among row_numbers a → Err x ≡ rows.given (decoded t n) a → left ≡ rows.leaves (decoded t n) a lent
        → Kept row_numbers lent left x
    go x built m e f = zero_one (cc)
    go x (refused_by k) m e f = kept row_numbers lent left k x m (cc) f

pub flat_finished : (t : Tables) (n : Counts) (lent left : FlatRoom) (r : Result ℕ Refusal) → BuildsFlat t n lent left r
    → Built flat_numbers Err (BuildsFlat t n lent) lent left r
flat_finished t n lent left r p =
    record {
      after_refusal = λ x e. go x (flat-table.answer_to (handed_in t n) lent) (flat_numbers_lem _ _ _) (sym e ∙ p.answer) p.memory;
      nothing_open = λ other s q. flat.built_one q p;
    }
  where
    go : (x : Refusal) (a : answer.Built) → Among flat_numbers a → Err x ≡ flat-table.given (decoded t n) a → left ≡ flat-table.leaves (decoded t n) a lent
        → Kept flat_numbers lent left x
    go x built m e f = zero_one (cc)
    go x (refused_by k) m e f = kept flat_numbers lent left k x m (cc) f

pub writer_finished : (t : Tables) (n : Counts) (lent left : List ℕ) (r : Result ℕ Refusal) → WritesPack t n lent left r
    → Built writer_numbers Err (WritesPack t n lent) lent left r
writer_finished t n lent left r p =
    record {
      after_refusal = λ x e. go x (pack_written (handed_in t n) (length lent)) (writer_numbers_lem _ _) (sym e ∙ p.answer) p.memory;
      nothing_open = λ other s q. writer.writes_one q p;
    }
  where
    go : (x : Refusal) (a : answer.Built) → Among writer_numbers a → Err x ≡ written.given a (pack_of (handed_in t n))
        → left ≡ written.leaves a (pack_of (handed_in t n)) lent → Kept writer_numbers lent left x
    go x built m e f = zero_one (cc)
    go x (refused_by k) m e f = kept writer_numbers lent left k x m (cc) f
