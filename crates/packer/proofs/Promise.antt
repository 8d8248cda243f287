-- What the promise of `write_pack` says of a reading, in the paper's relations, and that it leaves nothing open.
-- Assumes nothing.
use Prim.Native.Nat.{ℕ, ◌≤◌, ◌<◌}
use native.Mathlib.Omega.{arith}
use mathlib.Core.Path.{◌≡◌, refl, sym, ap, ◌∙◌, subst}
use mathlib.Core.Logic.{◌↔◌}
use mathlib.Core.Bool.{Bool, true, false}
use mathlib.Core.List.{List, ◌++◌}
use mathlib.Core.Option.{Option, none, some}
use lib.Dec.{T, ltb}
use lib.ListN.{length, take, drop}
use lib.Seq.{take_at, drop_at}
use borrow.Author.Tests.{lt-ltb, le-ltb, ltb-true, ltb-false}
use Rattle.paper.specs.Sizes.{max_pack_bytes}
use Rattle.paper.specs.Refusals.{pack_room_short, tables_apart}
use Rattle.paper.specs.Lists.{all}
use Rattle.paper.specs.Numbers.Bytes.{is_byte}
use Rattle.paper.specs.CharDef.Reading.{Reading, accepted}
use Rattle.paper.specs.Pack.Fields.{pack_bytes}
use Rattle.paper.specs.Rows.Build.{Built, built, refused_by, pack_written}
use Rattle.paper.specs.Tables.Layout.{Tables}
use Rattle.paper.specs.Tables.HandedIn.{HoldTogether, OfBytes}
use Rattle.paper.specs.Computed.HandedIn.{handed_in}
use Rattle.paper.specs.Computed.ReadPack.{read_pack}
use Rattle.paper.specs.declared.Counts.{Counts}
use Rattle.paper.specs.declared.Refusal.{Refusal}
use Rattle.paper.proofs.Apart.{zero_one, none_some}
use Rattle.paper.proofs.Pack.Size.{pack_length_lem}
use Rattle.paper.proofs.Pack.Trip.{write_read, read_write}
use Rattle.paper.proofs.Tables.Holds.{stands_handed, handed_one}
use Rattle.paper.proofs.Tables.Trip.{handed_back}
use Rattle.packer.specs.Write.{pack_of, given, leaves, WritesPack}
use Rattle.packer.proofs.Answer.{room_is}
use Rattle.std.specs.Prelude.{Err, Ok, Result}

-- ---- NOTHING IS LEFT OPEN: two outcomes that the promise allows coincide, in the answer and in the memory

pub writes_one : {t : Tables} {n : Counts} {lent a b : List ℕ} {r s : Result ℕ Refusal} → WritesPack t n lent a r → WritesPack t n lent b s → (r ≡ s) × (a ≡ b)
writes_one p q = (p.answer ∙ sym q.answer, p.memory ∙ sym q.memory)

-- ---- where a reading stands in the tables

-- 22 at place 0
abbrev pub room_refused : Result ℕ Refusal
room_refused = Err (record { number = pack_room_short; place = 0 })

-- 26 at place 0
abbrev pub apart_refused : Result ℕ Refusal
apart_refused = Err (record { number = tables_apart; place = 0 })

by_case : {t : Tables} {n : Counts} {lent after : List ℕ} {r : Result ℕ Refusal} → WritesPack t n lent after r → (o : Option Reading) (b : Built) → handed_in t n ≡ o
    → pack_written o (length lent) ≡ b → (r ≡ given b (pack_of o)) × (after ≡ leaves b (pack_of o) lent)
by_case {t} {n} {lent} p o b eo eb =
    let e : pack_written (handed_in t n) (length lent) ≡ b = ap (λ x. pack_written x (length lent)) eo ∙ eb in
    (p.answer ∙ rw (e, eo), p.memory ∙ rw (e, eo))

module _ {t : Tables} {n : Counts} {lent after : List ℕ} {r : Result ℕ Refusal} (p : WritesPack t n lent after r) (q : Reading) (h : HoldTogether t n q) where
  handed : handed_in t n ≡ some q
  handed = stands_handed t n q h

  -- the room is long enough: the pack's length, the pack's bytes, and what lies behind them as it was
  pub room_enough : length (pack_bytes q) ≤ length lent → (r ≡ Ok (length (pack_bytes q))) × (after ≡ pack_bytes q ++ drop (length (pack_bytes q)) lent)
  room_enough k = by_case p (some q) built handed (room_is q (length lent) false (le-ltb (length lent) (length (pack_bytes q)) k))

  -- it is not: 22, and nothing is changed
  pub room_short_lem : length lent < length (pack_bytes q) → (r ≡ room_refused) × (after ≡ lent)
  room_short_lem k = by_case p (some q) (refused_by pack_room_short) handed (room_is q (length lent) true (lt-ltb (length lent) (length (pack_bytes q)) k))

  -- "No pack exceeds 40,519 bytes": in such a room every pack is written
  pub always_written : max_pack_bytes ≤ length lent → r ≡ Ok (length (pack_bytes q))
  always_written k = let m : length (pack_bytes q) ≤ max_pack_bytes = pack_length_lem q h.rules.limits in (room_enough (omega arith)).0

-- none stands in them: 26, and nothing is changed
pub none_stands : {t : Tables} {n : Counts} {lent after : List ℕ} {r : Result ℕ Refusal} → WritesPack t n lent after r → handed_in t n ≡ none → (r ≡ apart_refused) × (after ≡ lent)
unfolding pack_written
none_stands p e = by_case p none (refused_by tables_apart) e refl

-- ---- the three answers, each given exactly when; what tables hold is bytes

-- by which the cases are told apart
abbrev mark : Result ℕ Refusal → ℕ
mark (Ok k) = 0
mark (Err x) = x.number

apart : (a b : Result ℕ Refusal) → mark a < mark b → a ≡ b → ⊥
apart a b h e = let d : mark a ≡ mark b = ap mark e in omega arith

-- a reading stands in the tables, and the room is long enough for its pack, of k bytes; or it is shorter
pub record Enough (t : Tables) (n : Counts) (lent : List ℕ) (k : ℕ) : Type 0 where
  pub reading : Reading
  pub stands : HoldTogether t n reading
  pub long : k ≡ length (pack_bytes reading)
  pub room : k ≤ length lent

pub record Short (t : Tables) (n : Counts) (lent : List ℕ) : Type 0 where
  pub reading : Reading
  pub stands : HoldTogether t n reading
  pub room : length lent < length (pack_bytes reading)

-- one of the three
pub data Answered (t : Tables) (n : Counts) (lent after : List ℕ) (r : Result ℕ Refusal) : Type 0 where
  is_written : (k : ℕ) → Enough t n lent k → r ≡ Ok k → Answered t n lent after r
  is_short : Short t n lent → r ≡ room_refused → after ≡ lent → Answered t n lent after r
  is_apart : ((q : Reading) → HoldTogether t n q → ⊥) → r ≡ apart_refused → after ≡ lent → Answered t n lent after r

module _ {t : Tables} {n : Counts} {lent after : List ℕ} {r : Result ℕ Refusal} (b : OfBytes t) (p : WritesPack t n lent after r) where
  pub answered : Answered t n lent after r
  answered = go (handed_in t n) refl
    where
      by_room : (q : Reading) → HoldTogether t n q → (x : Bool) → ltb (length lent) (length (pack_bytes q)) ≡ x → Answered t n lent after r
      by_room q h true e =
          let k = ltb-true (length lent) (length (pack_bytes q)) e in
          let a = room_short_lem p q h k in
          is_short (record { reading = q; stands = h; room = k }) a.0 a.1
      by_room q h false e =
          let k = ltb-false (length lent) (length (pack_bytes q)) e in
          is_written (length (pack_bytes q)) (record { reading = q; stands = h; long = refl; room = k }) (room_enough p q h k).0

      go : (o : Option Reading) → handed_in t n ≡ o → Answered t n lent after r
      go none e = let a = none_stands p e in is_apart (λ q h. none_some (sym e ∙ stands_handed t n q h)) a.0 a.1
      go (some q) e = by_room q (handed_back t n q b e) (ltb (length lent) (length (pack_bytes q))) refl

  -- the pack is written
  pub written_exactly : (k : ℕ) → (r ≡ Ok k) ↔ Enough t n lent k
  written_exactly k = (to answered, λ w. (room_enough p w.reading w.stands (let e = w.long in let h = w.room in omega arith)).0 ∙ ap Ok (sym w.long))
    where
      to : Answered t n lent after r → r ≡ Ok k → Enough t n lent k
      to (is_written m w e) d = let f : m ≡ k = cc in subst (Enough t n lent) f w
      to (is_short w e m) d = absurd (apart (Ok k) room_refused (omega arith) (sym d ∙ e))
      to (is_apart w e m) d = absurd (apart (Ok k) apart_refused (omega arith) (sym d ∙ e))

  -- 22
  pub short_exactly : (r ≡ room_refused) ↔ Short t n lent
  short_exactly = (to answered, λ w. (room_short_lem p w.reading w.stands w.room).0)
    where
      to : Answered t n lent after r → r ≡ room_refused → Short t n lent
      to (is_written m w e) d = absurd (apart (Ok m) room_refused (omega arith) (sym e ∙ d))
      to (is_short w e m) d = w
      to (is_apart w e m) d = absurd (apart room_refused apart_refused (omega arith) (sym d ∙ e))

  -- 26
  pub apart_exactly : (r ≡ apart_refused) ↔ ((q : Reading) → HoldTogether t n q → ⊥)
  apart_exactly = (to answered, from answered)
    where
      to : Answered t n lent after r → r ≡ apart_refused → (q : Reading) → HoldTogether t n q → ⊥
      to (is_written m w e) d = absurd (apart (Ok m) apart_refused (omega arith) (sym e ∙ d))
      to (is_short w e m) d = absurd (apart room_refused apart_refused (omega arith) (sym e ∙ d))
      to (is_apart w e m) d = w

      from : Answered t n lent after r → ((q : Reading) → HoldTogether t n q → ⊥) → r ≡ apart_refused
      from (is_written m w e) f = absurd (f w.reading w.stands)
      from (is_short w e m) f = absurd (f w.reading w.stands)
      from (is_apart w e m) f = e

  -- a refusal leaves lent memory unchanged
  pub refused_unchanged : (x : Refusal) → r ≡ Err x → after ≡ lent
  refused_unchanged x d = to answered
    where
      to : Answered t n lent after r → after ≡ lent
      to (is_written m w e) = zero_one (cc)
      to (is_short w e m) = m
      to (is_apart w e m) = m

-- ---- the pack that is written

module _ {t : Tables} {n : Counts} {lent after : List ℕ} {r : Result ℕ Refusal} (b : OfBytes t) (p : WritesPack t n lent after r) (k : ℕ) (e : r ≡ Ok k) where
  -- "No pack exceeds 40,519 bytes"
  pub never_over : k ≤ max_pack_bytes
  never_over =
      let w = (written_exactly b p k).0 e in
      let l = w.long in
      let m : length (pack_bytes w.reading) ≤ max_pack_bytes = pack_length_lem w.reading w.stands.rules.limits in
      omega arith

  long_is : (q : Reading) → HoldTogether t n q → (k ≡ length (pack_bytes q)) × (k ≤ length lent)
  long_is q h =
      let w = (written_exactly b p k).0 e in
      (w.long ∙ ap (λ x. length (pack_bytes x)) (handed_one t n w.reading q w.stands h), w.room)

  -- the pack of the reading that stands in the tables, and nothing behind it is touched
  pub pack_written_lem : (q : Reading) → HoldTogether t n q → (take k after ≡ pack_bytes q) × (drop k after ≡ drop k lent)
  pack_written_lem q h =
      let (l, f) = long_is q h in
      let m : after ≡ pack_bytes q ++ drop (length (pack_bytes q)) lent = (room_enough p q h (omega arith)).1 in
      (ap (take k) m ∙ take_at (pack_bytes q) _ k (sym l), ap (drop k) m ∙ drop_at (pack_bytes q) _ k (sym l) ∙ ap (λ i. drop i lent) (sym l))

  -- DEMAND 2: it is read back as that reading
  pub read_back : (q : Reading) → HoldTogether t n q → read_pack (take k after) ≡ accepted q
  read_back q h = ap read_pack (pack_written_lem q h).0 ∙ write_read q h.rules

  -- DEMAND 2: where the reading was read from a pack, its bytes are written again
  pub same_bytes : (q : Reading) → HoldTogether t n q → (pack : List ℕ) → T (all is_byte pack) → read_pack pack ≡ accepted q → take k after ≡ pack
  same_bytes q h pack a d = (pack_written_lem q h).0 ∙ read_write pack q a d
