-- What the cursor's promise says in the paper's own words: a field's value and the next cursor are given exactly where the bits of that value stand
-- at the place, and otherwise 19 at the place. Nothing is left open.
-- Assumes nothing.
use Prim.Native.Nat.{ℕ, ◌+◌, ◌*◌, ◌^◌, ◌≤◌, ◌<◌}
use mathlib.Core.Path.{◌≡◌, refl, sym, ap, ap₂, ◌∙◌}
use mathlib.Core.Logic.{◌↔◌}
use mathlib.Core.Bool.{Bool, true, false, cond, ◌&&◌}
use mathlib.Core.List.{List, ◌++◌}
use lib.Dec.{leb}
use lib.ListN.{length, drop}
use borrow.Author.Tests.{le-leb, leb-true}
use Rattle.paper.specs.Refusals.{pack_ends}
use Rattle.paper.specs.Pack.Fields.{byte_width, bits, bits_of}
use Rattle.paper.specs.Computed.ReadPack.{FieldStep, gave, broke, Taken, short, take_number, taken, settle, field_or, number, free, take_bytes, bytes_field}
use Rattle.paper.specs.Tables.Lent.{patch}
use Rattle.paper.proofs.Apart.{broke_gave}
use Rattle.paper.proofs.Pack.Bits.{unpack_bits, number_taken, taken_number, taken_bytes}
use Rattle.paper.proofs.Pack.Verdict.{settle_got}
use Rattle.paper.proofs.Tables.Laws.{all_drop}
use Rattle.paper.specs.declared.Refusal.{Refusal}
use Rattle.field.specs.declared.BitCursor.{BitCursor}
use Rattle.field.specs.Cursor.{widest, last_place, rest, said, field_at, any_bytes, bytes_field_at, Runs}
use Rattle.std.specs.Prelude.{Err, Ok, Result}

-- a field that was read, by its number
module _ (p : List ℕ) (at w v to : ℕ) (t : List ℕ) (e : gave v to t ≡ field_at p at w) where
  field_number : number w free at (rest p at) ≡ gave v to t
  unfolding field_at
  field_number = go (leb 1 w && (leb w widest && leb (at + w) last_place)) e
    where
      go : (b : Bool) → gave v to t ≡ cond b (number w free at (rest p at)) (broke pack_ends at) → number w free at (rest p at) ≡ gave v to t
      go true h = sym h
      go false h = broke_gave (sym h)

  pub field_took : take_number w 0 (rest p at) ≡ taken v t
  unfolding field_or
  field_took = (settle_got 20 w at free (take_number w 0 (rest p at)) v to t field_number).0

  pub field_on : to ≡ at + w
  unfolding field_or
  field_on = let (o, k, i) = settle_got 20 w at free (take_number w 0 (rest p at)) v to t field_number in sym i

  pub field_small : v < 2 ^ w
  unfolding rest
  field_small = (taken_number w (rest p at) v t (all_drop _ at (bits_of p) (unpack_bits p)) field_took).0

-- a run that was read, by its bytes
module _ (p : List ℕ) (at n : ℕ) (bs : List ℕ) (to : ℕ) (t : List ℕ) (e : bytes_field_at p at n ≡ gave bs to t) where
  run_number : bytes_field n any_bytes at (rest p at) ≡ gave bs to t
  unfolding bytes_field_at
  run_number = go (leb 1 n && leb (at + byte_width * n) last_place) e
    where
      go : (b : Bool) → cond b (bytes_field n any_bytes at (rest p at)) (broke pack_ends at) ≡ gave bs to t → bytes_field n any_bytes at (rest p at) ≡ gave bs to t
      go true h = h
      go false h = broke_gave h

  pub run_on : to ≡ at + byte_width * n
  unfolding bytes_field
  run_on = let (o, k, i) = settle_got 20 (byte_width * n) at any_bytes (take_bytes n (rest p at)) bs to t run_number in sym i

  pub run_size : length bs ≡ n
  unfolding bytes_field rest
  run_size =
      let took = (settle_got 20 (byte_width * n) at any_bytes (take_bytes n (rest p at)) bs to t run_number).0 in
      (taken_bytes n (rest p at) bs t (all_drop _ at (bits_of p) (unpack_bits p)) took).size

-- ---- exactly

-- the w bits at a place spell v
pub record Stands (p : List ℕ) (at w v : ℕ) : Type 0 where
  pub some : 1 ≤ w
  pub narrow : w ≤ widest
  pub counted : at + w ≤ last_place
  pub small : v < 2 ^ w
  pub here : drop at (bits_of p) ≡ bits w v ++ drop (at + w) (bits_of p)

module _ (p : List ℕ) (at w : ℕ) where
  asked : (v to : ℕ) (t : List ℕ) → gave v to t ≡ field_at p at w → (1 ≤ w) × (w ≤ widest) × (at + w ≤ last_place)
  unfolding field_at
  asked v to t e = go (leb 1 w) (leb w widest) (leb (at + w) last_place) refl refl refl e
    where
      go : (a b c : Bool) → leb 1 w ≡ a → leb w widest ≡ b → leb (at + w) last_place ≡ c
          → gave v to t ≡ cond (a && (b && c)) (number w free at (rest p at)) (broke pack_ends at) → (1 ≤ w) × (w ≤ widest) × (at + w ≤ last_place)
      go true true true i j k h = (leb-true 1 w i, leb-true w widest j, leb-true (at + w) last_place k)
      go true true false i j k h = broke_gave (sym h)
      go true false c i j k h = broke_gave (sym h)
      go false b c i j k h = broke_gave (sym h)

  stands : (v to : ℕ) → gave v to (rest p to) ≡ field_at p at w → Stands p at w v × (to ≡ at + w)
  unfolding rest
  stands v to e =
      let (a, b, c) = asked v to (rest p to) e in
      let o = field_on p at w v to (rest p to) e in
      let (s, h, l) = taken_number w (rest p at) v (rest p to) (all_drop _ at (bits_of p) (unpack_bits p)) (field_took p at w v to (rest p to) e) in
      (record { some = a; narrow = b; counted = c; small = s; here = h ∙ ap (λ k. bits w v ++ drop k (bits_of p)) o }, o)

  found : (v : ℕ) → Stands p at w v → field_at p at w ≡ gave v (at + w) (rest p (at + w))
  unfolding field_at field_or settle rest
  found v s =
      rw (le-leb 1 w s.some, le-leb w widest s.narrow, le-leb (at + w) last_place s.counted)
      (ap (settle 20 w at free) (ap (take_number w 0) s.here ∙ number_taken w v (drop (at + w) (bits_of p)) s.small))

  -- a field is refused as one that is cut
  cut_so : (m k : ℕ) → field_at p at w ≡ broke m k → (m ≡ pack_ends) × (k ≡ at)
  unfolding field_at field_or settle
  cut_so m k e = go (leb 1 w && (leb w widest && leb (at + w) last_place)) e
    where
      here : (o : Taken ℕ) → settle 20 w at free o ≡ broke m k → (m ≡ pack_ends) × (k ≡ at)
      here short h = (cc, cc)
      here (taken v t) h = broke_gave (sym h)

      go : (b : Bool) → cond b (number w free at (rest p at)) (broke pack_ends at) ≡ broke m k → (m ≡ pack_ends) × (k ≡ at)
      go true h = here (take_number w 0 (rest p at)) h
      go false h = (cc, cc)

  said_one : (r s : Result (ℕ × BitCursor) Refusal) → said p r ≡ said p s → r ≡ s
  said_one (Ok (v, c)) (Ok (u, d)) e = let a : v ≡ u = cc in let b : c.at ≡ d.at = cc in ap₂ (λ x y. Ok (x, (record { at = y }))) a b
  said_one (Ok (v, c)) (Err r) e = broke_gave (sym e)
  said_one (Err r) (Ok (v, c)) e = broke_gave e
  said_one (Err r) (Err s) e =
      let a : r.number ≡ s.number = cc in
      let b : r.place ≡ s.place = cc in
      ap₂ (λ x y. Err (record { number = x; place = y })) a b

  -- NOTHING IS LEFT OPEN: two answers that the promise allows coincide
  pub one_field : (r s : Result (ℕ × BitCursor) Refusal) → said p r ≡ field_at p at w → said p s ≡ field_at p at w → r ≡ s
  one_field r s d e = said_one r s (d ∙ sym e)

  module _ (r : Result (ℕ × BitCursor) Refusal) (promised : said p r ≡ field_at p at w) where
    -- the value and the cursor behind it, exactly where the bits of that value stand at the place
    pub value_exactly : (v : ℕ) (c : BitCursor) → (r ≡ Ok (v, c)) ↔ (Stands p at w v × (c.at ≡ at + w))
    value_exactly v c = (
      λ e. stands v c.at (ap (said p) (sym e) ∙ promised),
      λ (s, o). said_one r (Ok (v, c)) (promised ∙ found v s ∙ ap (λ k. gave v k (rest p k)) (sym o)),
    )

    -- otherwise 19, at the place
    pub refused_exactly : (x : Refusal) → (r ≡ Err x) ↔ ((x.number ≡ pack_ends) × (x.place ≡ at) × ((v : ℕ) → Stands p at w v → ⊥))
    refused_exactly x = (to, from)
      where
        to : r ≡ Err x → (x.number ≡ pack_ends) × (x.place ≡ at) × ((v : ℕ) → Stands p at w v → ⊥)
        to e = by_step (field_at p at w) refl
          where
            by_step : (o : FieldStep ℕ) → field_at p at w ≡ o → (x.number ≡ pack_ends) × (x.place ≡ at) × ((v : ℕ) → Stands p at w v → ⊥)
            by_step (gave v k t) i = broke_gave (ap (said p) (sym e) ∙ promised ∙ i)
            by_step (broke m k) i =
                let (a, b) = cut_so m k i in
                let j : broke x.number x.place ≡ broke m k = ap (said p) (sym e) ∙ promised ∙ i in
                let n : x.number ≡ m = cc in
                let q : x.place ≡ k = cc in
                (n ∙ a, q ∙ b, λ v s. broke_gave (sym i ∙ found v s))

        from : (x.number ≡ pack_ends) × (x.place ≡ at) × ((v : ℕ) → Stands p at w v → ⊥) → r ≡ Err x
        from (n, q, f) = by_answer r promised
          where
            by_answer : (r : Result (ℕ × BitCursor) Refusal) → said p r ≡ field_at p at w → r ≡ Err x
            by_answer (Ok (v, c)) i = absurd (f v (stands v c.at i).0)
            by_answer (Err y) i =
                let (a, b) = cut_so y.number y.place (sym i) in
                ap₂ (λ j k. Err (record { number = j; place = k })) (a ∙ sym n) (b ∙ sym q)

-- ---- a run

-- two outcomes that the promise allows coincide, in the answer and in the room
pub one_run : (p : List ℕ) (at n to : ℕ) (room a b : List ℕ) (r s : Result BitCursor Refusal) → Runs p at n to room a r → Runs p at n to room b s → (r ≡ s) × (a ≡ b)
one_run p at n to room a b (Ok c) (Ok d) x y =
    let e : gave x.bytes c.at (rest p c.at) ≡ gave y.bytes d.at (rest p d.at) = sym x.is ∙ y.is in
    let i : c.at ≡ d.at = cc in
    let j : x.bytes ≡ y.bytes = cc in
    (ap (λ k. Ok (record { at = k })) i, x.put ∙ ap (λ l. patch to l room) j ∙ sym y.put)
one_run p at n to room a b (Ok c) (Err s) x y = broke_gave (sym y.is ∙ x.is)
one_run p at n to room a b (Err r) (Ok d) x y = broke_gave (sym x.is ∙ y.is)
one_run p at n to room a b (Err r) (Err s) x y =
    let e : broke r.number r.place ≡ broke s.number s.place = sym x.is ∙ y.is in
    let i : r.number ≡ s.number = cc in
    let j : r.place ≡ s.place = cc in
    (ap₂ (λ k l. Err (record { number = k; place = l })) i j, x.kept ∙ sym y.kept)
