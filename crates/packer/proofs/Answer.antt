-- The three answers of `write_pack`, each from the tests that lead to it.
-- Assumes nothing.
use Prim.Native.Nat.{ℕ, ◌≤◌, ◌<◌}
use native.Mathlib.Omega.{arith}
use mathlib.Core.Path.{◌≡◌, refl, sym, ap, ◌∙◌}
use mathlib.Core.Bool.{Bool, true, false, cond}
use mathlib.Core.List.{List, ◌++◌}
use mathlib.Core.Option.{Option, none, some}
use lib.Dec.{T, ltb}
use lib.ListN.{length, drop}
use borrow.Author.Tests.{lt-ltb, le-ltb}
use Rattle.paper.specs.Refusals.{pack_room_short, tables_apart}
use Rattle.paper.specs.CharDef.Reading.{Reading}
use Rattle.paper.specs.Pack.Fields.{pack_bytes}
use Rattle.paper.specs.Rows.Build.{Built, built, refused_by, write_room_short, pack_written}
use Rattle.paper.specs.Tables.Layout.{Tables}
use Rattle.paper.specs.Computed.HandedIn.{decoded, holds, handed_in}
use Rattle.paper.specs.declared.Counts.{Counts}
use Rattle.paper.proofs.Lists.Facts.{T→true}
use Rattle.packer.specs.Write.{pack_of, given, leaves, WritesPack}
use Rattle.packer.specs.Length.{pack_length}
use Rattle.packer.proofs.Length.{length_is}
use Rattle.std.specs.Prelude.{Err, Ok, Result}
use Rattle.paper.specs.declared.Refusal.{Refusal}

-- what is promised, where the reading and the paper's answer are known
promised : (t : Tables) (n : Counts) (lent after : List ℕ) (r : Result ℕ Refusal) (o : Option Reading) (b : Built) → handed_in t n ≡ o
    → pack_written o (length lent) ≡ b → r ≡ given b (pack_of o) → after ≡ leaves b (pack_of o) lent → WritesPack t n lent after r
promised t n lent after r o b eo eb er em =
    let e : pack_written (handed_in t n) (length lent) ≡ b = ap (λ x. pack_written x (length lent)) eo ∙ eb in
    record { answer = er ∙ sym (rw (e, eo)); memory = em ∙ sym (rw (e, eo)) }

handed_is : (t : Tables) (n : Counts) (b : Bool) → holds t n ≡ b → handed_in t n ≡ cond b (some (decoded t n)) none
unfolding handed_in
handed_is t n b e = ap (λ x. cond x (some (decoded t n)) none) e

-- the paper's answer over a reading, by the test of the room
pub room_is : (q : Reading) (m : ℕ) (b : Bool) → ltb m (length (pack_bytes q)) ≡ b → pack_written (some q) m ≡ cond b (refused_by pack_room_short) built
unfolding pack_written write_room_short
room_is q m b e = ap (λ x. cond x (refused_by pack_room_short) built) e

-- 26
pub apart : (t : Tables) (n : Counts) (lent : List ℕ) (number : ℕ) → number ≡ tables_apart → holds t n ≡ false
    → WritesPack t n lent lent (Err (record { number = number; place = 0 }))
unfolding pack_written
apart t n lent number d e =
    promised t n lent lent _ none (refused_by tables_apart) (handed_is t n false e) refl (ap (λ k. Err (record { number = k; place = 0 })) d) refl

module _ (t : Tables) (n : Counts) (lent : List ℕ) (u : T (holds t n)) where
  handed : handed_in t n ≡ some (decoded t n)
  handed = handed_is t n true (T→true (holds t n) u)

  -- 22
  pub short : (number : ℕ) → number ≡ pack_room_short → length lent < pack_length n → WritesPack t n lent lent (Err (record { number = number; place = 0 }))
  short number d h =
      let e = length_is t n u in
      let is = room_is (decoded t n) (length lent) true (lt-ltb (length lent) (length (pack_bytes (decoded t n))) (omega arith)) in
      promised t n lent lent _ (some (decoded t n)) (refused_by pack_room_short) handed is (ap (λ k. Err (record { number = k; place = 0 })) d) refl

  pub written : (need : ℕ) (after : List ℕ) → need ≡ pack_length n → need ≤ length lent
      → after ≡ pack_bytes (decoded t n) ++ drop (length (pack_bytes (decoded t n))) lent → WritesPack t n lent after (Ok need)
  written need after en h em =
      let e = length_is t n u in
      let is = room_is (decoded t n) (length lent) false (le-ltb (length lent) (length (pack_bytes (decoded t n))) (omega arith)) in
      promised t n lent after _ (some (decoded t n)) built handed is (ap Ok (en ∙ sym e)) em
