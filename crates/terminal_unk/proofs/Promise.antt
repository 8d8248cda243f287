-- The entry's promise leaves nothing open, and what the other readers leave is what it asks for: the counts that they write are the counts that it reads.
-- Assumes nothing.
use Prim.Native.Nat.{ℕ, ◌+◌, ◌≤◌}
use native.Mathlib.Omega.{arith}
use mathlib.Core.Path.{◌≡◌, refl, sym, ap, ◌∙◌}
use mathlib.Core.Bool.{true, cond}
use mathlib.Core.List.{List, ◌++◌}
use mathlib.Core.Option.{some, none}
use lib.ListN.{length, take, drop}
use borrow.Author.Tests.{le-leb}
use Rattle.paper.specs.Refusals.{room_short}
use Rattle.paper.specs.CharDef.Reading.{Reading, Answer, accepted, refused}
use Rattle.paper.specs.Numbers.Bytes.{le, value, u16_size}
use Rattle.paper.specs.Pack.Rules.{PackRules}
use Rattle.paper.specs.Computed.HandedIn.{handed_in}
use Rattle.paper.specs.Tables.Layout.{Tables, counts_of}
use Rattle.paper.specs.Tables.Lent.{num, patch}
use Rattle.paper.specs.Tables.Reader.{has_room, in_lent, given, leaves, Reads}
use Rattle.paper.specs.declared.Counts.{Counts}
use Rattle.paper.proofs.Tables.Laws.{value_le, patch_length}
use Rattle.room.proofs.Promise.{handed_back}
use Rattle.unk.specs.Layout.{UnkTables}
use Rattle.exported.specs.Answer.{counts_size, count_bytes, counts_after, over_lent, Exports}
use Rattle.exported.specs.Room.{Sixteen}
use Rattle.terminal_unk.specs.Answer.{counts_in, handed_over, ExportsUnk}
use Rattle.terminal_unk.proofs.Whole.{counted}

-- ---- NOTHING IS LEFT OPEN: two outcomes that the promise allows coincide, the number, the tables and the counts

pub exported_one : {t : Tables} {counts text : List ℕ} {lent a b : UnkTables} {room c d : List ℕ} {r s : ℕ}
    → ExportsUnk t counts text lent a room c r → ExportsUnk t counts text lent b room d s → (r ≡ s) × (a ≡ b) × (c ≡ d)
exported_one p q = (p.number ∙ sym q.number, p.tables ∙ sym q.tables, p.counts_left ∙ sym q.counts_left)

-- ---- counts that were written are read back

put_in : (p l : List ℕ) → 0 + length p ≤ length l → patch 0 p l ≡ p ++ drop (0 + length p) l
unfolding patch
put_in p l h = ap (λ b. cond b (take 0 l ++ p ++ drop (0 + length p) l) l) (le-leb (0 + length p) (length l) h)

in_front : (a b c d e : ℕ) (l : List ℕ) → Sixteen (counted a b c d e) → counts_in (count_bytes (counted a b c d e) ++ l) ≡ counted a b c d e
unfolding counts_in count_bytes num
in_front a b c d e l s =
    let v : ℕ → ℕ = λ x. value (le u16_size x) in
    ap (λ x. counted x (v b) (v c) (v d) (v e)) (value_le u16_size a (omega arith))
    ∙ ap (λ x. counted a x (v c) (v d) (v e)) (value_le u16_size b (omega arith))
    ∙ ap (λ x. counted a b x (v d) (v e)) (value_le u16_size c (omega arith))
    ∙ ap (λ x. counted a b c x (v e)) (value_le u16_size d (omega arith))
    ∙ ap (counted a b c d) (value_le u16_size e (omega arith))

ten : (n : Counts) → length (count_bytes n) ≡ counts_size
unfolding count_bytes
ten n = refl

pub counts_back : (n : Counts) (l : List ℕ) → Sixteen n → counts_size ≤ length l → counts_in (patch 0 (count_bytes n) l) ≡ n
counts_back n l s h =
    ap counts_in (put_in (count_bytes n) l (let e = ten n in omega arith))
    ∙ in_front n.categories n.definitions n.ranges n.references n.bytes (drop (0 + length (count_bytes n)) l) s

-- ---- an exported reader of the five tables accepted, and its tables and counts are handed on: they hold its reading

sixteen : (q : Reading) → PackRules q → Sixteen (counts_of q)
unfolding counts_of
sixteen q k =
    let w = k.limits in
    record { categories = omega arith; definitions = omega arith; ranges = omega arith; references = omega arith; bytes = omega arith }

module _ {a : Answer} {lent left : Tables} {counts after : List ℕ} {r : ℕ} (h : counts_size ≤ length counts) (room : has_room lent ≡ true)
    (p : Exports a lent left counts after r) (q : Reading) (i : a ≡ accepted q) (k : PackRules q) where
  lent_enough : over_lent counts lent a ≡ in_lent lent a
  unfolding over_lent
  lent_enough = ap (λ b. cond b (in_lent lent a) (refused room_short 0)) (le-leb counts_size (length counts) h)

  reads : Reads a lent left (given (in_lent lent a))
  reads = record { answer = refl; memory = p.tables ∙ ap (λ x. leaves x lent) lent_enough }

  after_is : after ≡ patch 0 (count_bytes (counts_of q)) counts
  unfolding in_lent counts_after
  after_is = p.counts_left ∙ ap (λ x. counts_after (given x) counts) (lent_enough ∙ ap (λ b. cond b a (refused room_short 0)) room ∙ i)

  pub handed_on : handed_over left after ≡ some q
  unfolding handed_over
  handed_on =
      let e = ap length after_is ∙ patch_length 0 (count_bytes (counts_of q)) counts in
      ap (λ b. cond b (handed_in left (counts_in after)) none) (le-leb counts_size (length after) (omega arith))
      ∙ ap (handed_in left) (ap counts_in after_is ∙ counts_back (counts_of q) counts (sixteen q k) h)
      ∙ handed_back room reads q i k
