-- Entries have 16 bits, detail bytes and places 32: what fits a text keeps the limits, and a refused line stands behind no more than 4,096 others.
-- Assumes nothing.
use Prim.Native.Nat.{ℕ, ◌<◌}
use native.Mathlib.Omega.{arith}
use mathlib.Core.Path.{◌≡◌, refl, sym, ap, ◌∙◌, subst}
use mathlib.Core.Bool.{Bool, true, false, cond}
use mathlib.Core.List.{List}
use mathlib.Core.Option.{Option, none, some}
use lib.ListN.{length, length-map}
use Rattle.paper.specs.Refusals.{room_short}
use Rattle.paper.specs.CharDef.Reading.{Reading}
use Rattle.paper.specs.Computed.HandedIn.{handed_in}
use Rattle.paper.specs.Computed.ReadUnk.{read_unk}
use Rattle.paper.specs.Tables.Layout.{Tables}
use Rattle.paper.specs.Unk.Entry.{Unk, UnkFits, unk_of}
use Rattle.paper.specs.Unk.Bad.{UnkAnswer, accepted, refused, UnkRefused, too_long, ill_formed, bad_line}
use Rattle.paper.specs.declared.Counts.{Counts}
use Rattle.paper.proofs.Unk.Details.{details_fit}
use Rattle.paper.proofs.Unk.Refused.{unk_refused_exactly}
use Rattle.paper.proofs.Unk.Text.{unk_accepts}
use Rattle.unk.specs.Layout.{UnkTables}
use Rattle.unk.specs.Parse.{has_room, over_reading, answer_to, counts_of, given, ParsesUnk}
use Rattle.terminal_unk.specs.Room.{Countable, Exportable}
use Rattle.std.specs.Prelude.{Result}
use Rattle.paper.specs.declared.Refusal.{Refusal}
use Rattle.unk_enter.specs.declared.UnkCounts.{UnkCounts}

-- an answer that has room
abbrev Small : UnkAnswer → Type 0
Small a = Exportable (given a)

entries_are : (names : List (List ℕ)) (text : List ℕ) (u : Unk) (f : UnkFits names text u) → length u.word_entries ≡ length f.entries
unfolding unk_of
entries_are names text u f = ap (λ (x : Unk). length x.word_entries) f.says ∙ length-map f.entries (λ e. (e.left, e.right, e.cost))

fitting : (names : List (List ℕ)) (text : List ℕ) (u : Unk) → UnkFits names text u → Countable (counts_of u)
unfolding counts_of
fitting names text u f =
    let e = entries_are names text u f in
    let w = f.few in
    let d = details_fit names text u f in
    record { entries = omega arith; bytes = omega arith }

place : (text : List ℕ) (n p : ℕ) → UnkRefused text n p → p < 0x1_0000_0000
place text n p (too_long h) = omega arith
place text n p (ill_formed short ill z) = let i = z.inside in omega arith
place text n p (bad_line short w f) = let i = f.at in let k = f.few in omega arith

unk_small : (names : List (List ℕ)) (text : List ℕ) → Small (read_unk names text)
unk_small names text = go (read_unk names text) refl
  where
    go : (a : UnkAnswer) → read_unk names text ≡ a → Small a
    go (accepted u) e = fitting names text u ((unk_accepts names text u).0 e)
    go (refused n p) e = place text n p ((unk_refused_exactly names text n p).0 e)

over_small : (o : Option Reading) (text : List ℕ) → Small (over_reading o text)
over_small none text = omega arith
over_small (some q) text = unk_small q.names text

pub outcome_fits : (t : Tables) (n : Counts) (text : List ℕ) (lent left : UnkTables) (o : Result UnkCounts Refusal) → ParsesUnk t n text lent left o → Exportable o
unfolding answer_to
outcome_fits t n text lent left o p = subst Exportable (sym p.answer) (by_room (has_room lent))
  where
    by_room : (b : Bool) → Small (cond b (over_reading (handed_in t n) text) (refused room_short 0))
    by_room true = over_small (handed_in t n) text
    by_room false = omega arith
