-- Counts have 16 bits and places 32: a line's number is no more than the text is long, a pack's place lies in its fields, and a reading keeps the limits.
-- Assumes nothing.
use Prim.Native.Nat.{ℕ, suc, ◌≤◌, ◌<◌}
use native.Mathlib.Omega.{arith}
use mathlib.Core.Path.{◌≡◌, refl, sym, subst}
use mathlib.Core.Bool.{Bool, true, false, cond}
use mathlib.Core.List.{List, [], ◌∷◌}
use lib.ListN.{length}
use Rattle.paper.specs.Refusals.{room_short}
use Rattle.paper.specs.Lists.{cut, push}
use Rattle.paper.specs.CharDef.Reading.{Answer, accepted, refused, Within, is_lf}
use Rattle.paper.specs.CharDef.Bad.{BadText, too_long, ill_formed, bad_line}
use Rattle.paper.specs.Computed.ReadText.{read_text}
use Rattle.paper.specs.Computed.ReadPack.{read_pack}
use Rattle.paper.specs.Tables.Layout.{Tables, counts_of}
use Rattle.paper.specs.Tables.Reader.{has_room, in_lent, given, Reads}
use Rattle.paper.proofs.CharDef.Accepts.{accepts}
use Rattle.paper.proofs.CharDef.Answers.{refused_text}
use Rattle.paper.proofs.Pack.Broken.{refused_exactly}
use Rattle.paper.proofs.Pack.Trip.{pack_is}
use Rattle.exported.specs.Room.{Exportable}
use Rattle.terminal.proofs.PackPlaces.{broken_near}
use Rattle.std.specs.Prelude.{Result}
use Rattle.paper.specs.declared.Counts.{Counts}
use Rattle.paper.specs.declared.Refusal.{Refusal}

-- an answer that has room
abbrev pub Small : Answer → Type 0
Small (accepted q) = Within q
Small (refused n place) = place < 0x1_0000_0000

exportable : (x : Answer) → Small x → Exportable (given x)
unfolding counts_of
exportable (accepted q) w =
    record { categories = omega arith; definitions = omega arith; ranges = omega arith; references = omega arith; bytes = omega arith }
exportable (refused n place) h = h

pub outcome_fits : (a : Answer) → Small a → (lent left : Tables) (o : Result Counts Refusal) → Reads a lent left o → Exportable o
unfolding in_lent
outcome_fits a s lent left o p = subst Exportable (sym p.answer) (exportable (in_lent lent a) (by_room (has_room lent)))
  where
    by_room : (b : Bool) → Small (cond b a (refused room_short 0))
    by_room true = s
    by_room false = omega arith

-- ---- char.def

pieces_few : (p : ℕ → Bool) (l : List ℕ) → length (cut p l) ≤ suc (length l)
pieces_few p [] = omega arith
pieces_few p (x ∷ l) = step (p x) (cut p l) (pieces_few p l)
  where
    step : (b : Bool) (ls : List (List ℕ)) → length ls ≤ suc (length l) → length (cond b ([] ∷ ls) (push x ls)) ≤ suc (suc (length l))
    step true ls h = omega arith
    step false [] h = omega arith
    step false (m ∷ ls) h = omega arith

pub text_small : (text : List ℕ) → Small (read_text text)
text_small text = go (read_text text) refl
  where
    place : (n p : ℕ) → BadText n p text → p < 0x1_0000_0000
    place n p (too_long h) = omega arith
    place n p (ill_formed short ill z) = let i = z.inside in omega arith
    place n p (bad_line short w f) = let i = f.there in let k = pieces_few is_lf text in omega arith

    go : (a : Answer) → read_text text ≡ a → Small a
    go (accepted q) e = ((accepts text q).0 e).within
    go (refused n p) e = place n p ((refused_text text n p).0 e)

-- ---- packs

pub pack_small : (pack : List ℕ) → Small (read_pack pack)
pack_small pack = go (read_pack pack) refl
  where
    go : (a : Answer) → read_pack pack ≡ a → Small a
    go (accepted q) e = (pack_is pack q e).rules.limits
    go (refused n p) e = broken_near ((refused_exactly pack n p).0 e)
