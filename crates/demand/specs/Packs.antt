-- DEMAND 2, its packs. "Packs go out and come back as the same tables and bytes."
-- What a slice of bytes holds are numbers below 256: `is_byte` and `OfBytes` say so of lists, and the code's types of slices.
-- Assumes nothing.
use Rattle.std.specs.Prelude.{ℕ, ◌≤◌, ◌≡◌, ◌↔◌, true, List, take, Err, Ok, Result}
use Rattle.std.proofs.Math.Option.{some}
use Rattle.paper.specs.Sizes.{max_pack_bytes}
use Rattle.paper.specs.CharDef.Reading.{Reading}
use Rattle.paper.specs.Pack.Fields.{pack_bytes}
use Rattle.paper.specs.Pack.Rules.{PackRules}
use Rattle.paper.specs.Pack.Broken.{Broken}
use Rattle.paper.specs.Tables.Layout.{Tables, counts_of, used}
use Rattle.paper.specs.Tables.Reader.{has_room, Reads}
use Rattle.paper.specs.Computed.HandedIn.{handed_in}
use Rattle.paper.specs.Computed.ReadPack.{read_pack}
use Rattle.paper.specs.declared.Counts.{Counts}
use Rattle.paper.specs.declared.Refusal.{Refusal}
use Rattle.packer.specs.Write.{WritesPack}

-- `read_pack` ran on these bytes over room of the sizes
pub record Unpacked (pack : List ℕ) : Type 0 where
  pub lent : Tables
  pub room : has_room lent ≡ true
  pub left : Tables
  pub outcome : Result Counts Refusal
  pub promised : Reads (read_pack pack) lent left outcome

-- `write_pack` ran over these tables and counts, and wrote
pub record Written (t : Tables) (n : Counts) : Type 0 where
  pub lent : List ℕ
  pub left : List ℕ
  pub bytes : ℕ
  pub promised : WritesPack t n lent left (Ok bytes)

-- the pack, without what lay behind it in the room
abbrev pub pack_in : {t : Tables} {n : Counts} → Written t n → List ℕ
pack_in w = take w.bytes w.left

-- reading: accepted exactly when the bytes are the pack of a reading that keeps the rules; refused at the first broken field
pub record ReadsPacks (pack : List ℕ) (run : Unpacked pack) : Type 0 where
  pub accepted_exactly : (n : Counts) → (run.outcome ≡ Ok n) ↔ ((q : Reading) × PackRules q × (pack_bytes q ≡ pack) × (n ≡ counts_of q))
  pub refused_exactly : (x : Refusal) → (run.outcome ≡ Err x) ↔ Broken pack x.number x.place
  -- all who are handed the tables find that reading in them, so none of them refuses by 26
  pub in_the_tables : (q : Reading) → PackRules q → pack_bytes q ≡ pack → handed_in run.left (counts_of q) ≡ some q

-- out and back: a pack that was written is accepted, with the same counts and the same tables up to them
pub record OutAndBack (t : Tables) (n : Counts) (w : Written t n) (run : Unpacked (pack_in w)) : Type 0 where
  pub accepted : run.outcome ≡ Ok n
  pub same_tables : used n run.left ≡ used n t

-- "No pack exceeds 40,519 bytes"
abbrev pub WithinLimit : {t : Tables} {n : Counts} → Written t n → Type 0
WithinLimit w = w.bytes ≤ max_pack_bytes

-- back and out: what was read is written as the same bytes
abbrev pub BackAndOut : (pack : List ℕ) (run : Unpacked pack) → Type 0
BackAndOut pack run = (n : Counts) → run.outcome ≡ Ok n → (w : Written run.left n) → pack_in w ≡ pack
