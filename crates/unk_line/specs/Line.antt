-- One line of unk.def: what the answer of its reader says, in the paper's terms.
-- Assumes nothing.
use Rattle.std.specs.Prelude.{ℕ, ◌≤◌, ◌≡◌, cond, List, ◌++◌, length, take, drop}
use Rattle.paper.specs.Lists.{cut, is, join_with}
use Rattle.paper.specs.Text.Scalar.{comma}
use Rattle.paper.specs.Numbers.Bytes.{le}
use Rattle.paper.specs.Unk.Entry.{Entry, nul, length_bytes}
use Rattle.paper.specs.Computed.ReadUnk.{UnkFound, entry, no_entry}
use Rattle.unk_line.specs.declared.UnkEntry.{UnkEntry}
use Rattle.std.specs.Prelude.{Err, Ok, Result}

-- "Details are the remaining fields joined by NUL"
abbrev pub joined_fields : List ℕ → List ℕ
joined_fields l = join_with nul (cut (is comma) l)

-- a byte of them: the part with NUL for each comma, as `Joined` of the proofs shows
abbrev pub as_joined : ℕ → ℕ
as_joined b = cond (is comma b) nul b

-- "behind a 4-byte little-endian length"
unfoldable pub stored_fields : List ℕ → List ℕ
stored_fields l = le length_bytes (length (joined_fields l)) ++ joined_fields l

-- the entry whose first field begins at `start`, in a line that ends at `end`
abbrev pub entry_at : List ℕ → ℕ → ℕ → UnkEntry → Entry
entry_at text start end e =
    record {
      category = drop start (take e.surface text);
      left = e.left;
      right = e.right;
      cost = e.cost;
      details = joined_fields (drop e.details (take end text));
    }

-- an entry's places lie in the line
pub record SaysEntry (text : List ℕ) (start end : ℕ) (found : UnkFound) (e : UnkEntry) : Type 0 where
  pub is : found ≡ entry (entry_at text start end e)
  pub from : start ≤ e.surface
  pub surface_inside : e.surface ≤ length (take end text)
  pub details_inside : e.details ≤ length (take end text)

abbrev pub SaysLine : List ℕ → ℕ → ℕ → UnkFound → Result UnkEntry ℕ → Type 0
SaysLine text start end found (Ok e) = SaysEntry text start end found e
SaysLine text start end found (Err n) = found ≡ no_entry n
