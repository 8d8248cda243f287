-- Over tables that hold together the counts are within the limits, and the length that they give is that of the reading's pack.
-- Assumes nothing.
use Prim.Native.Nat.{◌+◌, ◌/◌}
use mathlib.Core.Path.{◌≡◌, ap, ◌∙◌}
use lib.Dec.{T}
use lib.ListN.{length}
use Rattle.paper.specs.CharDef.Reading.{Reading}
use Rattle.paper.specs.Pack.Fields.{byte_width, pack_bits, pack_bytes}
use Rattle.paper.specs.Tables.Layout.{Tables, counts_of}
use Rattle.paper.specs.Computed.HandedIn.{decoded, holds}
use Rattle.paper.specs.declared.Counts.{Counts}
use Rattle.paper.proofs.Pack.Size.{pack_bits_length, in_bytes_length}
use Rattle.paper.proofs.Tables.Trip.{parts, counts_are}
use Rattle.put_parts.specs.Parts.{pack_width}
use Rattle.put_parts.proofs.Handed.{Asked}
use Rattle.packer.specs.Length.{pack_length, Limited}

pub limited : (t : Tables) (n : Counts) → Asked t n → Limited n
limited t n a =
    let k = a.long.limits in
    record { categories_fit = k.0; names_fit = k.1.0; definitions_fit = k.1.1.0; ranges_fit = k.1.1.1.0; references_fit = k.1.1.1.1 }

width_is : (r : Reading) (n : Counts) → counts_of r ≡ n → length (pack_bits r) ≡ pack_width n
unfolding counts_of
width_is r n e = pack_bits_length r ∙ ap pack_width e

pub length_is : (t : Tables) (n : Counts) → T (holds t n) → length (pack_bytes (decoded t n)) ≡ pack_length n
unfolding pack_bytes
length_is t n u =
    in_bytes_length (pack_bits (decoded t n)) ∙ ap (λ k. (k + 7) / byte_width) (width_is (decoded t n) n (counts_are t n (parts t n u)))
