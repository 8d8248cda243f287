-- What a writer of fields promises: fields put behind one another at a bit position, and no other byte of the lent memory changed.
-- Assumes nothing.
use Rattle.std.specs.Prelude.{ℕ, ◌+◌, ◌*◌, ◌≤◌, ◌<◌, ◌≡◌, List, ◌++◌, T, length, take, drop}
use Rattle.paper.specs.Lists.{all}
use Rattle.paper.specs.Numbers.Bytes.{is_byte}
use Rattle.paper.specs.Pack.Fields.{byte_width, Field, bits, spell, bits_of}
use Rattle.put_field.specs.declared.BitWriter.{BitWriter}

-- the bit at which a writer stands
abbrev pub place : BitWriter → ℕ
place w = byte_width * w.at + w.waiting

-- the bits that wait for their byte to be whole
abbrev pub waiting_bits : BitWriter → List ℕ
waiting_bits w = bits w.waiting w.held

-- fewer bits wait than a byte has, and there is room for n more
pub record Room (out : List ℕ) (w : BitWriter) (n : ℕ) : Type 0 where
  pub few : w.waiting < byte_width
  pub room : place w + n ≤ byte_width * length out

-- fields went from where w stands to where r stands: bytes into memory, and bits that wait
pub record Writes (before : List ℕ) (w : BitWriter) (fs : List Field) (after : List ℕ) (r : BitWriter) : Type 0 where
  pub whole : List ℕ
  pub are_bytes : T (all is_byte whole)
  pub on : r.at ≡ w.at + length whole
  pub inside : r.at ≤ length before
  -- the bits that waited and the fields are the bits of those bytes and the bits that wait now
  pub spelt : waiting_bits w ++ spell fs ≡ bits_of whole ++ waiting_bits r
  -- and nothing else is changed
  pub memory : after ≡ take w.at before ++ (whole ++ drop r.at before)

-- the same, where the fields are n bits wide
pub record Puts (before : List ℕ) (w : BitWriter) (fs : List Field) (n : ℕ) (after : List ℕ) (r : BitWriter) : Type 0 where
  pub writes : Writes before w fs after r
  pub few : r.waiting < byte_width
  pub moved : place r ≡ place w + n
  pub same_length : length after ≡ length before

-- where nothing is written
abbrev pub start : BitWriter
start = record { at = 0; waiting = 0; held = 0 }
