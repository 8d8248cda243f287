-- Fields that are put one behind another: putting some and then others is putting both; a byte that is whole goes to memory.
-- Assumes nothing.
use Prim.Native.Nat.{ℕ, ◌+◌, ◌*◌, ◌-◌, ◌/◌, ◌%◌, ◌^◌, ◌≤◌, ◌<◌}
use native.Mathlib.Numerals.{add-one}
use native.Mathlib.Omega.{arith}
use mathlib.Core.Bool.{true}
use mathlib.Core.Path.{◌≡◌, refl, sym, ap, ap₂, ◌∙◌, subst}
use mathlib.Core.List.{List, [], ◌∷◌, ◌++◌, append_assoc, append-nil}
use lib.ListN.{length, take, drop, set, length-append, length-drop, take-append-drop}
use lib.Seq.{take_at, drop_at, drop-drop, set_split, length-take-le}
use mir.Facts.{yes_and, yes_ltb}
use Rattle.paper.specs.Numbers.Bytes.{is_byte}
use Rattle.paper.specs.Pack.Fields.{byte_width, Field, field, bits, spell, bits_of}
use Rattle.paper.proofs.Lists.Facts.{all_append, joined_map}
use Rattle.paper.proofs.Pack.Bits.{spell_append}
use Rattle.put_field.specs.declared.BitWriter.{BitWriter}
use Rattle.put_field.specs.Writer.{waiting_bits, Room, Writes, Puts}
use Rattle.put_field.proofs.Bits.{bits_split, bits_mod, bits_behind}

abbrev pub writer : ℕ → ℕ → ℕ → BitWriter
writer at waiting held = record { at = at; waiting = waiting; held = held }

-- ---- nothing

pub writes_nothing : (l : List ℕ) (w : BitWriter) → w.at ≤ length l → Writes l w [] l w
writes_nothing l w h =
    record {
      whole = [];
      are_bytes = tt;
      on = omega arith;
      inside = h;
      spelt = append-nil (waiting_bits w);
      memory = sym (take-append-drop w.at l);
    }

-- ---- one behind another

memory_both : (l p q : List ℕ) (i j k : ℕ) → i ≤ length l → j ≡ i + length p → k ≡ j + length q → k ≤ length l
    → take j (take i l ++ (p ++ drop j l)) ++ (q ++ drop k (take i l ++ (p ++ drop j l))) ≡ take i l ++ ((p ++ q) ++ drop k l)
memory_both l p q i j k hi ej ek hk =
    let front : length (take i l ++ p) ≡ j = length-append (take i l) p ∙ ap (λ n. n + length p) (length-take-le i l hi) ∙ sym ej in
    let whole : take i l ++ (p ++ drop j l) ≡ (take i l ++ p) ++ drop j l = sym (append_assoc (take i l) p (drop j l)) in
    let t : take j (take i l ++ (p ++ drop j l)) ≡ take i l ++ p = ap (take j) whole ∙ take_at (take i l ++ p) (drop j l) j front in
    let d : drop k (take i l ++ (p ++ drop j l)) ≡ drop k l =
    ap₂ drop ek whole ∙ sym (drop-drop (length q) j ((take i l ++ p) ++ drop j l)) ∙ ap (drop (length q)) (drop_at (take i l ++ p) (drop j l) j front)
    ∙ drop-drop (length q) j l ∙ ap (λ n. drop n l) (sym ek) in
    ap₂ (λ x y. x ++ (q ++ y)) t d
    ∙ append_assoc (take i l) p (q ++ drop k l)
    ∙ ap (λ x. take i l ++ x) (sym (append_assoc p q (drop k l)))

bits_both : (p q : List ℕ) → bits_of (p ++ q) ≡ bits_of p ++ bits_of q
bits_both p q = joined_map (bits byte_width) p q

-- memory keeps its length
pub kept_length : {a b : List ℕ} {w r : BitWriter} {fs : List Field} → Writes a w fs b r → length b ≡ length a
kept_length {a} {b} {w} {r} x =
    let on = x.on in
    let i = x.inside in
    let l1 : length (take w.at a) ≡ w.at = length-take-le w.at a (omega arith) in
    ap length x.memory
    ∙ length-append (take w.at a) (x.whole ++ drop r.at a)
    ∙ ap₂ (λ m n. m + n) l1 (length-append x.whole (drop r.at a) ∙ ap (λ n. length x.whole + n) (length-drop r.at a))
    ∙ omega arith

pub writes_both : {a b c : List ℕ} {w v r : BitWriter} {fs gs : List Field} → Writes a w fs b v → Writes b v gs c r → Writes a w (fs ++ gs) c r
writes_both {a} {b} {c} {w} {v} {r} {fs} {gs} x y =
    let e : length b ≡ length a = kept_length x in
    let ex = x.on in
    let ey = y.on in
    let ix = x.inside in
    let iy = y.inside in
    let long : length (x.whole ++ y.whole) ≡ length x.whole + length y.whole = length-append x.whole y.whole in
    record {
      whole = x.whole ++ y.whole;
      are_bytes = all_append is_byte x.whole y.whole x.are_bytes y.are_bytes;
      on = omega arith;
      inside = omega arith;
      spelt = ap (λ l. waiting_bits w ++ l) (spell_append fs gs) ∙ sym (append_assoc (waiting_bits w) (spell fs) (spell gs))
          ∙ ap (λ l. l ++ spell gs) x.spelt ∙ append_assoc (bits_of x.whole) (waiting_bits v) (spell gs)
          ∙ ap (λ l. bits_of x.whole ++ l) y.spelt ∙ sym (append_assoc (bits_of x.whole) (bits_of y.whole) (waiting_bits r))
          ∙ ap (λ l. l ++ waiting_bits r) (sym (bits_both x.whole y.whole));
      memory = y.memory ∙ ap (λ l. take v.at l ++ (y.whole ++ drop r.at l)) x.memory
          ∙ memory_both a x.whole y.whole w.at v.at r.at (omega arith) ex ey (omega arith);
    }

-- ---- a field

-- the field waits behind the bits that wait
field_waits : (l : List ℕ) (w : BitWriter) (width value : ℕ) → w.at ≤ length l
    → Writes l w (field width value ∷ []) l (writer w.at (w.waiting + width) (w.held * 2 ^ width + value % 2 ^ width))
field_waits l w width value h =
    record {
      whole = [];
      are_bytes = tt;
      on = omega arith;
      inside = h;
      spelt = ap (λ s. waiting_bits w ++ s) (append-nil (bits width value)) ∙ sym (bits_behind w.waiting width w.held value);
      memory = sym (take-append-drop w.at l);
    }

-- a byte that is whole goes to memory
byte_goes : (l : List ℕ) (at k held : ℕ) → at < length l
    → Writes l (writer at (byte_width + k) held) [] (set l at (held / 2 ^ k % 256)) (writer (at + 1) k held)
byte_goes l at k held h =
    record {
      whole = held / 2 ^ k % 256 ∷ [];
      are_bytes = yes_and (is_byte (held / 2 ^ k % 256)) true (yes_ltb (small (held / 2 ^ k))) tt;
      on = refl;
      inside = omega arith;
      spelt = append-nil (bits (byte_width + k) held) ∙ bits_split byte_width k held
          ∙ ap (λ s. s ++ bits k held) (sym (append-nil (bits byte_width (held / 2 ^ k % 256)) ∙ bits_mod byte_width byte_width (held / 2 ^ k) (omega arith)));
      memory = set_split l at (held / 2 ^ k % 256) h ∙ ap (λ n. take at l ++ held / 2 ^ k % 256 ∷ drop n l) (sym (add-one at));
    }
  where
    small : (n : ℕ) → n % 256 < 256
    small n = omega arith

-- of what waits only the low bits count
low_waits : (l : List ℕ) (at k held : ℕ) → at ≤ length l → k ≤ byte_width → Writes l (writer at k held) [] l (writer at k (held % 256))
low_waits l at k held h few =
    record {
      whole = [];
      are_bytes = tt;
      on = omega arith;
      inside = h;
      spelt = append-nil (bits k held) ∙ sym (bits_mod k byte_width held few);
      memory = sym (take-append-drop at l);
    }

-- ---- the loop of `put`, from the state with the field to the one with as few bits that wait

pub record Emits (l₀ : List ℕ) (at₀ left₀ held : ℕ) (l : List ℕ) (at left : ℕ) : Type 0 where
  pub writes : Writes l₀ (writer at₀ left₀ held) [] l (writer at left held)
  pub place : byte_width * at + left ≡ byte_width * at₀ + left₀
  pub same_length : length l ≡ length l₀

pub emits_none : (l : List ℕ) (at left held : ℕ) → at ≤ length l → Emits l at left held l at left
emits_none l at left held h = record { writes = writes_nothing l (writer at left held) h; place = refl; same_length = refl }

pub emits_more : {l₀ l : List ℕ} {at₀ left₀ held at left : ℕ} → Emits l₀ at₀ left₀ held l at left → byte_width ≤ left → at < length l
    → Emits l₀ at₀ left₀ held (set l at (held / 2 ^ (left - byte_width) % 256)) (at + 1) (left - byte_width)
emits_more {l₀} {l} {at₀} {left₀} {held} {at} {left} e h k =
    let d : byte_width + (left - byte_width) ≡ left = omega arith in
    let p = e.place in
    let s = e.same_length in
    let x : Writes l (writer at left held) [] (set l at (held / 2 ^ (left - byte_width) % 256)) (writer (at + 1) (left - byte_width) held) =
    subst (λ n. Writes l (writer at n held) [] (set l at (held / 2 ^ (left - byte_width) % 256)) (writer (at + 1) (left - byte_width) held)) d
    (byte_goes l at (left - byte_width) held k) in
    record { writes = writes_both e.writes x; place = omega arith; same_length = kept_length x ∙ s }

pub emits_all : (l₀ : List ℕ) (w : BitWriter) (width value held : ℕ) {l : List ℕ} {at left : ℕ}
    → held ≡ w.held * 2 ^ width + value % 2 ^ width
    → Emits l₀ w.at (w.waiting + width) held l at left → left < byte_width
    → Puts l₀ w (field width value ∷ []) width l (writer at left (held % 256))
emits_all l₀ w width value held {l} {at} {left} h e few =
    let x = e.writes in
    let i = x.inside in
    let o = x.on in
    let p = e.place in
    let s = e.same_length in
    let f : Writes l₀ w (field width value ∷ []) l₀ (writer w.at (w.waiting + width) held) =
    subst (λ n. Writes l₀ w (field width value ∷ []) l₀ (writer w.at (w.waiting + width) n)) (sym h) (field_waits l₀ w width value (omega arith)) in
    record {
      writes = writes_both f (writes_both x (low_waits l at left held (omega arith) (omega arith)));
      few = few;
      moved = omega arith;
      same_length = s;
    }

-- ---- fields of a known width

pub puts_nothing : (l : List ℕ) (w : BitWriter) (n : ℕ) → Room l w n → Puts l w [] 0 l w
puts_nothing l w n h = let r = h.room in record { writes = writes_nothing l w (omega arith); few = h.few; moved = omega arith; same_length = refl }

pub puts_both : {a b c : List ℕ} {w v r : BitWriter} {fs gs : List Field} {m n : ℕ} → Puts a w fs m b v → Puts b v gs n c r → Puts a w (fs ++ gs) (m + n) c r
puts_both x y =
    let p = x.moved in
    let q = y.moved in
    record { writes = writes_both x.writes y.writes; few = y.few; moved = omega arith; same_length = y.same_length ∙ x.same_length }

-- the same fields, said otherwise
pub puts_are : {a b : List ℕ} {w r : BitWriter} {fs gs : List Field} {m n : ℕ} → Puts a w fs m b r → fs ≡ gs → m ≡ n → Puts a w gs n b r
puts_are x e f = rw (e, f) at x
