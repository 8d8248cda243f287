-- What the pack writer writes the reader reads back, and what the reader accepts is what the writer writes.
-- Assumes nothing.
use Prim.Native.Nat.{ℕ, zero, suc, ◌+◌, ◌*◌, ◌%◌, ◌^◌, ◌<◌, ◌≤◌, zero-le, suc-le-suc}
use native.Mathlib.Nat.{le_trans, le_refl}
use native.Mathlib.Omega.{arith}
use mathlib.Core.Path.{◌≡◌, refl, sym, ap, ap₂, ◌∙◌, subst}
use mathlib.Core.Logic.{◌↔◌}
use mathlib.Core.Bool.{Bool, true, false, not, cond, ◌&&◌}
use mathlib.Core.List.{List, [], ◌∷◌, ◌++◌, map, append_assoc, append-nil}
use lib.Dec.{T, leb, ltb, eqb, eqb→eq, eqb_refl}
use lib.ListN.{length, length-append}
use mir.Facts.{and_yes, yes_and, leb_yes, yes_leb, ltb_yes, yes_ltb}
use borrow.Author.Tests.{eqb-true, eqb-false}
use Rattle.paper.specs.Sizes.{max_categories, max_name_bytes, max_category_lines, max_ranges, max_references, max_pack_bytes, max_u16, max_u32}
use Rattle.paper.specs.Refusals.{pack_version, pack_rule, pack_left_over}
use Rattle.paper.specs.Lists.{all, any, joined, same}
use Rattle.paper.specs.Text.Scalar.{In, WellFormed, nothing, utf8_1, utf8_2, utf8_3_E0, utf8_3_E1, utf8_3_ED, utf8_3_EE, utf8_4_F0, utf8_4_F1, utf8_4_F4}
use Rattle.paper.specs.Numbers.Bytes.{is_byte, byte_limit}
use Rattle.paper.specs.CharDef.Reading.{Definition, Range, Reading, name_bytes, references, Within, accepted}
use Rattle.paper.specs.Pack.Fields.{version, version_width, categories_width, lines_width, ranges_width, references_width, name_length_width, byte_width, flag_width, length_width, bound_width, count_width, number_width, Field, flag, field, name_fields, definition_fields, range_fields, pack_fields, bits, spell, pack_bits, in_bytes, pack_bytes, bits_of}
use Rattle.paper.specs.Pack.Rules.{numbered, has_bytes, once_after, is_bound, bounded, sized, PackRules}
use Rattle.paper.specs.Computed.ReadPack.{Taken, short, taken, take_number, take_bytes, FieldStep, gave, broke, Reader, after_step, ◌▹◌, give, settle, field_or, number, free, bytes_field, demand, is_padding, padding, many, length_rule, name_rule, read_name, read_names, read_definition, count_rule, read_range, read_ranges, up_to, read_body, read_counted, read_fields, read_all, answer, read_pack}
use Rattle.paper.specs.Computed.Rules.{formed}
use Rattle.paper.proofs.Apart.{refused_accepted, broke_gave}
use Rattle.paper.proofs.Lists.Facts.{T→true, true→T}
use Rattle.paper.proofs.Pack.Size.{bits_length, fields_length, width_map, pack_length_lem}
use Rattle.paper.proofs.Pack.Rules.{formed_is, is_formed, each_all, all_each}
use Rattle.paper.proofs.Pack.Bits.{is_bit, spell_append, spell_bits, unpack_bits, number_taken, taken_number, bytes_taken, taken_bytes, in_bytes_unpack, unpack_in_bytes, in_bytes_pad, in_bytes_bytes, unpack_length}

-- ---- a reader reads a value from its bits, whatever follows

pub record Reads {A : Type 0} (p : Reader A) (a : A) (f : List ℕ) : Type 0 where
  pub reads : (at : ℕ) (s : List ℕ) → p at (f ++ s) ≡ gave a (at + length f) s

reads_bind : {A B : Type 0} {p : Reader A} (k : A → Reader B) {a : A} {b : B} {f g : List ℕ} → Reads p a f → Reads (k a) b g → Reads (p ▹ k) b (f ++ g)
unfolding ◌▹◌
reads_bind {p} k {a} {b} {f} {g} rp rk =
    record {
      reads = λ at s.
          let e : at + length f + length g ≡ at + length (f ++ g) = omega (arith, length-append f g) in
          ap (λ l. after_step (p at l) k) (append_assoc f g s) ∙ ap (λ o. after_step o k) (rp.reads at (g ++ s))
          ∙ rk.reads (at + length f) s ∙ ap (λ m. gave b m s) e;
    }

reads_give : {A : Type 0} (a : A) → Reads (give a) a []
unfolding give
reads_give a = record { reads = λ at s. let e : at ≡ at + 0 = omega arith in ap (λ m. gave a m s) e }

-- what follows takes no bits
reads_still : {A B : Type 0} {p : Reader A} (k : A → Reader B) {a : A} {b : B} {f : List ℕ} → Reads p a f → Reads (k a) b [] → Reads (p ▹ k) b f
reads_still {p} k {a} {b} {f} rp rk = subst (Reads (p ▹ k) b) (append-nil f) (reads_bind k rp rk)

reads_last : {A B : Type 0} {p : Reader A} (h : A → B) {a : A} {f : List ℕ} → Reads p a f → Reads (p ▹ (λ x. give (h x))) (h a) f
reads_last h {a} rp = reads_still (λ x. give (h x)) rp (reads_give (h a))

reads_field : (m w : ℕ) (ok : ℕ → Bool) (n : ℕ) → n < 2 ^ w → T (ok n) → Reads (field_or m w ok) n (bits w n)
unfolding field_or
reads_field m w ok n h t =
    record {
      reads = λ at s.
          ap (settle m w at ok) (number_taken w n s h) ∙ ap (λ b. cond b (gave n (at + w) s) (broke m at)) (T→true (ok n) t)
          ∙ ap (λ k. gave n (at + k) s) (sym (bits_length w n));
    }

bytes_length : (bs : List ℕ) → length (spell (map (field byte_width) bs)) ≡ byte_width * length bs
bytes_length bs = fields_length (map (field byte_width) bs) ∙ width_map byte_width bs ∙ omega arith

reads_bytes : (ok : List ℕ → Bool) (bs : List ℕ) → T (all is_byte bs) → T (ok bs) → Reads (bytes_field (length bs) ok) bs (spell (map (field byte_width) bs))
unfolding bytes_field
reads_bytes ok bs h t =
    record {
      reads = λ at s.
          let w : ℕ = byte_width * length bs in
          ap (settle pack_rule w at ok) (bytes_taken bs s h) ∙ ap (λ b. cond b (gave bs (at + w) s) (broke pack_rule at)) (T→true (ok bs) t)
          ∙ ap (λ k. gave bs (at + k) s) (sym (bytes_length bs));
    }

reads_demand : (b : Bool) → T b → Reads (demand b) tt []
unfolding demand
reads_demand b t =
    record {
      reads = λ at s.
          let e : at ≡ at + 0 = omega arith in
          ap (λ b. cond b (gave tt at s) (broke pack_rule at)) (T→true b t) ∙ ap (λ m. gave tt m s) e;
    }

reads_many : {A : Type 0} (p : Reader A) (good : A → Bool) (w : A → List ℕ) → ((a : A) → T (good a) → Reads p a (w a))
    → (xs : List A) → T (all good xs) → Reads (many (length xs) p) xs (joined (map w xs))
unfolding many
reads_many p good w f [] t = reads_give []
reads_many p good w f (a ∷ xs) t =
    let h = and_yes (good a) (all good xs) t in
    reads_bind _ (f a h.0) (reads_last (λ l. a ∷ l) (reads_many p good w f xs h.1))

-- ---- and what it reads stands there

-- the value passes its test, and the bits are its own and those left
pub record Part (ok : Bool) (f s t : List ℕ) : Type 0 where
  pub good : T ok
  pub whole : s ≡ f ++ t
  pub left : T (all is_bit t)

pub record Then {A B : Type 0} (p : Reader A) (k : A → Reader B) (at : ℕ) (s : List ℕ) (b : B) (to : ℕ) (t : List ℕ) : Type 0 where
  pub value : A
  pub place : ℕ
  pub rest : List ℕ
  pub first : p at s ≡ gave value place rest
  pub second : k value place rest ≡ gave b to t

pub split : {A B : Type 0} (p : Reader A) (k : A → Reader B) (at : ℕ) (s : List ℕ) (b : B) (to : ℕ) (t : List ℕ) → (p ▹ k) at s ≡ gave b to t → Then p k at s b to t
unfolding ◌▹◌
split {A} {B} p k at s b to t h = go (p at s) refl h
  where
    go : (o : FieldStep A) → p at s ≡ o → after_step o k ≡ gave b to t → Then p k at s b to t
    go (broke n m) e h = broke_gave h
    go (gave a m u) e h = record { value = a; place = m; rest = u; first = e; second = h }

given : {A : Type 0} (a : A) (at : ℕ) (s : List ℕ) (b : A) (to : ℕ) (t : List ℕ) → give a at s ≡ gave b to t → (a ≡ b) × (s ≡ t)
unfolding give
given a at s b to t h = let ea : a ≡ b = cc in let es : s ≡ t = cc in (ea, es)

field_part : (m w : ℕ) (ok : ℕ → Bool) (at : ℕ) (s : List ℕ) (v to : ℕ) (t : List ℕ) → T (all is_bit s) → field_or m w ok at s ≡ gave v to t
    → (v < 2 ^ w) × Part (ok v) (bits w v) s t
unfolding field_or
field_part m w ok at s v to t b h = go (take_number w 0 s) refl h
  where
    pass : (n : ℕ) (u : List ℕ) (c : Bool) → ok n ≡ c → take_number w 0 s ≡ taken n u → cond c (gave n (at + w) u) (broke m at) ≡ gave v to t
        → (v < 2 ^ w) × Part (ok v) (bits w v) s t
    pass n u false e d h = broke_gave h
    pass n u true e d h =
        let ev : n ≡ v = cc in
        let et : u ≡ t = cc in
        let (lt, whole, left) = taken_number w s v t b (d ∙ ap₂ taken ev et) in
        (lt, record { good = true→T (ok v) (ap ok (sym ev) ∙ e); whole = whole; left = left })

    go : (o : Taken ℕ) → take_number w 0 s ≡ o → settle m w at ok o ≡ gave v to t → (v < 2 ^ w) × Part (ok v) (bits w v) s t
    go short d h = broke_gave h
    go (taken n u) d h = pass n u (ok n) refl d h

bytes_part : (n : ℕ) (ok : List ℕ → Bool) (at : ℕ) (s v : List ℕ) (to : ℕ) (t : List ℕ) → T (all is_bit s) → bytes_field n ok at s ≡ gave v to t
    → (length v ≡ n) × Part (ok v) (spell (map (field byte_width) v)) s t
unfolding bytes_field
bytes_part n ok at s v to t b h = go (take_bytes n s) refl h
  where
    pass : (x u : List ℕ) (c : Bool) → ok x ≡ c → take_bytes n s ≡ taken x u → cond c (gave x (at + byte_width * n) u) (broke pack_rule at) ≡ gave v to t
        → (length v ≡ n) × Part (ok v) (spell (map (field byte_width) v)) s t
    pass x u false e d h = broke_gave h
    pass x u true e d h =
        let ev : x ≡ v = cc in
        let et : u ≡ t = cc in
        let m = taken_bytes n s v t b (d ∙ ap₂ taken ev et) in
        (m.size, record { good = true→T (ok v) (ap ok (sym ev) ∙ e); whole = m.whole; left = m.left })

    go : (o : Taken (List ℕ)) → take_bytes n s ≡ o → settle pack_rule (byte_width * n) at ok o ≡ gave v to t → (length v ≡ n) × Part (ok v) (spell (map (field byte_width) v)) s t
    go short d h = broke_gave h
    go (taken x u) d h = pass x u (ok x) refl d h

demanded : (c : Bool) (at : ℕ) (s : List ℕ) (v : Unit {0}) (to : ℕ) (t : List ℕ) → demand c at s ≡ gave v to t → T c × (s ≡ t)
unfolding demand
demanded true at s v to t h = let e : s ≡ t = cc in (tt, e)
demanded false at s v to t h = broke_gave h

many_part : {A : Type 0} (p : Reader A) (good : A → Bool) (w : A → List ℕ)
    → ((at : ℕ) (s : List ℕ) (a : A) (to : ℕ) (t : List ℕ) → T (all is_bit s) → p at s ≡ gave a to t → Part (good a) (w a) s t)
    → (n at : ℕ) (s : List ℕ) (xs : List A) (to : ℕ) (t : List ℕ) → T (all is_bit s) → many n p at s ≡ gave xs to t
    → (length xs ≡ n) × Part (all good xs) (joined (map w xs)) s t
unfolding many
many_part p good w f zero at s xs to t b h =
    let (ea, et) = given [] at s xs to t h in
    (ap length (sym ea), subst (λ l. Part (all good l) (joined (map w l)) s t) ea (record { good = tt; whole = et; left = subst (λ l. T (all is_bit l)) et b }))
many_part p good w f (suc n) at s xs to t b h =
    let x = split p _ at s xs to t h in
    let a = f at s x.value x.place x.rest b x.first in
    let y = split (many n p) (λ l. give (x.value ∷ l)) x.place x.rest xs to t x.second in
    let (size, l) = many_part p good w f n x.place x.rest y.value y.place y.rest a.left y.first in
    let (ea, et) = given (x.value ∷ y.value) y.place y.rest xs to t y.second in (
      ap length (sym ea) ∙ ap suc size,
      subst (λ l. Part (all good l) (joined (map w l)) s t) ea
          (record {
            good = yes_and (good x.value) (all good y.value) a.good l.good;
            whole = a.whole ∙ ap (λ k. w x.value ++ k) (l.whole ∙ ap (λ k. joined (map w y.value) ++ k) et) ∙ sym (append_assoc (w x.value) (joined (map w y.value)) t);
            left = subst (λ l. T (all is_bit l)) et l.left;
          }),
    )

-- ---- spelled lists

spell_joined : {A : Type 0} (f : A → List Field) (xs : List A) → spell (joined (map f xs)) ≡ joined (map (λ x. spell (f x)) xs)
spell_joined f [] = refl
spell_joined f (x ∷ xs) = spell_append (f x) (joined (map f xs)) ∙ ap (λ l. spell (f x) ++ l) (spell_joined f xs)

spell_map : (w : ℕ) (ns : List ℕ) → spell (map (field w) ns) ≡ joined (map (bits w) ns)
spell_map w [] = refl
spell_map w (n ∷ ns) = ap (λ l. bits w n ++ l) (spell_map w ns)

-- ---- names

in_byte : {lo hi a : ℕ} → hi < byte_limit → In lo hi a → T (is_byte a)
in_byte {lo} {hi} {a} h i = let k : a < byte_limit = omega arith in yes_ltb k

three_bytes : (a b c : ℕ) (s : List ℕ) → T (is_byte a) → T (is_byte b) → T (is_byte c) → T (all is_byte s) → T (all is_byte (a ∷ b ∷ c ∷ s))
three_bytes a b c s i j k w = yes_and (is_byte a) _ i (yes_and (is_byte b) _ j (yes_and (is_byte c) _ k w))

four_bytes : (a b c d : ℕ) (s : List ℕ) → T (is_byte a) → T (is_byte b) → T (is_byte c) → T (is_byte d) → T (all is_byte s) → T (all is_byte (a ∷ b ∷ c ∷ d ∷ s))
four_bytes a b c d s i j k m w = yes_and (is_byte a) _ i (three_bytes b c d s j k m w)

formed_bytes : {s : List ℕ} → WellFormed s → T (all is_byte s)
formed_bytes nothing = tt
formed_bytes (utf8_1 {a = a} i w) = yes_and (is_byte a) _ (in_byte (omega arith) i) (formed_bytes w)
formed_bytes (utf8_2 {a = a} {b = b} i j w) = yes_and (is_byte a) _ (in_byte (omega arith) i) (yes_and (is_byte b) _ (in_byte (omega arith) j) (formed_bytes w))
formed_bytes (utf8_3_E0 {a = a} {b = b} {c = c} {s = s} i j k w) = three_bytes a b c s (in_byte (omega arith) i) (in_byte (omega arith) j) (in_byte (omega arith) k) (formed_bytes w)
formed_bytes (utf8_3_E1 {a = a} {b = b} {c = c} {s = s} i j k w) = three_bytes a b c s (in_byte (omega arith) i) (in_byte (omega arith) j) (in_byte (omega arith) k) (formed_bytes w)
formed_bytes (utf8_3_ED {a = a} {b = b} {c = c} {s = s} i j k w) = three_bytes a b c s (in_byte (omega arith) i) (in_byte (omega arith) j) (in_byte (omega arith) k) (formed_bytes w)
formed_bytes (utf8_3_EE {a = a} {b = b} {c = c} {s = s} i j k w) = three_bytes a b c s (in_byte (omega arith) i) (in_byte (omega arith) j) (in_byte (omega arith) k) (formed_bytes w)
formed_bytes (utf8_4_F0 {a = a} {b = b} {c = c} {d = d} {s = s} i j k m w) = four_bytes a b c d s (in_byte (omega arith) i) (in_byte (omega arith) j) (in_byte (omega arith) k) (in_byte (omega arith) m) (formed_bytes w)
formed_bytes (utf8_4_F1 {a = a} {b = b} {c = c} {d = d} {s = s} i j k m w) = four_bytes a b c d s (in_byte (omega arith) i) (in_byte (omega arith) j) (in_byte (omega arith) k) (in_byte (omega arith) m) (formed_bytes w)
formed_bytes (utf8_4_F4 {a = a} {b = b} {c = c} {d = d} {s = s} i j k m w) = four_bytes a b c d s (in_byte (omega arith) i) (in_byte (omega arith) j) (in_byte (omega arith) k) (in_byte (omega arith) m) (formed_bytes w)

some_long : (n : List ℕ) → T (has_bytes n) → 0 < length n
some_long [] t = absurd t
some_long (x ∷ n) t = suc-le-suc zero-le

long_some : (n : List ℕ) → 0 < length n → T (has_bytes n)
long_some [] h = absurd (omega arith)
long_some (x ∷ n) h = tt

reads_name : (used : ℕ) (before : List (List ℕ)) (n : List ℕ) → T (has_bytes n) → used + length n ≤ max_name_bytes → T (formed n) → T (not (any (same n) before))
    → Reads (read_name used before) n (spell (name_fields n))
unfolding read_name name_rule
reads_name used before n long fits good new =
    reads_bind (λ m. bytes_field m (name_rule before))
    (reads_field pack_rule name_length_width (length_rule used) (length n) (omega arith) (yes_and (ltb 0 (length n)) (leb (used + length n) max_name_bytes) (yes_ltb (some_long n long)) (yes_leb fits)))
    (reads_bytes (name_rule before) n (formed_bytes (formed_is n good)) (yes_and (formed n) (not (any (same n) before)) good new))

reads_names : (used : ℕ) (before ns : List (List ℕ)) → T (all has_bytes ns) → used + name_bytes ns ≤ max_name_bytes → T (all formed ns) → T (once_after before ns)
    → Reads (read_names (length ns) used before) ns (spell (joined (map name_fields ns)))
unfolding read_names name_bytes
reads_names used before [] long fits good new = reads_give []
reads_names used before (n ∷ ns) long fits good new =
    let l = and_yes (has_bytes n) (all has_bytes ns) long in
    let g = and_yes (formed n) (all formed ns) good in
    let w = and_yes (not (any (same n) before)) (once_after (n ∷ before) ns) new in
    subst (Reads (read_names (suc (length ns)) used before) (n ∷ ns)) (sym (spell_append (name_fields n) (joined (map name_fields ns))))
    (reads_bind _ (reads_name used before n l.0 (omega arith) g.0 w.0)
    (reads_last (λ l. n ∷ l) (reads_names (used + length n) (n ∷ before) ns l.1 (omega arith) g.1 w.1)))

record NameRead (used : ℕ) (before : List (List ℕ)) (n s t : List ℕ) : Type 0 where
  long : T (has_bytes n)
  fits : used + length n ≤ max_name_bytes
  good : T (formed n)
  new : T (not (any (same n) before))
  whole : s ≡ spell (name_fields n) ++ t
  left : T (all is_bit t)

name_read : (used : ℕ) (before : List (List ℕ)) (at : ℕ) (s n : List ℕ) (to : ℕ) (t : List ℕ) → T (all is_bit s)
    → read_name used before at s ≡ gave n to t → NameRead used before n s t
unfolding read_name name_rule
name_read used before at s n to t b h =
    let x = split (number name_length_width (length_rule used)) (λ m. bytes_field m (name_rule before)) at s n to t h in
    let m : ℕ = x.value in
    let (lt, p) = field_part pack_rule name_length_width (length_rule used) at s m x.place x.rest b x.first in
    let (size, q) = bytes_part m (name_rule before) x.place x.rest n to t p.left x.second in
    let r = and_yes (ltb 0 m) (leb (used + m) max_name_bytes) p.good in
    let pos : 0 < m = ltb_yes r.0 in
    let top : used + m ≤ max_name_bytes = leb_yes r.1 in
    let g = and_yes (formed n) (not (any (same n) before)) q.good in
    record {
      long = long_some n (omega arith);
      fits = omega arith;
      good = g.0;
      new = g.1;
      whole = p.whole ∙ ap₂ (λ k l. bits name_length_width k ++ l) (sym size) q.whole;
      left = q.left;
    }

record NamesRead (k used : ℕ) (before ns : List (List ℕ)) (s t : List ℕ) : Type 0 where
  count : length ns ≡ k
  long : T (all has_bytes ns)
  fits : used + name_bytes ns ≤ max_name_bytes
  good : T (all formed ns)
  new : T (once_after before ns)
  whole : s ≡ spell (joined (map name_fields ns)) ++ t
  left : T (all is_bit t)

names_made : (k used : ℕ) (before : List (List ℕ)) (n : List ℕ) (ns : List (List ℕ)) (s u v t : List ℕ) → NameRead used before n s u
    → NamesRead k (used + length n) (n ∷ before) ns u v → v ≡ t → NamesRead (suc k) used before (n ∷ ns) s t
unfolding name_bytes
names_made k used before n ns s u v t p q et =
    let top : used + length n + name_bytes ns ≤ max_name_bytes = q.fits in
    record {
      count = ap suc q.count;
      long = yes_and (has_bytes n) (all has_bytes ns) p.long q.long;
      fits = omega arith;
      good = yes_and (formed n) (all formed ns) p.good q.good;
      new = yes_and (not (any (same n) before)) (once_after (n ∷ before) ns) p.new q.new;
      whole = p.whole ∙ ap (λ l. spell (name_fields n) ++ l) (q.whole ∙ ap (λ l. spell (joined (map name_fields ns)) ++ l) et)
          ∙ sym (append_assoc (spell (name_fields n)) (spell (joined (map name_fields ns))) t)
          ∙ ap (λ l. l ++ t) (sym (spell_append (name_fields n) (joined (map name_fields ns))));
      left = subst (λ l. T (all is_bit l)) et q.left;
    }

names_read : (k used : ℕ) (before : List (List ℕ)) (at : ℕ) (s : List ℕ) (ns : List (List ℕ)) (to : ℕ) (t : List ℕ) → T (all is_bit s) → used ≤ max_name_bytes
    → read_names k used before at s ≡ gave ns to t → NamesRead k used before ns s t
unfolding read_names name_bytes
names_read zero used before at s ns to t b u h =
    let (en, et) = given [] at s ns to t h in
    subst (λ l. NamesRead 0 used before l s t) en
    (record { count = refl; long = tt; fits = omega arith; good = tt; new = tt; whole = et; left = subst (λ l. T (all is_bit l)) et b })
names_read (suc k) used before at s ns to t b u h =
    let x = split (read_name used before) _ at s ns to t h in
    let n : List ℕ = x.value in
    let p = name_read used before at s n x.place x.rest b x.first in
    let y = split (read_names k (used + length n) (n ∷ before)) (λ l. give (n ∷ l)) x.place x.rest ns to t x.second in
    let q = names_read k (used + length n) (n ∷ before) x.place x.rest y.value y.place y.rest p.left p.fits y.first in
    let (en, et) = given (n ∷ y.value) y.place y.rest ns to t y.second in
    subst (λ l. NamesRead (suc k) used before l s t) en (names_made k used before n y.value s x.rest y.rest t p q et)

-- ---- definitions

flag_one : (b : Bool) → eqb (flag b) 1 ≡ b
flag_one true = refl
flag_one false = refl

flag_small : (b : Bool) → flag b < 2
flag_small true = le_refl 2
flag_small false = suc-le-suc zero-le

one_flag : (v : ℕ) → v < 2 → flag (eqb v 1) ≡ v
one_flag v h = go (eqb v 1) refl
  where
    no_one : (v ≡ 1 → ⊥) → 0 ≡ v
    no_one n = omega arith

    go : (b : Bool) → eqb v 1 ≡ b → flag b ≡ v
    go true e = sym (eqb-true v 1 e)
    go false e = no_one (eqb-false v 1 e)

reads_definition : (d : Definition) → T (sized d) → Reads read_definition d (spell (definition_fields d))
unfolding read_definition
reads_definition d t =
    let i : ℕ = flag d.invoke in
    let g : ℕ = flag d.group in
    let made : Definition = record { invoke = eqb i 1; group = eqb g 1; len = d.len } in
    let same_d : made ≡ d = ap₂ (λ a b. record { invoke = a; group = b; len = d.len }) (flag_one d.invoke) (flag_one d.group) in
    subst (λ e. Reads read_definition e (spell (definition_fields d))) same_d
    (reads_bind _ (reads_field pack_rule flag_width free i (flag_small d.invoke) tt)
    (reads_bind _ (reads_field pack_rule flag_width free g (flag_small d.group) tt)
    (reads_bind _ (reads_field pack_rule length_width free d.len (ltb_yes t) tt) (reads_give made))))

definition_made : (i g l : ℕ) (s u v w t : List ℕ) → i < 2 → g < 2 → l < 2 ^ length_width → s ≡ bits flag_width i ++ u → u ≡ bits flag_width g ++ v → v ≡ bits length_width l ++ w → w ≡ t → T (all is_bit w)
    → Part (ltb l (max_u32 + 1)) (bits flag_width (flag (eqb i 1)) ++ (bits flag_width (flag (eqb g 1)) ++ (bits length_width l ++ []))) s t
definition_made i g l s u v w t il gl ll es eu ev ew b =
    record {
      good = yes_ltb ll;
      whole = es ∙ ap (λ k. bits flag_width i ++ k) (eu ∙ ap (λ k. bits flag_width g ++ k) (ev ∙ ap (λ k. bits length_width l ++ k) ew))
          ∙ ap₂ (λ a b. bits flag_width a ++ (bits flag_width b ++ (bits length_width l ++ t))) (sym (one_flag i il)) (sym (one_flag g gl));
      left = subst (λ k. T (all is_bit k)) ew b;
    }

definition_part : (at : ℕ) (s : List ℕ) (d : Definition) (to : ℕ) (t : List ℕ) → T (all is_bit s) → read_definition at s ≡ gave d to t
    → Part (sized d) (spell (definition_fields d)) s t
unfolding read_definition
definition_part at s d to t b h =
    let x = split (number flag_width free) _ at s d to t h in
    let (il, ip) = field_part pack_rule flag_width free at s x.value x.place x.rest b x.first in
    let y = split (number flag_width free) _ x.place x.rest d to t x.second in
    let (gl, gp) = field_part pack_rule flag_width free x.place x.rest y.value y.place y.rest ip.left y.first in
    let z = split (number length_width free) _ y.place y.rest d to t y.second in
    let (ll, lp) = field_part pack_rule length_width free y.place y.rest z.value z.place z.rest gp.left z.first in
    let (ed, et) = given (record { invoke = eqb x.value 1; group = eqb y.value 1; len = z.value }) z.place z.rest d to t z.second in
    subst (λ e. Part (sized e) (spell (definition_fields e)) s t) ed
    (definition_made x.value y.value z.value s x.rest y.rest z.rest t il gl ll ip.whole gp.whole lp.whole et lp.left)

-- ---- ranges

first_of_four : (a b c d : Bool) → T (a && b && c && d) → T a
first_of_four a b c d t = (and_yes a b (and_yes (a && b) c (and_yes (a && b && c) d t).0).0).0

pub bound_bits : (c : ℕ) → T (is_bound c) → c < 2 ^ bound_width
unfolding is_bound
bound_bits c t =
    let h : c ≤ max_u16 = leb_yes (first_of_four (leb c max_u16) _ _ _ t) in
    omega arith

abbrev knows : ℕ → Range → Bool
knows known g = all (λ c. ltb c known) g.categories

reads_range : (known total used : ℕ) (g : Range) → known ≤ max_categories → total ≤ max_references → used + length g.categories ≤ total → T (bounded g) → T (knows known g)
    → Reads (read_range known total used) g (spell (range_fields g))
unfolding read_range bounded
reads_range known total used g k8 t8 fits good ok =
    let b = and_yes (is_bound g.lower) (is_bound g.upper) good in
    let short : length g.categories < 2 ^ count_width = omega arith in
    reads_bind _ (reads_field pack_rule bound_width is_bound g.lower (bound_bits g.lower b.0) b.0)
    (reads_bind _ (reads_field pack_rule bound_width is_bound g.upper (bound_bits g.upper b.1) b.1)
    (reads_bind _ (reads_field pack_rule count_width (count_rule total used) (length g.categories) short (yes_leb fits))
    (reads_last (λ l. record { lower = g.lower; upper = g.upper; categories = l })
    (subst (Reads (many (length g.categories) (number number_width (λ c. ltb c known))) g.categories) (sym (spell_map number_width g.categories))
    (reads_many (number number_width (λ c. ltb c known)) (λ c. ltb c known) (bits number_width)
    (λ c t. reads_field pack_rule number_width (λ c. ltb c known) c (le_trans (ltb_yes t) k8) t) g.categories ok)))))

reads_ranges : (known total used : ℕ) (gs : List Range) → known ≤ max_categories → total ≤ max_references → used + references gs ≤ total → T (all bounded gs) → T (all (knows known) gs)
    → Reads (read_ranges (length gs) known total used) gs (spell (joined (map range_fields gs)))
unfolding read_ranges references
reads_ranges known total used [] k8 t8 fits good ok = reads_give []
reads_ranges known total used (g ∷ gs) k8 t8 fits good ok =
    let b = and_yes (bounded g) (all bounded gs) good in
    let o = and_yes (knows known g) (all (knows known) gs) ok in
    subst (Reads (read_ranges (suc (length gs)) known total used) (g ∷ gs)) (sym (spell_append (range_fields g) (joined (map range_fields gs))))
    (reads_bind _ (reads_range known total used g k8 t8 (omega arith) b.0 o.0)
    (reads_last (λ l. g ∷ l) (reads_ranges known total (used + length g.categories) gs k8 t8 (omega arith) b.1 o.1)))

record RangeRead (known total used : ℕ) (g : Range) (s t : List ℕ) : Type 0 where
  fits : used + length g.categories ≤ total
  good : T (bounded g)
  ok : T (knows known g)
  whole : s ≡ spell (range_fields g) ++ t
  left : T (all is_bit t)

range_made : (known total used l u n : ℕ) (cs s a b c d t : List ℕ) → Part (is_bound l) (bits bound_width l) s a → Part (is_bound u) (bits bound_width u) a b
    → Part (count_rule total used n) (bits count_width n) b c → length cs ≡ n → Part (all (λ c. ltb c known) cs) (joined (map (bits number_width) cs)) c d → d ≡ t
    → (g : Range) → ◌≡◌ {A = Range} (record { lower = l; upper = u; categories = cs }) g → RangeRead known total used g s t
unfolding bounded
range_made known total used l u n cs s a b c d t pl pu pn size pc ed g eg =
    let top : used + n ≤ total = leb_yes pn.good in
    subst (λ g. RangeRead known total used g s t) eg
    (record {
      fits = omega arith;
      good = yes_and (is_bound l) (is_bound u) pl.good pu.good;
      ok = pc.good;
      whole = pl.whole ∙ ap (λ k. bits bound_width l ++ k) (pu.whole ∙ ap (λ k. bits bound_width u ++ k) (pn.whole ∙ ap₂ (λ m k. bits count_width m ++ k) (sym size)
          (pc.whole ∙ ap₂ (λ m k. m ++ k) (sym (spell_map number_width cs)) ed)));
      left = subst (λ k. T (all is_bit k)) ed pc.left;
    })

range_read : (known total used at : ℕ) (s : List ℕ) (g : Range) (to : ℕ) (t : List ℕ) → T (all is_bit s)
    → read_range known total used at s ≡ gave g to t → RangeRead known total used g s t
unfolding read_range
range_read known total used at s g to t b h =
    let x = split (number bound_width is_bound) _ at s g to t h in
    let (xl, xp) = field_part pack_rule bound_width is_bound at s x.value x.place x.rest b x.first in
    let y = split (number bound_width is_bound) _ x.place x.rest g to t x.second in
    let (yl, yp) = field_part pack_rule bound_width is_bound x.place x.rest y.value y.place y.rest xp.left y.first in
    let z = split (number count_width (count_rule total used)) _ y.place y.rest g to t y.second in
    let (zl, zp) = field_part pack_rule count_width (count_rule total used) y.place y.rest z.value z.place z.rest yp.left z.first in
    let c = split (many z.value (number number_width (λ c. ltb c known))) _ z.place z.rest g to t z.second in
    let (size, cp) = many_part (number number_width (λ c. ltb c known)) (λ c. ltb c known) (bits number_width)
    (λ at s v to t b h. (field_part pack_rule number_width (λ c. ltb c known) at s v to t b h).1) z.value z.place z.rest c.value c.place c.rest zp.left c.first in
    let (eg, et) = given (record { lower = x.value; upper = y.value; categories = c.value }) c.place c.rest g to t c.second in
    range_made known total used x.value y.value z.value c.value s x.rest y.rest z.rest c.rest t xp yp zp size cp et g eg

record RangesRead (k known total used : ℕ) (gs : List Range) (s t : List ℕ) : Type 0 where
  count : length gs ≡ k
  fits : used + references gs ≤ total
  good : T (all bounded gs)
  ok : T (all (knows known) gs)
  whole : s ≡ spell (joined (map range_fields gs)) ++ t
  left : T (all is_bit t)

ranges_made : (k known total used : ℕ) (g : Range) (gs : List Range) (s u v t : List ℕ) → RangeRead known total used g s u
    → RangesRead k known total (used + length g.categories) gs u v → v ≡ t → RangesRead (suc k) known total used (g ∷ gs) s t
unfolding references
ranges_made k known total used g gs s u v t p q et =
    let top : used + length g.categories + references gs ≤ total = q.fits in
    record {
      count = ap suc q.count;
      fits = omega arith;
      good = yes_and (bounded g) (all bounded gs) p.good q.good;
      ok = yes_and (knows known g) (all (knows known) gs) p.ok q.ok;
      whole = p.whole ∙ ap (λ l. spell (range_fields g) ++ l) (q.whole ∙ ap (λ l. spell (joined (map range_fields gs)) ++ l) et)
          ∙ sym (append_assoc (spell (range_fields g)) (spell (joined (map range_fields gs))) t)
          ∙ ap (λ l. l ++ t) (sym (spell_append (range_fields g) (joined (map range_fields gs))));
      left = subst (λ l. T (all is_bit l)) et q.left;
    }

ranges_read : (k known total used at : ℕ) (s : List ℕ) (gs : List Range) (to : ℕ) (t : List ℕ) → T (all is_bit s) → used ≤ total
    → read_ranges k known total used at s ≡ gave gs to t → RangesRead k known total used gs s t
unfolding read_ranges references
ranges_read zero known total used at s gs to t b u h =
    let (eg, et) = given [] at s gs to t h in
    subst (λ l. RangesRead 0 known total used l s t) eg
    (record { count = refl; fits = omega arith; good = tt; ok = tt; whole = et; left = subst (λ l. T (all is_bit l)) et b })
ranges_read (suc k) known total used at s gs to t b u h =
    let x = split (read_range known total used) _ at s gs to t h in
    let g : Range = x.value in
    let p = range_read known total used at s g x.place x.rest b x.first in
    let y = split (read_ranges k known total (used + length g.categories)) (λ l. give (g ∷ l)) x.place x.rest gs to t x.second in
    let q = ranges_read k known total (used + length g.categories) x.place x.rest y.value y.place y.rest p.left p.fits y.first in
    let (eg, et) = given (g ∷ y.value) y.place y.rest gs to t y.second in
    subst (λ l. RangesRead (suc k) known total used l s t) eg (ranges_made k known total used g y.value s x.rest y.rest t p q et)

-- ---- the body

abbrev names_bits : Reading → List ℕ
names_bits r = spell (joined (map name_fields r.names))

abbrev definitions_bits : Reading → List ℕ
definitions_bits r = spell (joined (map definition_fields r.definitions))

abbrev ranges_bits : Reading → List ℕ
ranges_bits r = spell (joined (map range_fields r.ranges))

abbrev body_bits : Reading → List ℕ
body_bits r = names_bits r ++ (definitions_bits r ++ ranges_bits r)

reads_body : (r : Reading) → PackRules r → Reads (read_body (length r.names) (length r.definitions) (length r.ranges) (references r.ranges)) r (body_bits r)
unfolding read_body numbered
reads_body r k =
    let n : 0 + name_bytes r.names ≤ max_name_bytes = omega arith in
    let t : 0 + references r.ranges ≤ references r.ranges = omega arith in
    reads_bind _ (reads_names 0 [] r.names k.names_some n (each_all WellFormed formed is_formed r.names k.names_formed) k.names_once)
    (reads_bind _
    (subst (Reads (many (length r.definitions) read_definition) r.definitions) (sym (spell_joined definition_fields r.definitions))
    (reads_many read_definition sized (λ d. spell (definition_fields d)) reads_definition r.definitions k.lengths))
    (reads_still _
    (reads_ranges (length r.names) (references r.ranges) 0 r.ranges k.limits.categories_fit k.limits.references_fit t k.bounds k.known)
    (reads_last (λ u. r) (reads_demand (eqb (references r.ranges) (references r.ranges)) (eqb_refl (references r.ranges))))))

record BodyRead (categories lines ranges total : ℕ) (r : Reading) (s t : List ℕ) : Type 0 where
  names_are : length r.names ≡ categories
  definitions_are : length r.definitions ≡ lines
  ranges_are : length r.ranges ≡ ranges
  references_are : references r.ranges ≡ total
  rules : categories ≤ max_categories → lines ≤ max_category_lines → ranges ≤ max_ranges → total ≤ max_references → PackRules r
  whole : s ≡ body_bits r ++ t
  left : T (all is_bit t)

body_made : (categories lines ranges total : ℕ) (ns : List (List ℕ)) (ds : List Definition) (gs : List Range) (s a b c v t : List ℕ)
    → NamesRead categories 0 [] ns s a → length ds ≡ lines → Part (all sized ds) (joined (map (λ d. spell (definition_fields d)) ds)) a b
    → RangesRead ranges categories total 0 gs b c → T (eqb (references gs) total) → c ≡ v → v ≡ t
    → (r : Reading) → ◌≡◌ {A = Reading} (record { names = ns; definitions = ds; ranges = gs }) r → BodyRead categories lines ranges total r s t
unfolding numbered
body_made categories lines ranges total ns ds gs s a b c v t n size d g e ev et r er =
    let ec : c ≡ t = ev ∙ et in
    let sum_is : references gs ≡ total = eqb→eq (references gs) total e in
    let bytes : 0 + name_bytes ns ≤ max_name_bytes = n.fits in
    let en : length ns ≡ categories = n.count in
    let eg : length gs ≡ ranges = g.count in
    subst (λ r. BodyRead categories lines ranges total r s t) er
    (record {
      names_are = n.count;
      definitions_are = size;
      ranges_are = g.count;
      references_are = sum_is;
      rules = λ h₁ h₂ h₃ h₄. record {
        limits = record { categories_fit = omega arith; names_fit = omega arith; definitions_fit = omega arith; ranges_fit = omega arith; references_fit = omega arith };
        names_some = n.long;
        names_formed = all_each WellFormed formed formed_is ns n.good;
        names_once = n.new;
        lengths = d.good;
        bounds = g.good;
        known = subst (λ k. T (all (knows k) gs)) (sym en) g.ok;
      };
      whole = n.whole ∙ ap (λ l. N ++ l) (d.whole ∙ ap₂ (λ k l. k ++ l) (sym (spell_joined definition_fields ds)) (g.whole ∙ ap (λ l. G ++ l) ec))
          ∙ ap (λ l. N ++ l) (sym (append_assoc D G t)) ∙ sym (append_assoc N (D ++ G) t);
      left = subst (λ l. T (all is_bit l)) ec g.left;
    })
  where
    N : List ℕ
    N = spell (joined (map name_fields ns))

    D : List ℕ
    D = spell (joined (map definition_fields ds))

    G : List ℕ
    G = spell (joined (map range_fields gs))

body_read : (categories lines ranges total at : ℕ) (s : List ℕ) (r : Reading) (to : ℕ) (t : List ℕ) → T (all is_bit s)
    → read_body categories lines ranges total at s ≡ gave r to t → BodyRead categories lines ranges total r s t
unfolding read_body
body_read categories lines ranges total at s r to t b h =
    let x = split (read_names categories 0 []) _ at s r to t h in
    let n = names_read categories 0 [] at s x.value x.place x.rest b zero-le x.first in
    let y = split (many lines read_definition) _ x.place x.rest r to t x.second in
    let (size, d) = many_part read_definition sized (λ d. spell (definition_fields d)) definition_part lines x.place x.rest y.value y.place y.rest n.left y.first in
    let z = split (read_ranges ranges categories total 0) _ y.place y.rest r to t y.second in
    let g = ranges_read ranges categories total 0 y.place y.rest z.value z.place z.rest d.left zero-le z.first in
    let v = split (demand (eqb (references z.value) total)) _ z.place z.rest r to t z.second in
    let (e, es) = demanded (eqb (references z.value) total) z.place z.rest v.value v.place v.rest v.first in
    let (er, et) = given (record { names = x.value; definitions = y.value; ranges = z.value }) v.place v.rest r to t v.second in
    body_made categories lines ranges total x.value y.value z.value s x.rest y.rest z.rest v.rest t n size d g e es et r er

-- ---- the fields

body_bits_lem : (r : Reading) → spell (joined (map name_fields r.names) ++ (joined (map definition_fields r.definitions) ++ joined (map range_fields r.ranges))) ≡ body_bits r
body_bits_lem r =
    let ns : List Field = joined (map name_fields r.names) in
    let ds : List Field = joined (map definition_fields r.definitions) in
    let gs : List Field = joined (map range_fields r.ranges) in
    spell_append ns (ds ++ gs) ∙ ap (λ l. spell ns ++ l) (spell_append ds gs)

abbrev head_bits : ℕ → ℕ → ℕ → ℕ → List ℕ → List ℕ
head_bits n d g t l = bits version_width version ++ (bits categories_width n ++ (bits lines_width d ++ (bits ranges_width g ++ (bits references_width t ++ l))))

pack_bits_lem : (r : Reading) → pack_bits r ≡ head_bits (length r.names) (length r.definitions) (length r.ranges) (references r.ranges) (body_bits r)
unfolding pack_bits
pack_bits_lem r = ap (head_bits (length r.names) (length r.definitions) (length r.ranges) (references r.ranges)) (body_bits_lem r)

reads_fields : (r : Reading) → PackRules r → Reads read_fields r (pack_bits r)
unfolding read_fields read_counted
reads_fields r k =
    let n : ℕ = length r.names in
    let d : ℕ = length r.definitions in
    let g : ℕ = length r.ranges in
    let t : ℕ = references r.ranges in
    let w : Within r = k.limits in
    subst (Reads read_fields r) (sym (pack_bits_lem r))
    (reads_bind _ (reads_field pack_version version_width (eqb version) version (omega arith) tt)
    (reads_bind _ (reads_field pack_rule categories_width (up_to max_categories) n (omega arith) (yes_leb w.categories_fit))
    (reads_bind _ (reads_field pack_rule lines_width (up_to max_category_lines) d (omega arith) (yes_leb w.definitions_fit))
    (reads_bind _ (reads_field pack_rule ranges_width (up_to max_ranges) g (omega arith) (yes_leb w.ranges_fit))
    (reads_bind _ (reads_field pack_rule references_width (up_to max_references) t (omega arith) (yes_leb w.references_fit))
    (reads_body r k))))))

pub record FieldsRead (r : Reading) (s t : List ℕ) : Type 0 where
  pub rules : PackRules r
  pub whole : s ≡ pack_bits r ++ t

fields_made : (v n d g q : ℕ) (r : Reading) (s a b c e f t : List ℕ) → Part (eqb version v) (bits version_width v) s a → Part (up_to max_categories n) (bits categories_width n) a b → Part (up_to max_category_lines d) (bits lines_width d) b c
    → Part (up_to max_ranges g) (bits ranges_width g) c e → Part (up_to max_references q) (bits references_width q) e f → BodyRead n d g q r f t → FieldsRead r s t
fields_made v n d g q r s a b c e f t pv pn pd pg pq body =
    let ev : version ≡ v = eqb→eq version v pv.good in
    let head_is : s ≡ head_bits n d g q f =
    pv.whole ∙ ap₂ (λ k l. bits version_width k ++ l) (sym ev) (pn.whole ∙ ap (λ l. bits categories_width n ++ l) (pd.whole ∙ ap (λ l. bits lines_width d ++ l) (pg.whole ∙ ap (λ l. bits ranges_width g ++ l) pq.whole))) in
    record {
      rules = body.rules (leb_yes pn.good) (leb_yes pd.good) (leb_yes pg.good) (leb_yes pq.good);
      whole = head_is ∙ ap (head_bits n d g q) body.whole ∙ counts (body_bits r ++ t) ∙ ap (λ l. l ++ t) (sym (pack_bits_lem r));
    }
  where
    counts : (l : List ℕ) → head_bits n d g q l ≡ head_bits (length r.names) (length r.definitions) (length r.ranges) (references r.ranges) l
    counts l = rw (body.names_are, body.definitions_are, body.ranges_are, body.references_are)

pub fields_read : (at : ℕ) (s : List ℕ) (r : Reading) (to : ℕ) (t : List ℕ) → T (all is_bit s) → read_fields at s ≡ gave r to t → FieldsRead r s t
unfolding read_fields read_counted
fields_read at s r to t b h =
    let v = split (field_or pack_version version_width (eqb version)) _ at s r to t h in
    let (vl, vp) = field_part pack_version version_width (eqb version) at s v.value v.place v.rest b v.first in
    let n = split (number categories_width (up_to max_categories)) _ v.place v.rest r to t v.second in
    let (nl, np) = field_part pack_rule categories_width (up_to max_categories) v.place v.rest n.value n.place n.rest vp.left n.first in
    let d = split (number lines_width (up_to max_category_lines)) _ n.place n.rest r to t n.second in
    let (dl, dp) = field_part pack_rule lines_width (up_to max_category_lines) n.place n.rest d.value d.place d.rest np.left d.first in
    let g = split (number ranges_width (up_to max_ranges)) _ d.place d.rest r to t d.second in
    let (gl, gp) = field_part pack_rule ranges_width (up_to max_ranges) d.place d.rest g.value g.place g.rest dp.left g.first in
    let q = split (number references_width (up_to max_references)) (read_body n.value d.value g.value) g.place g.rest r to t g.second in
    let (ql, qp) = field_part pack_rule references_width (up_to max_references) g.place g.rest q.value q.place q.rest gp.left q.first in
    let y = body_read n.value d.value g.value q.value q.place q.rest r to t qp.left q.second in
    fields_made v.value n.value d.value g.value q.value r s v.rest n.rest d.rest g.rest q.rest t vp np dp gp qp y

-- ---- the pack

padding_of : (at : ℕ) (s : List ℕ) → T (is_padding s) → padding at s ≡ gave tt at []
unfolding padding
padding_of at s t = ap (λ b. cond b (gave tt at []) (broke pack_left_over at)) (T→true (is_padding s) t)

pub padding_is : (at : ℕ) (s : List ℕ) (v : Unit {0}) (to : ℕ) (t : List ℕ) → padding at s ≡ gave v to t → T (is_padding s)
unfolding padding
padding_is at s v to t h = go (is_padding s) refl h
  where
    go : (c : Bool) → is_padding s ≡ c → cond c (gave tt at []) (broke pack_left_over at) ≡ gave v to t → T (is_padding s)
    go true e h = true→T (is_padding s) e
    go false e h = broke_gave h

-- the fields of a reading, whatever stands behind them
pub fields_of : (r : Reading) (s : List ℕ) → PackRules r → read_fields 0 (pack_bits r ++ s) ≡ gave r (length (pack_bits r)) s
fields_of r s k = let e : 0 + length (pack_bits r) ≡ length (pack_bits r) = omega arith in (reads_fields r k).reads 0 s ∙ ap (λ m. gave r m s) e

all_of : (r : Reading) (pad : List ℕ) → PackRules r → T (is_padding pad) → read_all 0 (pack_bits r ++ pad) ≡ gave r (length (pack_bits r)) []
unfolding read_all ◌▹◌ give
all_of r pad k t =
    ap (λ o. after_step o (λ r. padding ▹ (λ end. give r))) (fields_of r pad k)
    ∙ ap (λ o. after_step o (λ end. give r)) (padding_of (length (pack_bits r)) pad t)

-- what is written is read back
pub write_read : (r : Reading) → PackRules r → read_pack (pack_bytes r) ≡ accepted r
unfolding read_pack pack_bytes
write_read r k =
    let (pad, w, t) = unpack_in_bytes (pack_bits r) (spell_bits (pack_fields r)) in
    ap (λ s. answer (read_all 0 s)) w ∙ ap answer (all_of r pad k t)

pub record PackIs (p : List ℕ) (r : Reading) : Type 0 where
  pub rules : PackRules r
  pub pad : List ℕ
  pub zero_bits : T (is_padding pad)
  pub whole : bits_of p ≡ pack_bits r ++ pad

all_read : (p : List ℕ) (r : Reading) (to : ℕ) (t : List ℕ) → read_all 0 (bits_of p) ≡ gave r to t → PackIs p r
unfolding read_all
all_read p r to t e =
    let x = split read_fields _ 0 (bits_of p) r to t e in
    let y = split padding _ x.place x.rest r to t x.second in
    let (er, et) = given x.value y.place y.rest r to t y.second in
    let f = fields_read 0 (bits_of p) r x.place x.rest (unpack_bits p) (x.first ∙ ap (λ v. gave v x.place x.rest) er) in
    record { rules = f.rules; pad = x.rest; zero_bits = padding_is x.place x.rest y.value y.place y.rest y.first; whole = f.whole }

pub answered : (o : FieldStep Reading) (r : Reading) → answer o ≡ accepted r → (to : ℕ) × (t : List ℕ) × (o ≡ gave r to t)
answered (broke n at) r h = refused_accepted h
answered (gave q to t) r h = let e : q ≡ r = cc in (to, t, ap (λ v. gave v to t) e)

pub pack_is : (p : List ℕ) (r : Reading) → read_pack p ≡ accepted r → PackIs p r
unfolding read_pack
pack_is p r h = let (to, t, e) = answered (read_all 0 (bits_of p)) r h in all_read p r to t e

-- what is accepted keeps the rules
pub read_rules : (p : List ℕ) (r : Reading) → read_pack p ≡ accepted r → PackRules r
read_rules p r h = (pack_is p r h).rules

-- what is accepted is what would be written
pub read_write : (p : List ℕ) (r : Reading) → T (all is_byte p) → read_pack p ≡ accepted r → pack_bytes r ≡ p
unfolding pack_bytes
read_write p r b h =
    let k = pack_is p r h in
    let even : length (pack_bits r ++ k.pad) % byte_width ≡ 0 = ap (λ l. length l % byte_width) (sym k.whole) ∙ unpack_length p in
    sym (in_bytes_pad (pack_bits r) k.pad k.zero_bits even) ∙ ap in_bytes (sym k.whole) ∙ in_bytes_unpack p b

-- so two packs with the same reading are the same bytes
pub packs_one : (p q : List ℕ) (r : Reading) → T (all is_byte p) → T (all is_byte q) → read_pack p ≡ accepted r → read_pack q ≡ accepted r → p ≡ q
packs_one p q r bp bq hp hq = sym (read_write p r bp hp) ∙ read_write q r bq hq

pub accepted_length : (p : List ℕ) (r : Reading) → T (all is_byte p) → read_pack p ≡ accepted r → length p ≤ max_pack_bytes
accepted_length p r b h = subst (λ l. length l ≤ max_pack_bytes) (read_write p r b h) (pack_length_lem r (read_rules p r h).limits)

pub write_bytes : (r : Reading) → T (all is_byte (pack_bytes r))
unfolding pack_bytes pack_bits
write_bytes r = in_bytes_bytes (pack_bits r) (spell_bits (pack_fields r))

-- the rules are what a reading needs to have a pack, no more and no less
pub has_pack : (r : Reading) → PackRules r ↔ ((p : List ℕ) × T (all is_byte p) × (read_pack p ≡ accepted r))
has_pack r = (λ k. (pack_bytes r, write_bytes r, write_read r k), λ (p, b, h). read_rules p r h)
