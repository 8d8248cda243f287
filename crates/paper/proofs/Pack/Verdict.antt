-- When a pack is refused, and by which number: what stands behind the first broken field does not matter.
-- Assumes nothing.
use Prim.Native.Nat.{ℕ, zero, suc, ◌+◌, ◌*◌, ◌<◌, ◌≤◌}
use native.Mathlib.Omega.{arith}
use native.Mathlib.Decide.{ℕ_discrete}
use mathlib.Core.Path.{◌≡◌, refl, sym, ap, ap₂, ◌∙◌, subst}
use mathlib.Core.Logic.{◌⊎◌, inl, inr, ◌≢◌, ◌↔◌}
use mathlib.Core.Bool.{Bool, true, false, not, cond, ◌||◌}
use mathlib.Core.List.{List, [], ◌∷◌, ◌++◌, append_assoc}
use lib.Dec.{T, ltb, eqb, eqb→eq}
use lib.ListN.{length, length-append}
use mir.Facts.{and_yes, yes_and, T_not, not_T, ltb_yes, yes_ltb}
use Rattle.paper.specs.Sizes.{max_categories, max_category_lines, max_ranges, max_references}
use Rattle.paper.specs.Refusals.{pack_version, pack_ends, pack_rule, pack_left_over}
use Rattle.paper.specs.Lists.{all}
use Rattle.paper.specs.Numbers.Bytes.{is_byte}
use Rattle.paper.specs.CharDef.Reading.{Reading, references, Answer, accepted, refused}
use Rattle.paper.specs.Pack.Fields.{version, version_width, categories_width, lines_width, ranges_width, references_width, name_length_width, byte_width, flag_width, length_width, bound_width, count_width, number_width, bits, pack_bits, bits_of}
use Rattle.paper.specs.Pack.Rules.{PackRules}
use Rattle.paper.specs.Computed.ReadPack.{Taken, short, taken, take_number, cons_taken, after_byte, take_bytes, FieldStep, gave, broke, Reader, after_step, ◌▹◌, give, settle, field_or, number, bytes_field, demand, is_padding, padding, many, length_rule, name_rule, read_name, read_names, read_definition, read_range, read_ranges, up_to, read_body, read_counted, read_fields, read_all, answer, read_pack}
use Rattle.paper.proofs.Apart.{refused_accepted, short_taken, broke_gave}
use Rattle.paper.proofs.Lists.Facts.{T→false, false→T, all_left}
use Rattle.paper.proofs.Pack.Bits.{unpack_bits, number_taken}
use Rattle.paper.proofs.Pack.Trip.{fields_read, fields_of, pack_is}

-- ---- an orderly reader

-- it moves on by the bits that it takes; where it breaks, the number is one of these and the place is in reach;
-- more bits behind change nothing, unless it broke for want of bits
pub record Orderly {A : Type 0} (S : ℕ → Bool) (p : Reader A) : Type 0 where
  pub moves : (at : ℕ) (s : List ℕ) (a : A) (to : ℕ) (t : List ℕ) → p at s ≡ gave a to t → (at ≤ to) × (to + length t ≡ at + length s)
  pub breaks : (at : ℕ) (s : List ℕ) (n m : ℕ) → p at s ≡ broke n m → T (S n) × (at ≤ m) × (m ≤ at + length s)
  pub goes : (at : ℕ) (s : List ℕ) (a : A) (to : ℕ) (t : List ℕ) → p at s ≡ gave a to t → (u : List ℕ) → p at (s ++ u) ≡ gave a to (t ++ u)
  pub stops : (at : ℕ) (s : List ℕ) (n m : ℕ) → p at s ≡ broke n m → n ≢ pack_ends → (u : List ℕ) → p at (s ++ u) ≡ broke n m

pub broke_same : {A : Type 0} (i j n m : ℕ) → ◌≡◌ {A = FieldStep A} (broke i j) (broke n m) → (i ≡ n) × (j ≡ m)
broke_same i j n m h = let e : i ≡ n = cc in let d : j ≡ m = cc in (e, d)

orderly_bind : {A B : Type 0} (S : ℕ → Bool) (p : Reader A) (k : A → Reader B) → Orderly S p → ((a : A) → Orderly S (k a)) → Orderly S (p ▹ k)
unfolding ◌▹◌
orderly_bind {A} {B} S p k o f =
    record {
      moves = λ at s b to t h. moves at s b to t (p at s) refl h;
      breaks = λ at s n m h. breaks at s n m (p at s) refl h;
      goes = λ at s b to t h u. goes at s b to t u (p at s) refl h;
      stops = λ at s n m h d u. stops at s n m d u (p at s) refl h;
    }
  where
    moves : (at : ℕ) (s : List ℕ) (b : B) (to : ℕ) (t : List ℕ) (g : FieldStep A) → p at s ≡ g → after_step g k ≡ gave b to t → (at ≤ to) × (to + length t ≡ at + length s)
    moves at s b to t (broke n m) e h = broke_gave h
    moves at s b to t (gave a m v) e h =
        let (i, x) = o.moves at s a m v e in
        let (j, y) = (f a).moves m v b to t h in
        (omega arith, omega arith)

    breaks : (at : ℕ) (s : List ℕ) (n m : ℕ) (g : FieldStep A) → p at s ≡ g → after_step g k ≡ broke n m → T (S n) × (at ≤ m) × (m ≤ at + length s)
    breaks at s n m (broke i j) e h = let (ei, ej) = broke_same i j n m h in o.breaks at s n m (e ∙ ap₂ broke ei ej)
    breaks at s n m (gave a j v) e h =
        let (i, x) = o.moves at s a j v e in
        let (t, y, z) = (f a).breaks j v n m h in
        (t, omega arith, omega arith)

    goes : (at : ℕ) (s : List ℕ) (b : B) (to : ℕ) (t u : List ℕ) (g : FieldStep A) → p at s ≡ g → after_step g k ≡ gave b to t → after_step (p at (s ++ u)) k ≡ gave b to (t ++ u)
    goes at s b to t u (broke n m) e h = broke_gave h
    goes at s b to t u (gave a m v) e h = ap (λ g. after_step g k) (o.goes at s a m v e u) ∙ (f a).goes m v b to t h u

    stops : (at : ℕ) (s : List ℕ) (n m : ℕ) → n ≢ pack_ends → (u : List ℕ) (g : FieldStep A) → p at s ≡ g → after_step g k ≡ broke n m → after_step (p at (s ++ u)) k ≡ broke n m
    stops at s n m d u (broke i j) e h = let (ei, ej) = broke_same i j n m h in ap (λ g. after_step g k) (o.stops at s n m (e ∙ ap₂ broke ei ej) d u)
    stops at s n m d u (gave a j v) e h = ap (λ g. after_step g k) (o.goes at s a j v e u) ∙ (f a).stops j v n m h d u

orderly_give : {A : Type 0} (S : ℕ → Bool) (a : A) → Orderly S (give a)
unfolding give
orderly_give {A} S a =
    record {
      moves = moves;
      breaks = λ at s n m h. broke_gave (sym h);
      goes = λ at s b to t h u. let ea : a ≡ b = cc in let em : at ≡ to = cc in let et : s ≡ t = cc in cc;
      stops = λ at s n m h d u. broke_gave (sym h);
    }
  where
    moves : (at : ℕ) (s : List ℕ) (b : A) (to : ℕ) (t : List ℕ) → gave a at s ≡ gave b to t → (at ≤ to) × (to + length t ≡ at + length s)
    moves at s b to t h =
        let em : at ≡ to = cc in
        let et : s ≡ t = cc in
        let el : length s ≡ length t = ap length et in
        (omega arith, omega arith)

-- ---- fields

pub settle_got : {A : Type 0} (n w at : ℕ) (ok : A → Bool) (o : Taken A) (a : A) (to : ℕ) (t : List ℕ) → settle n w at ok o ≡ gave a to t
    → (o ≡ taken a t) × (ok a ≡ true) × (at + w ≡ to)
unfolding settle
settle_got n w at ok short a to t h = broke_gave h
settle_got n w at ok (taken x v) a to t h = go (ok x) refl h
  where
    go : (c : Bool) → ok x ≡ c → cond c (gave x (at + w) v) (broke n at) ≡ gave a to t → (taken x v ≡ taken a t) × (ok a ≡ true) × (at + w ≡ to)
    go true e h =
        let ea : x ≡ a = cc in
        let et : v ≡ t = cc in
        let em : at + w ≡ to = cc in
        (ap₂ taken ea et, ap ok (sym ea) ∙ e, em)
    go false e h = broke_gave h

-- too short, or the test fails
pub settle_broke : {A : Type 0} (n w at : ℕ) (ok : A → Bool) (o : Taken A) (k m : ℕ) → settle n w at ok o ≡ broke k m
    → (at ≡ m) × (((o ≡ short) × (pack_ends ≡ k)) ⊎ ((a : A) × (t : List ℕ) × (o ≡ taken a t) × (ok a ≡ false) × (n ≡ k)))
unfolding settle
settle_broke n w at ok short k m h = let ek : pack_ends ≡ k = cc in let em : at ≡ m = cc in (em, inl (refl, ek))
settle_broke {A} n w at ok (taken x v) k m h = go (ok x) refl h
  where
    go : (c : Bool) → ok x ≡ c → cond c (gave x (at + w) v) (broke n at) ≡ broke k m
        → (at ≡ m) × (((taken x v ≡ short) × (pack_ends ≡ k)) ⊎ ((a : A) × (t : List ℕ) × (taken x v ≡ taken a t) × (ok a ≡ false) × (n ≡ k)))
    go true e h = broke_gave (sym h)
    go false e h = let ek : n ≡ k = cc in let em : at ≡ m = cc in (em, inr (x, v, refl, e, ek))

module _ {A : Type 0} (S : ℕ → Bool) (n w : ℕ) (ok : A → Bool) (take : List ℕ → Taken A)
    (size : (s : List ℕ) (a : A) (t : List ℕ) → take s ≡ taken a t → length s ≡ w + length t)
    (more : (s : List ℕ) (a : A) (t : List ℕ) → take s ≡ taken a t → (u : List ℕ) → take (s ++ u) ≡ taken a (t ++ u))
    (own : T (S n)) (ends : T (S pack_ends)) where
  orderly_settle : Orderly S (λ at s. settle n w at ok (take s))
  unfolding settle
  orderly_settle = record { moves = moves; breaks = breaks; goes = goes; stops = stops }
    where
      moves : (at : ℕ) (s : List ℕ) (a : A) (to : ℕ) (t : List ℕ) → settle n w at ok (take s) ≡ gave a to t → (at ≤ to) × (to + length t ≡ at + length s)
      moves at s a to t h =
          let (o, c, e) = settle_got n w at ok (take s) a to t h in
          let l = size s a t o in
          (omega arith, omega arith)

      breaks : (at : ℕ) (s : List ℕ) (k m : ℕ) → settle n w at ok (take s) ≡ broke k m → T (S k) × (at ≤ m) × (m ≤ at + length s)
      breaks at s k m h =
          let (e, o) = settle_broke n w at ok (take s) k m h in
          (which o, omega arith, omega arith)
        where
          which : ((take s ≡ short) × (pack_ends ≡ k)) ⊎ ((a : A) × (t : List ℕ) × (take s ≡ taken a t) × (ok a ≡ false) × (n ≡ k)) → T (S k)
          which (inl (z, e)) = subst (λ k. T (S k)) e ends
          which (inr (a, t, o, c, e)) = subst (λ k. T (S k)) e own

      goes : (at : ℕ) (s : List ℕ) (a : A) (to : ℕ) (t : List ℕ) → settle n w at ok (take s) ≡ gave a to t → (u : List ℕ) → settle n w at ok (take (s ++ u)) ≡ gave a to (t ++ u)
      goes at s a to t h u =
          let (o, c, e) = settle_got n w at ok (take s) a to t h in
          ap (settle n w at ok) (more s a t o u) ∙ ap (λ b. cond b (gave a (at + w) (t ++ u)) (broke n at)) c ∙ ap (λ m. gave a m (t ++ u)) e

      stops : (at : ℕ) (s : List ℕ) (k m : ℕ) → settle n w at ok (take s) ≡ broke k m → k ≢ pack_ends → (u : List ℕ) → settle n w at ok (take (s ++ u)) ≡ broke k m
      stops at s k m h d u = let (e, o) = settle_broke n w at ok (take s) k m h in which e o
        where
          which : at ≡ m → ((take s ≡ short) × (pack_ends ≡ k)) ⊎ ((a : A) × (t : List ℕ) × (take s ≡ taken a t) × (ok a ≡ false) × (n ≡ k)) → settle n w at ok (take (s ++ u)) ≡ broke k m
          which em (inl (z, e)) = absurd (d (sym e))
          which em (inr (a, t, o, c, e)) =
              ap (settle n w at ok) (more s a t o u) ∙ ap (λ b. cond b (gave a (at + w) (t ++ u)) (broke n at)) c ∙ ap₂ broke e em

pub number_size : (w high : ℕ) (s : List ℕ) (v : ℕ) (t : List ℕ) → take_number w high s ≡ taken v t → length s ≡ w + length t
number_size zero high s v t h = let e : s ≡ t = cc in let l : length s ≡ length t = ap length e in omega arith
number_size (suc w) high [] v t h = short_taken h
number_size (suc w) high (x ∷ s) v t h = let k = number_size w (high * 2 + x) s v t h in omega arith

number_more : (w high : ℕ) (s : List ℕ) (v : ℕ) (t : List ℕ) → take_number w high s ≡ taken v t → (u : List ℕ) → take_number w high (s ++ u) ≡ taken v (t ++ u)
number_more zero high s v t h u = let ev : high ≡ v = cc in let et : s ≡ t = cc in cc
number_more (suc w) high [] v t h u = short_taken h
number_more (suc w) high (x ∷ s) v t h u = number_more w (high * 2 + x) s v t h u

record Byte (n : ℕ) (s bs t : List ℕ) : Type 0 where
  first : ℕ
  rest : List ℕ
  left : List ℕ
  one : take_number byte_width 0 s ≡ taken first left
  others : take_bytes n left ≡ taken rest t
  whole : first ∷ rest ≡ bs

byte_split : (n : ℕ) (s bs t : List ℕ) → take_bytes (suc n) s ≡ taken bs t → Byte n s bs t
byte_split n s bs t h = go (take_number byte_width 0 s) refl h
  where
    go : (o : Taken ℕ) → take_number byte_width 0 s ≡ o → after_byte o (λ t. take_bytes n t) ≡ taken bs t → Byte n s bs t
    go short e h = short_taken h
    go (taken x u) e h = rest (take_bytes n u) refl h
      where
        rest : (o : Taken (List ℕ)) → take_bytes n u ≡ o → cons_taken x o ≡ taken bs t → Byte n s bs t
        rest short d h = short_taken h
        rest (taken cs v) d h =
            let eb : x ∷ cs ≡ bs = cc in
            let et : v ≡ t = cc in
            record { first = x; rest = cs; left = u; one = e; others = d ∙ ap (taken cs) et; whole = eb }

pub bytes_size : (n : ℕ) (s bs t : List ℕ) → take_bytes n s ≡ taken bs t → length s ≡ byte_width * n + length t
bytes_size zero s bs t h = let e : s ≡ t = cc in let l : length s ≡ length t = ap length e in omega arith
bytes_size (suc n) s bs t h =
    let b = byte_split n s bs t h in
    let k = number_size byte_width 0 s b.first b.left b.one in
    let l = bytes_size n b.left b.rest t b.others in
    omega arith

bytes_more : (n : ℕ) (s bs t : List ℕ) → take_bytes n s ≡ taken bs t → (u : List ℕ) → take_bytes n (s ++ u) ≡ taken bs (t ++ u)
bytes_more zero s bs t h u = let eb : [] ≡ bs = cc in let et : s ≡ t = cc in cc
bytes_more (suc n) s bs t h u =
    let b = byte_split n s bs t h in
    ap (λ o. after_byte o (λ t. take_bytes n t)) (number_more byte_width 0 s b.first b.left b.one u)
    ∙ ap (cons_taken b.first) (bytes_more n b.left b.rest t b.others u)
    ∙ ap (λ l. taken l (t ++ u)) b.whole

-- ---- the parts of a pack

-- what a field behind the version breaks by
abbrev pub late : ℕ → Bool
late n = eqb n pack_ends || eqb n pack_rule

orderly_field : (S : ℕ → Bool) (n w : ℕ) (ok : ℕ → Bool) → T (S n) → T (S pack_ends) → Orderly S (field_or n w ok)
unfolding field_or
orderly_field S n w ok own ends =
    orderly_settle S n w ok (take_number w 0) (λ s v t h. number_size w 0 s v t h) (λ s v t h u. number_more w 0 s v t h u) own ends

orderly_number : (w : ℕ) (ok : ℕ → Bool) → Orderly late (number w ok)
orderly_number w ok = orderly_field late pack_rule w ok tt tt

orderly_bytes : (n : ℕ) (ok : List ℕ → Bool) → Orderly late (bytes_field n ok)
unfolding bytes_field
orderly_bytes n ok = orderly_settle late pack_rule (byte_width * n) ok (take_bytes n) (λ s v t h. bytes_size n s v t h) (λ s v t h u. bytes_more n s v t h u) tt tt

orderly_demand : (b : Bool) → Orderly late (demand b)
unfolding demand
orderly_demand b =
    record {
      moves = λ at s a to t h. moves b at s a to t h;
      breaks = λ at s n m h. breaks b at s n m h;
      goes = λ at s a to t h u. goes b at s a to t h u;
      stops = λ at s n m h d u. stops b at s n m h u;
    }
  where
    moves : (b : Bool) (at : ℕ) (s : List ℕ) (a : Unit {0}) (to : ℕ) (t : List ℕ) → demand b at s ≡ gave a to t → (at ≤ to) × (to + length t ≡ at + length s)
    moves true at s a to t h =
        let em : at ≡ to = cc in
        let et : s ≡ t = cc in
        let el : length s ≡ length t = ap length et in
        (omega arith, omega arith)
    moves false at s a to t h = broke_gave h

    breaks : (b : Bool) (at : ℕ) (s : List ℕ) (n m : ℕ) → demand b at s ≡ broke n m → T (late n) × (at ≤ m) × (m ≤ at + length s)
    breaks true at s n m h = broke_gave (sym h)
    breaks false at s n m h =
        let en : pack_rule ≡ n = cc in
        let em : at ≡ m = cc in
        (subst (λ k. T (late k)) en tt, omega arith, omega arith)

    goes : (b : Bool) (at : ℕ) (s : List ℕ) (a : Unit {0}) (to : ℕ) (t : List ℕ) → demand b at s ≡ gave a to t → (u : List ℕ)
        → demand b at (s ++ u) ≡ gave a to (t ++ u)
    goes true at s a to t h u = let em : at ≡ to = cc in let et : s ≡ t = cc in cc
    goes false at s a to t h u = broke_gave h

    stops : (b : Bool) (at : ℕ) (s : List ℕ) (n m : ℕ) → demand b at s ≡ broke n m → (u : List ℕ) → demand b at (s ++ u) ≡ broke n m
    stops true at s n m h u = broke_gave (sym h)
    stops false at s n m h u = h

orderly_many : {A : Type 0} (n : ℕ) (p : Reader A) → Orderly late p → Orderly late (many n p)
unfolding many
orderly_many zero p o = orderly_give late []
orderly_many (suc n) p o = orderly_bind late p _ o (λ x. orderly_bind late (many n p) _ (orderly_many n p o) (λ xs. orderly_give late (x ∷ xs)))

orderly_name : (used : ℕ) (before : List (List ℕ)) → Orderly late (read_name used before)
unfolding read_name
orderly_name used before = orderly_bind late _ _ (orderly_number name_length_width (length_rule used)) (λ n. orderly_bytes n (name_rule before))

orderly_names : (k used : ℕ) (before : List (List ℕ)) → Orderly late (read_names k used before)
unfolding read_names
orderly_names zero used before = orderly_give late []
orderly_names (suc k) used before =
    orderly_bind late _ _ (orderly_name used before)
    (λ n. orderly_bind late _ _ (orderly_names k (used + length n) (n ∷ before)) (λ ns. orderly_give late (n ∷ ns)))

orderly_definition : Orderly late read_definition
unfolding read_definition
orderly_definition =
    orderly_bind late _ _ (orderly_number flag_width _) (λ i. orderly_bind late _ _ (orderly_number flag_width _) (λ g. orderly_bind late _ _ (orderly_number length_width _) (λ l. orderly_give late _)))

orderly_range : (known total used : ℕ) → Orderly late (read_range known total used)
unfolding read_range
orderly_range known total used =
    orderly_bind late _ _ (orderly_number bound_width _)
    (λ l. orderly_bind late _ _ (orderly_number bound_width _)
    (λ u. orderly_bind late _ _ (orderly_number count_width _)
    (λ n. orderly_bind late _ _ (orderly_many n _ (orderly_number number_width _)) (λ cs. orderly_give late _))))

orderly_ranges : (k known total used : ℕ) → Orderly late (read_ranges k known total used)
unfolding read_ranges
orderly_ranges zero known total used = orderly_give late []
orderly_ranges (suc k) known total used =
    orderly_bind late _ _ (orderly_range known total used)
    (λ g. orderly_bind late _ _ (orderly_ranges k known total (used + length g.categories)) (λ gs. orderly_give late (g ∷ gs)))

orderly_body : (categories lines ranges total : ℕ) → Orderly late (read_body categories lines ranges total)
unfolding read_body
orderly_body categories lines ranges total =
    orderly_bind late _ _ (orderly_names categories 0 [])
    (λ ns. orderly_bind late _ _ (orderly_many lines read_definition orderly_definition)
    (λ ds. orderly_bind late _ _ (orderly_ranges ranges categories total 0)
    (λ gs. orderly_bind late _ _ (orderly_demand (eqb (references gs) total)) (λ u. orderly_give late _))))

orderly_counted : Orderly late read_counted
unfolding read_counted
orderly_counted =
    orderly_bind late _ _ (orderly_number categories_width (up_to max_categories))
    (λ n. orderly_bind late _ _ (orderly_number lines_width (up_to max_category_lines))
    (λ d. orderly_bind late _ _ (orderly_number ranges_width (up_to max_ranges)) (λ g. orderly_bind late _ _ (orderly_number references_width (up_to max_references)) (λ t. orderly_body n d g t))))

-- with the version
abbrev pub early : ℕ → Bool
early n = eqb n pack_version || late n

late_early : (n : ℕ) → T (late n) → T (early n)
late_early n t = go (eqb n pack_version)
  where
    go : (b : Bool) → T (b || late n)
    go true = tt
    go false = t

orderly_fields : Orderly early read_fields
unfolding read_fields
orderly_fields = orderly_bind early _ _ (orderly_field early pack_version version_width (eqb version) tt tt) (λ v. counted)
  where
    o : Orderly late read_counted
    o = orderly_counted

    counted : Orderly early read_counted
    counted = record { moves = o.moves; breaks = λ at s n m h. (let (t, i, j) = o.breaks at s n m h in (late_early n t, i, j)); goes = o.goes; stops = o.stops }

-- ---- the padding

padding_broke : (at : ℕ) (s : List ℕ) (n m : ℕ) → padding at s ≡ broke n m → (is_padding s ≡ false) × (pack_left_over ≡ n) × (at ≡ m)
unfolding padding
padding_broke at s n m h = go (is_padding s) refl h
  where
    go : (b : Bool) → is_padding s ≡ b → ◌≡◌ {A = FieldStep (Unit {0})} (cond b (gave tt at []) (broke pack_left_over at)) (broke n m) → (is_padding s ≡ false) × (pack_left_over ≡ n) × (at ≡ m)
    go true e h = broke_gave (sym h)
    go false e h = let en : pack_left_over ≡ n = cc in let em : at ≡ m = cc in (e, en, em)

-- a field is broken, or they all are read and what is left is no padding
unfoldable pub Stopped : List ℕ → ℕ → ℕ → Type 0
Stopped s n at =
    (read_fields 0 s ≡ broke n at) ⊎ ((r : Reading) × (t : List ℕ) × (read_fields 0 s ≡ gave r at t) × (is_padding t ≡ false) × (pack_left_over ≡ n))

all_stopped : (s : List ℕ) (n at : ℕ) → read_all 0 s ≡ broke n at → Stopped s n at
unfolding read_all ◌▹◌ give Stopped
all_stopped s n at h = go (read_fields 0 s) refl h
  where
    pad : (r : Reading) (m : ℕ) (t : List ℕ) → read_fields 0 s ≡ gave r m t → (o : FieldStep (Unit {0})) → padding m t ≡ o → after_step o (λ end. give r) ≡ broke n at → Stopped s n at
    pad r m t e (gave u to v) d h = broke_gave (sym h)
    pad r m t e (broke i j) d h =
        let (ei, ej) = broke_same i j n at h in
        let (c, en, em) = padding_broke m t i j d in
        inr (r, t, e ∙ ap (λ m. gave r m t) (em ∙ ej), c, en ∙ ei)

    go : (o : FieldStep Reading) → read_fields 0 s ≡ o → after_step o (λ r. padding ▹ (λ end. give r)) ≡ broke n at → Stopped s n at
    go (broke i j) e h = inl (e ∙ h)
    go (gave r m t) e h = pad r m t e (padding m t) refl h

stopped_all : (s : List ℕ) (n at : ℕ) → Stopped s n at → read_all 0 s ≡ broke n at
unfolding read_all ◌▹◌ give Stopped padding
stopped_all s n at (inl e) = ap (λ o. after_step o (λ r. padding ▹ (λ end. give r))) e
stopped_all s n at (inr (r, t, e, c, en)) =
    ap (λ o. after_step o (λ r. padding ▹ (λ end. give r))) e
    ∙ ap (λ b. after_step (cond b (gave tt at []) (broke pack_left_over at)) (λ end. give r)) c
    ∙ ap (λ n. broke n at) en

answer_refused : (o : FieldStep Reading) (n at : ℕ) → answer o ≡ refused n at → o ≡ broke n at
answer_refused (gave r to t) n at h = refused_accepted (sym h)
answer_refused (broke i j) n at h = let e : i ≡ n = cc in let d : j ≡ at = cc in cc

pub stopped_of : (p : List ℕ) (n at : ℕ) → read_pack p ≡ refused n at → Stopped (bits_of p) n at
unfolding read_pack
stopped_of p n at h = all_stopped (bits_of p) n at (answer_refused (read_all 0 (bits_of p)) n at h)

of_stopped : (p : List ℕ) (n at : ℕ) → Stopped (bits_of p) n at → read_pack p ≡ refused n at
unfolding read_pack
of_stopped p n at h = ap answer (stopped_all (bits_of p) n at h)

-- ---- the verdicts

pub nothing_19 : read_pack [] ≡ refused pack_ends 0
unfolding read_pack
nothing_19 = refl

unpack_append : (p q : List ℕ) → bits_of (p ++ q) ≡ bits_of p ++ bits_of q
unpack_append [] q = refl
unpack_append (b ∷ p) q = ap (λ l. bits byte_width b ++ l) (unpack_append p q)

unpack_size : (p : List ℕ) → length (bits_of p) ≡ byte_width * length p
unpack_size [] = refl
unpack_size (b ∷ p) = let h = unpack_size p in omega arith

-- the numbers are 18 to 21, and the place is in the pack or at its end
pub refused_numbers : (p : List ℕ) (n at : ℕ) → read_pack p ≡ refused n at → T (early n || eqb n pack_left_over) × (at ≤ byte_width * length p)
unfolding Stopped
refused_numbers p n at h = go (stopped_of p n at h)
  where
    left : (a b : Bool) → T a → T (a || b)
    left true b t = tt
    left false b t = absurd t

    go : Stopped (bits_of p) n at → T (early n || eqb n pack_left_over) × (at ≤ byte_width * length p)
    go (inl e) =
        let (t, i, j) = orderly_fields.breaks 0 (bits_of p) n at e in
        let k = unpack_size p in
        (left (early n) (eqb n pack_left_over) t, omega arith)
    go (inr (r, t, e, c, en)) =
        let (i, j) = orderly_fields.moves 0 (bits_of p) r at t e in
        let k = unpack_size p in
        (subst (λ n. T (early n || eqb n pack_left_over)) en tt, omega arith)

-- 18 exactly when there is a first byte and it is not 1
pub refused_18 : (p : List ℕ) (at : ℕ) → T (all is_byte p) → (read_pack p ≡ refused pack_version at) ↔ ((at ≡ 0) × (b : ℕ) × (q : List ℕ) × (p ≡ b ∷ q) × (b ≢ version))
unfolding Stopped read_fields ◌▹◌ field_or
refused_18 p at bytes = (λ h. only (stopped_of p pack_version at h), λ (e, b, q, ep, d). given e b q ep d)
  where
    first : (b : ℕ) (q : List ℕ) → T (all is_byte (b ∷ q)) → take_number byte_width 0 (bits_of (b ∷ q)) ≡ taken b (bits_of q)
    first b q t = number_taken byte_width b (bits_of q) (ltb_yes (and_yes (is_byte b) (all is_byte q) t).0)

    byte : (q : List ℕ) → T (all is_byte q) → (v : ℕ) (t : List ℕ) → take_number byte_width 0 (bits_of q) ≡ taken v t → eqb version v ≡ false → (b : ℕ) × (l : List ℕ) × (q ≡ b ∷ l) × (b ≢ version)
    byte [] t v u h c = short_taken h
    byte (b ∷ l) t v u h c =
        let g = first b l t in
        let e : v ≡ b = cc in
        (b, l, refl, λ d. T_not (eqb version v) (subst (λ k. T (eqb version k)) (sym (e ∙ d)) tt) (false→T _ c))

    field : (m : ℕ) → settle pack_version version_width 0 (eqb version) (take_number byte_width 0 (bits_of p)) ≡ broke pack_version m → (m ≡ 0) × (b : ℕ) × (q : List ℕ) × (p ≡ b ∷ q) × (b ≢ version)
    field m h = let (e, o) = settle_broke pack_version version_width 0 (eqb version) (take_number byte_width 0 (bits_of p)) pack_version m h in which e o
      where
        which : 0 ≡ m → ((take_number byte_width 0 (bits_of p) ≡ short) × (◌≡◌ {A = ℕ} pack_ends pack_version)) ⊎ ((a : ℕ) × (t : List ℕ) × (take_number byte_width 0 (bits_of p) ≡ taken a t) × (eqb version a ≡ false) × (◌≡◌ {A = ℕ} pack_version pack_version)) → (m ≡ 0) × (b : ℕ) × (q : List ℕ) × (p ≡ b ∷ q) × (b ≢ version)
        which e (inl (y, z)) = absurd (omega arith)
        which e (inr (a, t, o, c, z)) = let (b, q, ep, d) = byte p bytes a t o c in (sym e, b, q, ep, d)

    fields : (o : FieldStep ℕ) → settle pack_version version_width 0 (eqb version) (take_number byte_width 0 (bits_of p)) ≡ o → after_step o (λ v. read_counted) ≡ broke pack_version at → (at ≡ 0) × (b : ℕ) × (q : List ℕ) × (p ≡ b ∷ q) × (b ≢ version)
    fields (broke i j) e h = let (ei, ej) = broke_same i j pack_version at h in field at (e ∙ ap₂ broke ei ej)
    fields (gave v m t) e h = absurd (orderly_counted.breaks m t pack_version at h).0

    only : Stopped (bits_of p) pack_version at → (at ≡ 0) × (b : ℕ) × (q : List ℕ) × (p ≡ b ∷ q) × (b ≢ version)
    only (inl e) = fields (settle pack_version version_width 0 (eqb version) (take_number byte_width 0 (bits_of p))) refl e
    only (inr (r, t, e, c, z)) = absurd (omega arith)

    given : at ≡ 0 → (b : ℕ) (q : List ℕ) → p ≡ b ∷ q → b ≢ version → read_pack p ≡ refused pack_version at
    given e b q ep d =
        let t : T (all is_byte (b ∷ q)) = subst (λ l. T (all is_byte l)) ep bytes in
        let c : eqb version b ≡ false = T→false (eqb version b) (not_T (eqb version b) (λ u. d (sym (eqb→eq version b u)))) in
        ap read_pack ep ∙ of_stopped (b ∷ q) pack_version 0
        (inl (ap (λ o. after_step (settle pack_version version_width 0 (eqb version) o) (λ v. read_counted)) (first b q t) ∙ ap (λ x. after_step (cond x (gave b (0 + version_width) (bits_of q)) (broke pack_version 0)) (λ v. read_counted)) c))
        ∙ ap (refused pack_version) (sym e)

-- 21 exactly when the fields of a reading stand there, keep the rules, and no padding stands behind them
pub refused_21 : (p : List ℕ) (at : ℕ) → (read_pack p ≡ refused pack_left_over at)
    ↔ ((r : Reading) × (s : List ℕ) × PackRules r × (bits_of p ≡ pack_bits r ++ s) × T (not (is_padding s)) × (at ≡ length (pack_bits r)))
unfolding Stopped
refused_21 p at = (λ h. only (stopped_of p pack_left_over at h), λ (r, s, k, w, n, e). given r s k w n e)
  where
    only : Stopped (bits_of p) pack_left_over at → (r : Reading) × (s : List ℕ) × PackRules r × (bits_of p ≡ pack_bits r ++ s) × T (not (is_padding s)) × (at ≡ length (pack_bits r))
    only (inl e) = absurd (orderly_fields.breaks 0 (bits_of p) pack_left_over at e).0
    only (inr (r, t, e, c, z)) =
        let f = fields_read 0 (bits_of p) r at t (unpack_bits p) e in
        let g = fields_of r t f.rules in
        let w : bits_of p ≡ pack_bits r ++ t = f.whole in
        let m : gave r at t ≡ gave r (length (pack_bits r)) t = sym e ∙ ap (read_fields 0) w ∙ g in
        let em : at ≡ length (pack_bits r) = cc in
        (r, t, f.rules, w, false→T _ c, em)

    given : (r : Reading) (s : List ℕ) → PackRules r → bits_of p ≡ pack_bits r ++ s → T (not (is_padding s)) → at ≡ length (pack_bits r) → read_pack p ≡ refused pack_left_over at
    given r s k w n e =
        of_stopped p pack_left_over at (inr (r, s, ap (read_fields 0) w ∙ fields_of r s k ∙ ap (λ m. gave r m s) (sym e), T→false (is_padding s) n, refl))

padded_left : (s u : List ℕ) → T (is_padding (s ++ u)) → T (is_padding s)
padded_left s u t =
    let g = and_yes (ltb (length (s ++ u)) byte_width) (all (eqb 0) (s ++ u)) t in
    let l : length (s ++ u) < byte_width = ltb_yes g.0 in
    let k : length s < byte_width = omega (arith, length-append s u) in
    yes_and (ltb (length s) byte_width) (all (eqb 0) s) (yes_ltb k) (all_left (eqb 0) s u g.1)

-- a refusal stands whatever follows, unless it is for want of bits
pub refused_stays : (p q : List ℕ) (n at : ℕ) → n ≢ pack_ends → read_pack p ≡ refused n at → read_pack (p ++ q) ≡ refused n at
unfolding Stopped
refused_stays p q n at d h = of_stopped (p ++ q) n at (subst (λ l. Stopped l n at) (sym (unpack_append p q)) (go (stopped_of p n at h)))
  where
    go : Stopped (bits_of p) n at → Stopped (bits_of p ++ bits_of q) n at
    go (inl e) = inl (orderly_fields.stops 0 (bits_of p) n at e d (bits_of q))
    go (inr (r, t, e, c, z)) =
        inr (r, t ++ bits_of q, orderly_fields.goes 0 (bits_of p) r at t e (bits_of q), T→false (is_padding (t ++ bits_of q)) (not_T (is_padding (t ++ bits_of q)) (λ u. T_not (is_padding t) (padded_left t (bits_of q) u) (false→T _ c))), z)

-- an accepted pack with bytes left over
pub accepted_more : (p q : List ℕ) (b : ℕ) (r : Reading) → read_pack p ≡ accepted r → read_pack (p ++ (b ∷ q)) ≡ refused pack_left_over (length (pack_bits r))
accepted_more p q b r h =
    let k = pack_is p r h in
    let w : bits_of (p ++ (b ∷ q)) ≡ pack_bits r ++ (k.pad ++ bits_of (b ∷ q)) =
    unpack_append p (b ∷ q) ∙ ap (λ l. l ++ bits_of (b ∷ q)) k.whole ∙ append_assoc (pack_bits r) k.pad (bits_of (b ∷ q)) in
    (refused_21 (p ++ (b ∷ q)) (length (pack_bits r))).1 (r, k.pad ++ bits_of (b ∷ q), k.rules, w, long k.pad, refl)
  where
    long : (pad : List ℕ) → T (not (is_padding (pad ++ bits_of (b ∷ q))))
    long pad =
        not_T (is_padding (pad ++ bits_of (b ∷ q)))
        (λ t. let l : length (pad ++ bits_of (b ∷ q)) < byte_width = ltb_yes (and_yes (ltb (length (pad ++ bits_of (b ∷ q))) byte_width) _ t).0 in
        omega (arith, length-append pad (bits_of (b ∷ q)), unpack_size (b ∷ q)))

-- a pack cut short
pub accepted_cut : (p q : List ℕ) (b : ℕ) (r : Reading) → read_pack (p ++ (b ∷ q)) ≡ accepted r → (at : ℕ) × (read_pack p ≡ refused pack_ends at)
accepted_cut p q b r h = go (read_pack p) refl
  where
    go : (o : Answer) → read_pack p ≡ o → (at : ℕ) × (read_pack p ≡ refused pack_ends at)
    go (accepted s) e = refused_accepted (sym (accepted_more p q b s e) ∙ h)
    go (refused n at) e =
        elim (ℕ_discrete n pack_ends) [
          | yes z ↦ (at, e ∙ ap (λ n. refused n at) z)
          | no d ↦ refused_accepted (sym (refused_stays p (b ∷ q) n at d e) ∙ h)
        ]
