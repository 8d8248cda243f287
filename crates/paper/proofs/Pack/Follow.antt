-- The pack reader follows the fields of `Pack.Broken`: where a reader starts at a field, it ends at the one that is next behind its value, or
-- what it refuses is the first broken field. A field's bits say a value, and the test on it is the field's rule.
-- Assumes nothing.
use Prim.Native.Nat.{ℕ, zero, suc, ◌+◌, ◌*◌, ◌^◌, ◌<◌, ◌≤◌}
use native.Mathlib.Omega.{arith}
use mathlib.Core.Path.{◌≡◌, refl, sym, ap, ap₂, ◌∙◌, subst}
use mathlib.Core.Logic.{◌⊎◌, inl, inr, ◌↔◌}
use mathlib.Core.Bool.{Bool, true, false, not, cond, ◌&&◌}
use mathlib.Core.List.{List, [], ◌∷◌, ◌++◌, map, append_assoc, append-nil}
use lib.Dec.{T, leb, ltb, eqb, eqb→eq}
use lib.ListN.{length, length-append}
use mir.Facts.{and_yes, yes_and, T_not, leb_yes, yes_leb, ltb_yes, yes_ltb, yes_eqb}
use Rattle.paper.specs.Sizes.{max_categories, max_name_bytes, max_category_lines, max_ranges, max_references}
use Rattle.paper.specs.Refusals.{pack_ends, pack_rule}
use Rattle.paper.specs.Lists.{all, any, same}
use Rattle.paper.specs.Text.Scalar.{WellFormed}
use Rattle.paper.specs.CharDef.Reading.{Definition, Range, Reading, name_bytes, references, accepted, refused}
use Rattle.paper.specs.Pack.Fields.{number_width, byte_width, version, Field, field, bits, spell, bits_of, bytes_of}
use Rattle.paper.specs.Pack.Rules.{is_bound}
use Rattle.paper.specs.Pack.Broken.{Head, Due, version_field, categories_field, lines_field, ranges_field, references_field, name_length_field, name_field, invoke_field, group_field, length_field, lower_field, upper_field, count_field, number_field, Next, due, end, width, refusal, Keeps, ranges_left, numbers_left, definitions_left, names_left, after, nothing_yet, one_more, Reaches, Fills, Broken, ends, breaks, adds_up_wrong, left_over}
use Rattle.paper.specs.Computed.ReadPack.{Taken, short, taken, take_number, cons_taken, after_byte, take_bytes, FieldStep, gave, broke, Reader, after_step, ◌▹◌, give, settle, field_or, number, free, bytes_field, demand, is_padding, padding, many, length_rule, name_rule, read_name, read_names, read_definition, count_rule, read_range, read_ranges, up_to, read_body, read_counted, read_fields, read_all, read_pack}
use Rattle.paper.specs.Computed.Rules.{formed}
use Rattle.paper.proofs.Apart.{short_taken, broke_gave}
use Rattle.paper.proofs.Lists.Facts.{true→T, false→T}
use Rattle.paper.proofs.Pack.Size.{bits_length}
use Rattle.paper.proofs.Pack.Rules.{formed_is, is_formed}
use Rattle.paper.proofs.Pack.Bits.{is_bit, spell_append, unpack_bits, taken_number, number_short, bytes_taken, bytes_of_bits, bytes_of_length, bytes_of_bytes}
use Rattle.paper.proofs.Pack.Trip.{split, padding_is, answered}
use Rattle.paper.proofs.Pack.Verdict.{broke_same, settle_got, settle_broke, number_size, bytes_size, Stopped, stopped_of}

-- ---- what a field's bits say

-- taking a field of w bits: it fails where there are fewer, and otherwise what it takes is what the bits' value says
record Takes {A : Type 0} (w : ℕ) (of : ℕ → A) (take : List ℕ → Taken A) : Type 0 where
  fails : (s : List ℕ) → take s ≡ short → length s < w
  takes : (s : List ℕ) (a : A) (t : List ℕ) → T (all is_bit s) → take s ≡ taken a t
      → (v : ℕ) × (v < 2 ^ w) × (s ≡ bits w v ++ t) × (of v ≡ a) × T (all is_bit t)

takes_number : (w : ℕ) → Takes w (λ v. v) (take_number w 0)
takes_number w =
    record {
      fails = λ s h. number_short w 0 s h;
      takes = λ s a t b h. let (lt, whole, left) = taken_number w s a t b h in (a, lt, whole, refl, left);
    }

bytes_short : (n : ℕ) (s : List ℕ) → take_bytes n s ≡ short → length s < byte_width * n
bytes_short zero s h = short_taken (sym h)
bytes_short (suc n) s h = go (take_number byte_width 0 s) refl h (bytes_short n)
  where
    rest : (x : ℕ) (u : List ℕ) (o : Taken (List ℕ)) → take_bytes n u ≡ o → cons_taken x o ≡ short → take_bytes n u ≡ short
    rest x u short e h = e
    rest x u (taken bs t) e h = short_taken (sym h)

    go : (o : Taken ℕ) → take_number byte_width 0 s ≡ o → after_byte o (λ t. take_bytes n t) ≡ short
        → ((u : List ℕ) → take_bytes n u ≡ short → length u < byte_width * n) → length s < byte_width * suc n
    go short e h ih = let k = number_short byte_width 0 s e in omega arith
    go (taken x u) e h ih =
        let k = number_size byte_width 0 s x u e in
        let l = ih u (rest x u (take_bytes n u) refl h) in
        omega arith

bytes_number : (n : ℕ) (s bs t : List ℕ) → T (all is_bit s) → take_bytes n s ≡ taken bs t
    → (v : ℕ) × (v < 2 ^ (byte_width * n)) × (s ≡ bits (byte_width * n) v ++ t) × (bytes_of n v ≡ bs) × T (all is_bit t)
bytes_number n s bs t b h = go (take_number (byte_width * n) 0 s) refl
  where
    go : (o : Taken ℕ) → take_number (byte_width * n) 0 s ≡ o
        → (v : ℕ) × (v < 2 ^ (byte_width * n)) × (s ≡ bits (byte_width * n) v ++ t) × (bytes_of n v ≡ bs) × T (all is_bit t)
    go short e =
        let k = number_short (byte_width * n) 0 s e in
        let l = bytes_size n s bs t h in
        absurd (omega arith)
    go (taken v u) e =
        let (lt, whole, left) = taken_number (byte_width * n) s v u b e in
        let again : take_bytes n s ≡ taken (bytes_of n v) u =
        ap (take_bytes n) (whole ∙ ap (λ l. l ++ u) (bytes_of_bits n v))
        ∙ ap (λ m. take_bytes m (spell (map (field byte_width) (bytes_of n v)) ++ u)) (sym (bytes_of_length n v))
        ∙ bytes_taken (bytes_of n v) u (bytes_of_bytes n v) in
        let eb : bytes_of n v ≡ bs = cc in
        let et : u ≡ t = cc in
        (v, lt, whole ∙ ap (λ l. bits (byte_width * n) v ++ l) et, eb, subst (λ l. T (all is_bit l)) et left)

takes_bytes : (n : ℕ) → Takes (byte_width * n) (bytes_of n) (take_bytes n)
takes_bytes n = record { fails = λ s h. bytes_short n s h; takes = λ s a t b h. bytes_number n s a t b h }

-- ---- readers follow the fields

module _ (p : List ℕ) where
  -- a reader stands where x is next
  record Stands (x : Next) (at : ℕ) (s : List ℕ) : Type 0 where
    reaches : Reaches p at x s
    left : T (all is_bit s)

  record Follows {A : Type 0} (P : ℕ → List ℕ → Type 0) (r : Reader A) (Q : A → ℕ → List ℕ → Type 0) : Type 0 where
    passes : (at : ℕ) (s : List ℕ) (a : A) (to : ℕ) (t : List ℕ) → P at s → r at s ≡ gave a to t → Q a to t
    refuses : (at : ℕ) (s : List ℕ) (n m : ℕ) → P at s → r at s ≡ broke n m → Broken p n m

  follows_bind : {A B : Type 0} {P : ℕ → List ℕ → Type 0} {Q : A → ℕ → List ℕ → Type 0} {R : B → ℕ → List ℕ → Type 0} {r : Reader A} (k : A → Reader B)
      → Follows P r Q → ((a : A) → Follows (Q a) (k a) R) → Follows P (r ▹ k) R
  unfolding ◌▹◌
  follows_bind {A} {B} {P} {Q} {R} {r} k f g =
      record {
        passes = λ at s b to t h e. passes at s b to t h (r at s) refl e;
        refuses = λ at s n m h e. refuses at s n m h (r at s) refl e;
      }
    where
      passes : (at : ℕ) (s : List ℕ) (b : B) (to : ℕ) (t : List ℕ) → P at s → (o : FieldStep A) → r at s ≡ o → after_step o k ≡ gave b to t → R b to t
      passes at s b to t h (broke n m) d e = broke_gave e
      passes at s b to t h (gave a m u) d e = (g a).passes m u b to t (f.passes at s a m u h d) e

      refuses : (at : ℕ) (s : List ℕ) (n m : ℕ) → P at s → (o : FieldStep A) → r at s ≡ o → after_step o k ≡ broke n m → Broken p n m
      refuses at s n m h (broke i j) d e = let (ei, ej) = broke_same i j n m e in f.refuses at s n m h (d ∙ ap₂ broke ei ej)
      refuses at s n m h (gave a j u) d e = (g a).refuses j u n m (f.passes at s a j u h d) e

  follows_give : {A : Type 0} {P : ℕ → List ℕ → Type 0} {Q : A → ℕ → List ℕ → Type 0} (a : A) → ((at : ℕ) (s : List ℕ) → P at s → Q a at s) → Follows P (give a) Q
  unfolding give
  follows_give {A} {P} {Q} a f = record { passes = passes; refuses = λ at s n m h e. broke_gave (sym e) }
    where
      passes : (at : ℕ) (s : List ℕ) (b : A) (to : ℕ) (t : List ℕ) → P at s → gave a at s ≡ gave b to t → Q b to t
      passes at s b to t h e =
          let ea : a ≡ b = cc in
          let em : at ≡ to = cc in
          let et : s ≡ t = cc in
          subst (λ b. Q b to t) ea (subst (λ m. Q a m t) em (subst (λ l. Q a at l) et (f at s h)))

  -- ---- a field

  stands_more : {x : Due} (at : ℕ) (s : List ℕ) (v : ℕ) (t : List ℕ) → Stands (due x) at s → v < 2 ^ width x → Keeps x v → s ≡ bits (width x) v ++ t
      → T (all is_bit t) → Stands (after x v) (at + width x) t
  stands_more {x} at s v t h lt k e b =
      let r = h.reaches in
      let one : List Field = field (width x) v ∷ [] in
      let said : spell (r.fields ++ (field (width x) v ∷ [])) ≡ spell r.fields ++ bits (width x) v =
      spell_append r.fields (field (width x) v ∷ []) ∙ ap (λ l. spell r.fields ++ l) (append-nil (bits (width x) v)) in
      let long : length (spell r.fields ++ bits (width x) v) ≡ length (spell r.fields) + width x =
      length-append (spell r.fields) (bits (width x) v) ∙ ap (λ n. length (spell r.fields) + n) (bits_length (width x) v) in
      record {
        reaches = record {
          fields = r.fields ++ (field (width x) v ∷ []);
          begins = one_more v r.begins lt k;
          whole = r.whole ∙ ap (λ l. spell r.fields ++ l) e ∙ sym (append_assoc (spell r.fields) (bits (width x) v) t) ∙ ap (λ l. l ++ t) (sym said);
          starts = ap length said ∙ long ∙ ap (λ n. n + width x) r.starts;
        };
        left = b;
      }

  module _ {A : Type 0} (x : Due) (of : ℕ → A) (take : List ℕ → Taken A) (good : Takes (width x) of take) (ok : A → Bool) (rule : (v : ℕ) → T (ok (of v)) ↔ Keeps x v) where
    Passed : A → ℕ → List ℕ → Type 0
    Passed a at s = (v : ℕ) × (of v ≡ a) × Stands (after x v) at s

    follows_settle : Follows (Stands (due x)) (λ at s. settle (refusal x) (width x) at ok (take s)) Passed
    unfolding Passed
    follows_settle = record { passes = passes; refuses = refuses }
      where
        passes : (at : ℕ) (s : List ℕ) (a : A) (to : ℕ) (t : List ℕ) → Stands (due x) at s → settle (refusal x) (width x) at ok (take s) ≡ gave a to t → Passed a to t
        passes at s a to t h e =
            let (o, c, em) = settle_got (refusal x) (width x) at ok (take s) a to t e in
            let (v, lt, whole, ev, b) = good.takes s a t h.left o in
            let k : Keeps x v = (rule v).0 (true→T (ok (of v)) (ap ok ev ∙ c)) in
            (v, ev, subst (λ m. Stands (after x v) m t) em (stands_more at s v t h lt k whole b))

        refuses : (at : ℕ) (s : List ℕ) (n m : ℕ) → Stands (due x) at s → settle (refusal x) (width x) at ok (take s) ≡ broke n m → Broken p n m
        refuses at s n m h e =
            let (em, o) = settle_broke (refusal x) (width x) at ok (take s) n m e in
            subst (λ m. Broken p n m) em (which o)
          where
            which : ((take s ≡ short) × (pack_ends ≡ n)) ⊎ ((a : A) × (t : List ℕ) × (take s ≡ taken a t) × (ok a ≡ false) × (refusal x ≡ n)) → Broken p n at
            which (inl (o, en)) = subst (λ n. Broken p n at) en (ends h.reaches (good.fails s o))
            which (inr (a, t, o, c, en)) =
                let (v, lt, whole, ev, b) = good.takes s a t h.left o in
                let r = subst (λ l. Reaches p at (due x) l) whole h.reaches in
                subst (λ n. Broken p n at) en
                (breaks v t r lt (λ k. T_not (ok (of v)) ((rule v).1 k) (false→T _ (ap ok ev ∙ c))))

  follows_number : (x : Due) (ok : ℕ → Bool) → ((v : ℕ) → T (ok v) ↔ Keeps x v) → Follows (Stands (due x)) (field_or (refusal x) (width x) ok) (λ v. Stands (after x v))
  unfolding field_or Passed
  follows_number x ok rule =
      let f = follows_settle x (λ v. v) (take_number (width x) 0) (takes_number (width x)) ok rule in
      record {
        passes = λ at s a to t h e. let (v, ev, st) = f.passes at s a to t h e in subst (λ v. Stands (after x v) to t) ev st;
        refuses = f.refuses;
      }

  follows_after : {A : Type 0} {P : ℕ → List ℕ → Type 0} {Q R : A → ℕ → List ℕ → Type 0} {r : Reader A} → Follows P r Q
      → ((a : A) (at : ℕ) (s : List ℕ) → Q a at s → R a at s) → Follows P r R
  follows_after f g = record { passes = λ at s a to t h e. g a to t (f.passes at s a to t h e); refuses = f.refuses }

  -- entries of one kind, with so many to come
  follows_many : {A : Type 0} (r : Reader A) (x : ℕ → Next) → ((k : ℕ) → Follows (Stands (x (suc k))) r (λ a. Stands (x k)))
      → (k : ℕ) → Follows (Stands (x k)) (many k r) (λ l at s. (length l ≡ k) × Stands (x 0) at s)
  unfolding many
  follows_many r x f zero = follows_give [] (λ at s h. (refl, h))
  follows_many r x f (suc k) =
      follows_bind _ (f k) (λ a. follows_bind _ (follows_many r x f k) (λ l. follows_give (a ∷ l) (λ at s (e, h). (ap suc e, h))))

  -- ---- names

  follows_name : (h : Head) (k used : ℕ) (before : List (List ℕ)) → used ≡ name_bytes before
      → Follows (Stands (names_left h (suc k) before)) (read_name used before) (λ n. Stands (names_left h k (n ∷ before)))
  unfolding read_name bytes_field name_rule Passed
  follows_name h k used before e =
      follows_bind _ (follows_number (name_length_field h k before) (length_rule used) rule)
      (λ n. follows_after
      (follows_settle (name_field h k before n) (bytes_of n) (take_bytes n) (takes_bytes n) (name_rule before) (named n))
      (λ name at s (v, ev, st). subst (λ m. Stands (names_left h k (m ∷ before)) at s) ev st))
    where
      rule : (n : ℕ) → T (length_rule used n) ↔ Keeps (name_length_field h k before) n
      rule n = (
        λ t. (let g = and_yes (ltb 0 n) (leb (used + n) max_name_bytes) t in
            let a : 0 < n = ltb_yes g.0 in
            let b : used + n ≤ max_name_bytes = leb_yes g.1 in
            omega arith),
        λ kept. (let a : 0 < n = omega arith in
            let b : used + n ≤ max_name_bytes = omega arith in
            yes_and (ltb 0 n) (leb (used + n) max_name_bytes) (yes_ltb a) (yes_leb b)),
      )

      named : (n v : ℕ) → T (formed (bytes_of n v) && not (any (same (bytes_of n v)) before)) ↔ (WellFormed (bytes_of n v) × T (not (any (same (bytes_of n v)) before)))
      named n v = (
        λ t. (let g = and_yes (formed (bytes_of n v)) (not (any (same (bytes_of n v)) before)) t in (formed_is (bytes_of n v) g.0, g.1)),
        λ (w, new). yes_and (formed (bytes_of n v)) (not (any (same (bytes_of n v)) before)) (is_formed (bytes_of n v) w) new,
      )

  follows_names : (h : Head) (k used : ℕ) (before : List (List ℕ)) → used ≡ name_bytes before
      → Follows (Stands (names_left h k before)) (read_names k used before) (λ ns. Stands (definitions_left h h.lines))
  unfolding read_names name_bytes
  follows_names h zero used before e = follows_give [] (λ at s st. st)
  follows_names h (suc k) used before e =
      follows_bind _ (follows_name h k used before e)
      (λ n. follows_bind _ (follows_names h k (used + length n) (n ∷ before) (omega arith)) (λ ns. follows_give (n ∷ ns) (λ at s st. st)))

  -- ---- definitions

  any_value : (v : ℕ) → T (free v) ↔ Unit {0}
  any_value v = (λ t. tt, λ t. tt)

  follows_definition : (h : Head) (k : ℕ) → Follows (Stands (definitions_left h (suc k))) read_definition (λ d. Stands (definitions_left h k))
  unfolding read_definition
  follows_definition h k =
      follows_bind _ (follows_number (invoke_field h k) free any_value)
      (λ i. follows_bind _ (follows_number (group_field h k) free any_value)
      (λ g. follows_bind _ (follows_number (length_field h k) free any_value) (λ l. follows_give _ (λ at s st. st))))

  -- ---- ranges

  is_bound_lem : (v : ℕ) → T (is_bound v) ↔ T (is_bound v)
  is_bound_lem v = (λ t. t, λ t. t)

  follows_range : (h : Head) (k used : ℕ)
      → Follows (Stands (ranges_left h (suc k) used)) (read_range h.categories h.references used) (λ g. Stands (ranges_left h k (used + length g.categories)))
  unfolding read_range
  follows_range h k used =
      follows_bind _ (follows_number (lower_field h k used) is_bound is_bound_lem)
      (λ l. follows_bind _ (follows_number (upper_field h k used) is_bound is_bound_lem)
      (λ u. follows_bind _ (follows_number (count_field h k used) (count_rule h.references used) counted)
      (λ n. follows_bind _
      (follows_many (number number_width (λ c. ltb c h.categories)) (numbers_left h k (used + n))
      (λ j. follows_number (number_field h k (used + n) j) (λ c. ltb c h.categories) (known (used + n) j)) n)
      (λ cs. follows_give _ (λ at s (e, st). subst (λ m. Stands (ranges_left h k (used + m)) at s) (sym e) st)))))
    where
      counted : (n : ℕ) → T (count_rule h.references used n) ↔ Keeps (count_field h k used) n
      counted n = (
        λ t. (let a : used + n ≤ h.references = leb_yes t in omega arith),
        λ kept. (let a : used + n ≤ h.references = omega arith in yes_leb a),
      )

      known : (u j c : ℕ) → T (ltb c h.categories) ↔ Keeps (number_field h k u j) c
      known u j c = (
        λ t. (let a : c < h.categories = ltb_yes t in omega arith),
        λ kept. (let a : c < h.categories = omega arith in yes_ltb a),
      )

  follows_ranges : (h : Head) (k used : ℕ)
      → Follows (Stands (ranges_left h k used)) (read_ranges k h.categories h.references used) (λ gs. Stands (end (used + references gs) h.references))
  unfolding read_ranges references
  follows_ranges h zero used = follows_give [] (λ at s st. let e : used ≡ used + 0 = omega arith in subst (λ n. Stands (end n h.references) at s) e st)
  follows_ranges h (suc k) used =
      follows_bind _ (follows_range h k used)
      (λ g. follows_bind _ (follows_ranges h k (used + length g.categories))
      (λ gs. follows_give (g ∷ gs) (λ at s st.
      let e : used + length g.categories + references gs ≡ used + (length g.categories + references gs) = omega arith in
      subst (λ n. Stands (end n h.references) at s) e st)))

  -- ---- the whole

  -- every field was read, and the references add up
  record Read (at : ℕ) (s : List ℕ) : Type 0 where
    total : ℕ
    stands : Stands (end total total) at s

  follows_demand : (n total : ℕ) → Follows (Stands (end n total)) (demand (eqb n total)) (λ u. Read)
  unfolding demand
  follows_demand n total =
      record {
        passes = λ at s a to t st e. passes at s a to t st (eqb n total) refl e;
        refuses = λ at s i j st e. refuses at s i j st (eqb n total) refl e;
      }
    where
      passes : (at : ℕ) (s : List ℕ) (a : Unit {0}) (to : ℕ) (t : List ℕ) → Stands (end n total) at s → (b : Bool) → eqb n total ≡ b
          → ◌≡◌ {A = FieldStep (Unit {0})} (cond b (gave tt at s) (broke pack_rule at)) (gave a to t) → Read to t
      passes at s a to t st true d e =
          let en : n ≡ total = eqb→eq n total (true→T (eqb n total) d) in
          let em : at ≡ to = cc in
          let et : s ≡ t = cc in
          record { total = total; stands = subst (λ l. Stands (end total total) to l) et (subst (λ m. Stands (end total total) m s) em (subst (λ i. Stands (end i total) at s) en st)) }
      passes at s a to t st false d e = broke_gave e

      refuses : (at : ℕ) (s : List ℕ) (i j : ℕ) → Stands (end n total) at s → (b : Bool) → eqb n total ≡ b
          → ◌≡◌ {A = FieldStep (Unit {0})} (cond b (gave tt at s) (broke pack_rule at)) (broke i j) → Broken p i j
      refuses at s i j st true d e = broke_gave (sym e)
      refuses at s i j st false d e =
          let (ei, ej) = broke_same pack_rule at i j e in
          subst (λ i. Broken p i j) ei (subst (λ j. Broken p pack_rule j) ej (adds_up_wrong st.reaches (λ en. T_not (eqb n total) (yes_eqb en) (false→T _ d))))

  follows_body : (h : Head)
      → Follows (Stands (names_left h h.categories [])) (read_body h.categories h.lines h.ranges h.references) (λ r. Read)
  unfolding read_body name_bytes
  follows_body h =
      follows_bind _ (follows_names h h.categories 0 [] refl)
      (λ ns. follows_bind _ (follows_many read_definition (definitions_left h) (follows_definition h) h.lines)
      (λ ds. follows_bind _ (follows_ranges_of ds)
      (λ gs. follows_bind _ (follows_demand (references gs) h.references) (λ u. follows_give _ (λ at s r. r)))))
    where
      from_none : (gs : List Range) (at : ℕ) (s : List ℕ) → Stands (end (0 + references gs) h.references) at s → Stands (end (references gs) h.references) at s
      from_none gs at s st = let e : 0 + references gs ≡ references gs = omega arith in subst (λ n. Stands (end n h.references) at s) e st

      ranges_of_lem : Follows (Stands (ranges_left h h.ranges 0)) (read_ranges h.ranges h.categories h.references 0) (λ gs. Stands (end (references gs) h.references))
      ranges_of_lem = follows_after (follows_ranges h h.ranges 0) from_none

      follows_ranges_of : (ds : List Definition) → Follows (λ at s. (length ds ≡ h.lines) × Stands (ranges_left h h.ranges 0) at s) (read_ranges h.ranges h.categories h.references 0)
          (λ gs. Stands (end (references gs) h.references))
      follows_ranges_of ds =
          record { passes = λ at s a to t (e, st) d. ranges_of_lem.passes at s a to t st d; refuses = λ at s n m (e, st) d. ranges_of_lem.refuses at s n m st d }

  up_to_lem : (limit v : ℕ) → T (leb v limit) ↔ (v ≤ limit)
  up_to_lem limit v = (λ t. leb_yes t, λ h. yes_leb h)

  follows_counted : Follows (Stands (due categories_field)) read_counted (λ r. Read)
  unfolding read_counted
  follows_counted =
      follows_bind _ (follows_number categories_field (up_to max_categories) (up_to_lem max_categories))
      (λ c. follows_bind _ (follows_number (lines_field c) (up_to max_category_lines) (up_to_lem max_category_lines))
      (λ l. follows_bind _ (follows_number (ranges_field c l) (up_to max_ranges) (up_to_lem max_ranges))
      (λ g. follows_bind _ (follows_number (references_field c l g) (up_to max_references) (up_to_lem max_references))
      (λ n. follows_body (record { categories = c; lines = l; ranges = g; references = n })))))

  follows_fields : Follows (Stands (due version_field)) read_fields (λ r. Read)
  unfolding read_fields
  follows_fields = follows_bind _ (follows_number version_field (eqb version) one) (λ v. follows_counted)
    where
      one : (v : ℕ) → T (eqb version v) ↔ (v ≡ version)
      one v = (λ t. sym (eqb→eq version v t), λ e. yes_eqb (sym e))

  begin : Stands (due version_field) 0 (bits_of p)
  begin = record { reaches = record { fields = []; begins = nothing_yet; whole = refl; starts = refl }; left = unpack_bits p }

-- every field keeps its rule, the references add up, and zero bits fill the last byte
pub record Complete (p : List ℕ) : Type 0 where
  pub place : ℕ
  pub total : ℕ
  pub rest : List ℕ
  pub reaches : Reaches p place (end total total) rest
  pub fills : Fills rest

fills_padding : (s : List ℕ) → Fills s → T (is_padding s)
fills_padding s f = yes_and (ltb (length s) byte_width) (all (eqb 0) s) (yes_ltb f.few) f.zeros

padding_fills : (s : List ℕ) → T (is_padding s) → Fills s
padding_fills s t = let g = and_yes (ltb (length s) byte_width) (all (eqb 0) s) t in record { few = ltb_yes g.0; zeros = g.1 }

-- what the reader refuses is the first broken field
pub refused_broken : (p : List ℕ) (n at : ℕ) → read_pack p ≡ refused n at → Broken p n at
unfolding Stopped
refused_broken p n at h = go (stopped_of p n at h)
  where
    go : Stopped (bits_of p) n at → Broken p n at
    go (inl e) = (follows_fields p).refuses 0 (bits_of p) n at (begin p) e
    go (inr (r, t, e, c, en)) =
        let d = (follows_fields p).passes 0 (bits_of p) r at t (begin p) e in
        subst (λ n. Broken p n at) en (left_over d.stands.reaches (λ f. T_not (is_padding t) (fills_padding t f) (false→T _ c)))

-- what it accepts is complete
pub accepted_complete : (p : List ℕ) (r : Reading) → read_pack p ≡ accepted r → Complete p
unfolding read_pack read_all
accepted_complete p r h =
    let (to, t, e) = answered (read_all 0 (bits_of p)) r h in
    let x = split read_fields _ 0 (bits_of p) r to t e in
    let y = split padding _ x.place x.rest r to t x.second in
    let d = (follows_fields p).passes 0 (bits_of p) x.value x.place x.rest (begin p) x.first in
    record {
      place = x.place;
      total = d.total;
      rest = x.rest;
      reaches = d.stands.reaches;
      fills = padding_fills x.rest (padding_is x.place x.rest y.value y.place y.rest y.first);
    }
