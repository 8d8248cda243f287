-- Characters that say a line are read as that line: so they say one line at most.
-- Assumes nothing.
use Prim.Native.Nat.{ℕ, zero, suc, ◌≤◌}
use mathlib.Core.Path.{◌≡◌, refl, sym, ap, ◌∙◌, subst}
use mathlib.Core.Bool.{Bool, true, false, not, ◌&&◌}
use mathlib.Core.List.{List, [], ◌∷◌, ◌++◌, append_assoc, append-nil}
use lib.Dec.{T, eqb, eqb→eq}
use mir.Facts.{and_yes, yes_and, T_not, not_T}
use borrow.Author.Tests.{ne_eqb}
use Rattle.paper.specs.Sizes.{max_u16, max_u32}
use Rattle.paper.specs.Lists.{empty, all, full, nothing_or, words, until, trim_start, trim_end}
use Rattle.paper.specs.Text.Scalar.{is_white, is_sep, plus_sign, dot, digit0, letter_x, byte_order_mark, swapped_mark}
use Rattle.paper.specs.Numbers.Numeral.{is_digit, plus, Numeral, decimal, hexadecimal}
use Rattle.paper.specs.CharDef.Line.{Line, blank, category, range, is_hash, is_name_char, is_field_char, comment, begins0x, begins_white, zero_xs, Bound, Bounds, one_bound, two_bounds, Names, BlankLine, RangeLine, CategoryLine, LineFits}
use Rattle.paper.specs.CharDef.Line as line
use Rattle.paper.specs.CharDef.BadLine.{Body}
use Rattle.paper.specs.Computed.Numeral.{numeral}
use Rattle.paper.specs.Computed.ReadText.{found, BoundFound, strip0x, parts, bound_of, from_parts, range_of, category_of, body, body_line, line_of}
use Rattle.paper.proofs.Lists.Facts.{T→false, all_append, full_all, all_imp, full_imp, un, until_append, trim_start_append, trim_end_append, words_word, words_run}
use Rattle.paper.proofs.Lists.Pieces.{full_opens}
use Rattle.paper.proofs.Numbers.Read.{digit_apart, numeral_chars, numeral_read, decimal_small, hex_small}
use Rattle.paper.proofs.CharDef.Bodies.{body_is}
use Rattle.paper.proofs.CharDef.Chars.{white_no_hash, sep_no_hash, sep_no_x, name_no_hash, name_no_white, field_no_hash, field_no_sep, digit_name, digit_field}

-- ---- bounds

strip_none : (n : List ℕ) → T (not (begins0x n)) → strip0x n ≡ n
strip_none [] t = refl
strip_none (c ∷ []) t = refl
strip_none (c ∷ d ∷ n) t = rw (T→false (eqb c digit0 && eqb d letter_x) t)

pub strip_all : (k : ℕ) (n : List ℕ) → T (not (begins0x n)) → strip0x (zero_xs k ++ n) ≡ n
strip_all zero n t = strip_none n t
strip_all (suc k) n t = strip_all k n t

numeral_no_0x : (sign ds : List ℕ) → T (plus sign) → T (full (is_digit hexadecimal) ds) → T (not (begins0x (sign ++ ds)))
numeral_no_0x [] [] p d = tt
numeral_no_0x [] (c ∷ []) p d = tt
numeral_no_0x [] (c ∷ e ∷ ds) p d =
    let h = and_yes (is_digit hexadecimal c) (all (is_digit hexadecimal) (e ∷ ds)) d in
    let g = and_yes (is_digit hexadecimal e) (all (is_digit hexadecimal) ds) h.1 in
    not_T (eqb c digit0 && eqb e letter_x)
    (λ t. T_not (eqb e letter_x) (and_yes (eqb c digit0) (eqb e letter_x) t).1 (digit_apart hexadecimal letter_x hex_small (unfold is_digit in refl) e g.0))
numeral_no_0x (c ∷ []) [] p d = tt
numeral_no_0x (c ∷ []) (e ∷ ds) p d = rw (eqb→eq c plus_sign p) tt
numeral_no_0x (c ∷ f ∷ s) ds p d = absurd p

pub no_0x : {cs : List ℕ} {code : ℕ} → Numeral hexadecimal max_u16 cs code → T (not (begins0x cs))
no_0x r = rw r.whole (numeral_no_0x r.sign r.digits r.signed r.spelled)

zero_xs_chars : (q : ℕ → Bool) → T (q digit0) → T (q letter_x) → (k : ℕ) → T (all q (zero_xs k))
zero_xs_chars q a b zero = tt
zero_xs_chars q a b (suc k) = yes_and (q digit0) (all q (letter_x ∷ zero_xs k)) a (yes_and (q letter_x) (all q (zero_xs k)) b (zero_xs_chars q a b k))

append_full : (q : ℕ → Bool) (s t : List ℕ) → T (all q s) → T (full q t) → T (full q (s ++ t))
append_full q [] t a b = b
append_full q (c ∷ s) t a b = all_append q (c ∷ s) t a (full_all q t b)

-- what holds of `0`, `x`, `+` and hex digits holds of a bound's characters
bound_chars : (q : ℕ → Bool) → T (q digit0) → T (q letter_x) → T (q plus_sign) → ((c : ℕ) → T (is_digit hexadecimal c) → T (q c))
    → {least : ℕ} {cs : List ℕ} {v : ℕ} → Bound least cs v → T (full q cs)
bound_chars q q0 qx q+ f b =
    rw b.whole
    (append_full q (zero_xs b.times) b.numeral (zero_xs_chars q q0 qx b.times) (numeral_chars hexadecimal max_u16 hex_small q q+ f b.number))

pub bound_read : {least : ℕ} {cs : List ℕ} {v : ℕ} → Bound least cs v → bound_of cs ≡ BoundFound.bound_is v
unfolding bound_of
bound_read b =
    rw (
      b.whole,
      strip_all b.times b.numeral (no_0x b.number),
      numeral_read hexadecimal max_u16 hex_small b.number,
      ne_eqb b.code byte_order_mark b.no_mark,
      ne_eqb b.code swapped_mark b.no_swap,
      b.says,
    )

parts_one : (s : List ℕ) → T (all (λ c. not (eqb c dot)) s) → parts s ≡ s ∷ []
parts_one [] a = refl
parts_one (c ∷ []) a = refl
parts_one (c ∷ d ∷ s) a =
    let h = and_yes (not (eqb c dot)) (all (λ c. not (eqb c dot)) (d ∷ s)) a in
    rw (T→false (eqb c dot) h.0, parts_one (d ∷ s) h.1)

parts_two : (s t : List ℕ) → T (all (λ c. not (eqb c dot)) s) → parts (s ++ (dot ∷ dot ∷ t)) ≡ s ∷ parts t
parts_two [] t a = refl
parts_two (c ∷ []) t a = rw (T→false (eqb c dot) (and_yes (not (eqb c dot)) true a).0)
parts_two (c ∷ d ∷ s) t a =
    let h = and_yes (not (eqb c dot)) (all (λ c. not (eqb c dot)) (d ∷ s)) a in
    rw (T→false (eqb c dot) h.0, parts_two (d ∷ s) t h.1)

no_dots : {least : ℕ} {cs : List ℕ} {v : ℕ} → Bound least cs v → T (all (λ c. not (eqb c dot)) cs)
no_dots {least} {cs} b =
    full_all (λ c. not (eqb c dot)) cs
    (bound_chars (λ c. not (eqb c dot)) tt tt tt (digit_apart hexadecimal dot hex_small (unfold is_digit in refl)) b)

bounds_read : {cs : List ℕ} {lower upper : ℕ} (names : List (List ℕ)) → Bounds cs lower upper
    → from_parts (parts cs) names ≡ found (range lower upper names)
unfolding from_parts
bounds_read {cs} names (one_bound b e) = rw (parts_one cs (no_dots b), bound_read b, e)
bounds_read {cs} names (two_bounds l r w a b) =
    rw (w, parts_two l r (no_dots a), parts_one r (no_dots b), bound_read a, bound_read b)

-- what holds of `0`, `x`, `+`, hex digits and `.` holds of the bounds' characters
bounds_chars : (q : ℕ → Bool) → T (q digit0) → T (q letter_x) → T (q plus_sign) → T (q dot) → ((c : ℕ) → T (is_digit hexadecimal c) → T (q c))
    → {cs : List ℕ} {lower upper : ℕ} → Bounds cs lower upper → T (full q cs)
bounds_chars q q0 qx q+ qd f (one_bound b e) = bound_chars q q0 qx q+ f b
bounds_chars q q0 qx q+ qd f (two_bounds l r w a b) =
    rw w
    (append_full q l (dot ∷ dot ∷ r) (full_all q l (bound_chars q q0 qx q+ f a))
    (yes_and (q dot) (q dot && all q r) qd (yes_and (q dot) (all q r) qd (full_all q r (bound_chars q q0 qx q+ f b)))))

-- the first of them is `0x`
zero_xs_0x : (k : ℕ) (s : List ℕ) → 1 ≤ k → begins0x (zero_xs k ++ s) ≡ true
zero_xs_0x zero s h = absurd (native.Mathlib.Nat.not-suc-le-zero h)
zero_xs_0x (suc k) s h = refl

bound_0x : {cs : List ℕ} {v : ℕ} (s : List ℕ) → Bound 1 cs v → begins0x (cs ++ s) ≡ true
bound_0x s b = rw (b.whole, append_assoc) (zero_xs_0x b.times (b.numeral ++ s) b.enough)

bounds_0x : {cs : List ℕ} {lower upper : ℕ} (s : List ℕ) → Bounds cs lower upper → begins0x (cs ++ s) ≡ true
bounds_0x s (one_bound b e) = bound_0x s b
bounds_0x s (two_bounds l r w a b) = rw (w, append_assoc) (bound_0x ((dot ∷ dot ∷ r) ++ s) a)

-- ---- names

names_edge : {cs : List ℕ} {ns : List (List ℕ)} → Names cs ns → T (nothing_or is_white cs)
names_edge (line.no_names e) = rw e tt
names_edge (line.more_names {name = n} w r e fw fn t) = rw e (full_opens is_white w (n ++ r) fw)

names_no_hash : {cs : List ℕ} {ns : List (List ℕ)} → Names cs ns → T (all (un is_hash) cs)
names_no_hash (line.no_names e) = rw e tt
names_no_hash (line.more_names {name = n} w r e fw fn t) =
    rw e
    (all_append (un is_hash) w (n ++ r) (all_imp is_white (un is_hash) white_no_hash w (full_all is_white w fw))
    (all_append (un is_hash) n r (all_imp is_name_char (un is_hash) name_no_hash n (full_all is_name_char n fn)) (names_no_hash t)))

names_words : {cs : List ℕ} {ns : List (List ℕ)} → Names cs ns → words is_white cs ≡ ns
names_words (line.no_names e) = rw e
names_words (line.more_names {name = n} w r e fw fn t) =
    ap (words is_white) e
    ∙ words_run is_white w (n ++ r) (full_all is_white w fw)
    ∙ words_word is_white n r (full_imp is_name_char (un is_white) name_no_white n fn) (names_edge t)
    ∙ ap (λ l. n ∷ l) (names_words t)

-- white space behind a field and its names goes, and nothing else
names_trim : (front f after : List ℕ) → T (full (un is_white) f) → T (all is_white after) → {cs : List ℕ} {ns : List (List ℕ)}
    → Names cs ns → trim_end is_white (front ++ (f ++ (cs ++ after))) ≡ front ++ (f ++ cs)
names_trim front f after s a (line.no_names e) = rw e (trim_end_append is_white front f after s a ∙ ap (λ l. front ++ l) (sym (append-nil f)))
names_trim front f after s a (line.more_names {name = n} w r e fw fn t) =
    let regroup : front ++ (f ++ (w ++ (n ++ r) ++ after)) ≡ front ++ (f ++ w) ++ (n ++ (r ++ after)) = simp append_assoc in
    rw e
    (ap (trim_end is_white) regroup
    ∙ names_trim (front ++ (f ++ w)) n after (full_imp is_name_char (un is_white) name_no_white n fn) a t
    ∙ simp append_assoc)

-- ---- lines

-- the body is what stands between white space, before the comment
body_of : (before core after rest : List ℕ) → T (all is_white before) → T (all (un is_hash) core) → T (all is_white after) → T (comment rest)
    → T (nothing_or (un is_white) (core ++ after)) → trim_end is_white (core ++ after) ≡ core
    → body (before ++ (core ++ (after ++ rest))) ≡ core
unfolding body
body_of before core after rest wb nh wa cm op trimmed =
    let regroup : before ++ (core ++ (after ++ rest)) ≡ before ++ (core ++ after) ++ rest = simp append_assoc in
    ap (λ l. trim_end is_white (trim_start is_white (until is_hash l))) regroup
    ∙ ap (λ l. trim_end is_white (trim_start is_white l))
    (until_append is_hash (before ++ (core ++ after)) rest
    (all_append (un is_hash) before (core ++ after) (all_imp is_white (un is_hash) white_no_hash before wb)
    (all_append (un is_hash) core after nh (all_imp is_white (un is_hash) white_no_hash after wa))) cm)
    ∙ ap (trim_end is_white) (trim_start_append is_white before (core ++ after) wb op)
    ∙ trimmed

pub range_body : (s : List ℕ) → begins0x s ≡ true → body_line s ≡ range_of (words is_white s)
unfolding body_line
range_body [] e = absurd (subst T (sym e) tt)
range_body (c ∷ s) e = rw e

pub category_body : (s : List ℕ) → T (not (empty s)) → begins0x s ≡ false → body_line s ≡ category_of (words is_sep s)
unfolding body_line
category_body [] n e = absurd n
category_body (c ∷ s) n e = rw e

blank_complete : {cs : List ℕ} → BlankLine cs → line_of cs ≡ found blank
unfolding line_of
blank_complete {cs} l = ap body_line (body_is cs [] none)
  where
    none : Body cs []
    none =
        record { before = l.white; after = []; rest = l.rest; whole = l.whole; white_before = l.is_whites; no_hash = tt; opens = tt; closes = tt; white_after = tt; is_comment = l.is_comment }

range_complete : {cs : List ℕ} {lower upper : ℕ} {names : List (List ℕ)} → RangeLine cs lower upper names
    → line_of cs ≡ found (range lower upper names)
unfolding line_of
range_complete {cs} {lower} {upper} {names} l =
    ap body_line the_body
    ∙ range_body (l.bounds ++ l.named) (bounds_0x l.named l.bounded)
    ∙ ap range_of
    (words_word is_white l.bounds l.named solid (names_edge l.names_in) ∙ ap (λ w. l.bounds ∷ w) (names_words l.names_in))
    ∙ unfold range_of in bounds_read names l.bounded
  where
    chars : T (full is_name_char l.bounds)
    chars = bounds_chars is_name_char (unfold is_name_char in tt) (unfold is_name_char in tt) (unfold is_name_char in tt) (unfold is_name_char in tt) (digit_name hexadecimal hex_small) l.bounded

    solid : T (full (un is_white) l.bounds)
    solid = full_imp is_name_char (un is_white) name_no_white l.bounds chars

    regroup : l.before ++ (l.bounds ++ (l.named ++ (l.after ++ l.rest))) ≡ l.before ++ (l.bounds ++ l.named ++ (l.after ++ l.rest))
    regroup = simp append_assoc

    the_body : body cs ≡ l.bounds ++ l.named
    the_body =
        ap body (l.whole ∙ regroup)
        ∙ body_of l.before (l.bounds ++ l.named) l.after l.rest l.white_before
        (all_append (un is_hash) l.bounds l.named (all_imp is_name_char (un is_hash) name_no_hash l.bounds (full_all is_name_char l.bounds chars)) (names_no_hash l.names_in))
        l.white_after l.is_comment
        (rw append_assoc (full_opens (un is_white) l.bounds (l.named ++ l.after) solid))
        (ap (trim_end is_white) (append_assoc l.bounds l.named l.after) ∙ names_trim [] l.bounds l.after solid l.white_after l.names_in)

flag_field : {cs : List ℕ} {n : ℕ} → Numeral decimal max_u32 cs n → T (full is_field_char cs)
flag_field r = numeral_chars decimal max_u32 decimal_small is_field_char (unfold is_field_char in tt) (digit_field decimal decimal_small) r

flag_name : {cs : List ℕ} {n : ℕ} → Numeral decimal max_u32 cs n → T (full is_name_char cs)
flag_name r = numeral_chars decimal max_u32 decimal_small is_name_char (unfold is_name_char in tt) (digit_name decimal decimal_small) r

-- a name and a separator do not begin `0x` where the name does not
name_no_0x : (name gap s : List ℕ) → T (full is_field_char name) → T (not (begins0x name)) → T (full is_sep gap) → begins0x (name ++ (gap ++ s)) ≡ false
name_no_0x [] gap s f n g = absurd f
name_no_0x (c ∷ []) [] s f n g = absurd g
name_no_0x (c ∷ []) (d ∷ gap) s f n g =
    T→false (eqb c digit0 && eqb d letter_x)
    (not_T (eqb c digit0 && eqb d letter_x)
    (λ t. T_not (eqb d letter_x) (and_yes (eqb c digit0) (eqb d letter_x) t).1 (sep_no_x d (and_yes (is_sep d) (all is_sep gap) g).0)))
name_no_0x (c ∷ d ∷ name) gap s f n g = T→false (eqb c digit0 && eqb d letter_x) n

no_hash_field : (s : List ℕ) → T (full is_field_char s) → T (all (un is_hash) s)
no_hash_field s f = all_imp is_field_char (un is_hash) field_no_hash s (full_all is_field_char s f)

no_hash_sep : (s : List ℕ) → T (full is_sep s) → T (all (un is_hash) s)
no_hash_sep s f = all_imp is_sep (un is_hash) sep_no_hash s (full_all is_sep s f)

no_sep : (s : List ℕ) → T (full is_field_char s) → T (full (un is_sep) s)
no_sep s f = full_imp is_field_char (un is_sep) field_no_sep s f

opens : (s t : List ℕ) → T (full is_field_char s) → T (not (begins_white s)) → T (nothing_or (un is_white) (s ++ t))
opens [] t f o = absurd f
opens (c ∷ s) t f o = o

not_empty : (s t : List ℕ) → T (full is_field_char s) → T (not (empty (s ++ t)))
not_empty [] t f = absurd f
not_empty (c ∷ s) t f = tt

-- a separator and a field
gap_word : (gap f r : List ℕ) → T (full is_sep gap) → T (full is_field_char f) → T (nothing_or is_sep r) → words is_sep (gap ++ (f ++ r)) ≡ f ∷ words is_sep r
gap_word gap f r g h e = words_run is_sep gap (f ++ r) (full_all is_sep gap g) ∙ words_word is_sep f r (no_sep f h) e

module _ {cs name : List ℕ} {invoke group : Bool} {len : ℕ} (l : CategoryLine cs name invoke group len) where
  front : List ℕ
  front = name ++ (l.gap₁ ++ (l.field₁ ++ (l.gap₂ ++ (l.field₂ ++ l.gap₃))))

  core : List ℕ
  core = name ++ (l.gap₁ ++ (l.field₁ ++ (l.gap₂ ++ (l.field₂ ++ (l.gap₃ ++ l.field₃)))))

  f₁ : T (full is_field_char l.field₁)
  f₁ = flag_field l.invokes.spelled

  f₂ : T (full is_field_char l.field₂)
  f₂ = flag_field l.groups.spelled

  f₃ : T (full is_field_char l.field₃)
  f₃ = flag_field l.lengths

  core_regroup : core ++ l.after ≡ front ++ (l.field₃ ++ l.after)
  unfolding core front
  core_regroup = simp append_assoc

  core_front : front ++ l.field₃ ≡ core
  unfolding core front
  core_front = simp append_assoc

  whole_regroup : cs ≡ l.before ++ (core ++ (l.after ++ l.rest))
  unfolding core
  whole_regroup = l.whole ∙ simp append_assoc

  core_no_hash : T (all (un is_hash) core)
  unfolding core
  core_no_hash =
      all_append (un is_hash) name _ (no_hash_field name l.name_chars)
      (all_append (un is_hash) l.gap₁ _ (no_hash_sep l.gap₁ l.sep₁)
      (all_append (un is_hash) l.field₁ _ (no_hash_field l.field₁ f₁)
      (all_append (un is_hash) l.gap₂ _ (no_hash_sep l.gap₂ l.sep₂)
      (all_append (un is_hash) l.field₂ _ (no_hash_field l.field₂ f₂)
      (all_append (un is_hash) l.gap₃ _ (no_hash_sep l.gap₃ l.sep₃) (no_hash_field l.field₃ f₃))))))

  core_opens : T (nothing_or (un is_white) (core ++ l.after))
  unfolding core
  core_opens = rw append_assoc (opens name _ l.name_chars l.name_opens)

  core_body : body cs ≡ core
  core_body =
      ap body whole_regroup
      ∙ body_of l.before core l.after l.rest l.white_before core_no_hash l.white_after l.is_comment core_opens
      (ap (trim_end is_white) core_regroup
      ∙ trim_end_append is_white front l.field₃ l.after (full_imp is_name_char (un is_white) name_no_white l.field₃ (flag_name l.lengths)) l.white_after
      ∙ core_front)

  core_words : words is_sep core ≡ name ∷ l.field₁ ∷ l.field₂ ∷ l.field₃ ∷ []
  unfolding core
  core_words =
      words_word is_sep name _ (no_sep name l.name_chars) (full_opens is_sep l.gap₁ _ l.sep₁)
      ∙ ap (λ w. name ∷ w) (gap_word l.gap₁ l.field₁ _ l.sep₁ f₁ (full_opens is_sep l.gap₂ _ l.sep₂)
      ∙ ap (λ w. l.field₁ ∷ w) (gap_word l.gap₂ l.field₂ _ l.sep₂ f₂ (full_opens is_sep l.gap₃ _ l.sep₃)
      ∙ ap (λ w. l.field₂ ∷ w) (words_run is_sep l.gap₃ l.field₃ (full_all is_sep l.gap₃ l.sep₃)
      ∙ ap (words is_sep) (sym (append-nil l.field₃))
      ∙ words_word is_sep l.field₃ [] (no_sep l.field₃ f₃) tt)))

  core_category : category_of (name ∷ l.field₁ ∷ l.field₂ ∷ l.field₃ ∷ []) ≡ found (category name invoke group len)
  unfolding category_of
  core_category =
      rw (
        numeral_read decimal max_u32 decimal_small l.invokes.spelled,
        numeral_read decimal max_u32 decimal_small l.groups.spelled,
        numeral_read decimal max_u32 decimal_small l.lengths,
        l.invokes.says,
        l.groups.says,
      )

  category_complete : line_of cs ≡ found (category name invoke group len)
  unfolding line_of core
  category_complete =
      ap body_line core_body
      ∙ category_body core (not_empty name _ l.name_chars) (name_no_0x name l.gap₁ _ l.name_chars l.name_no0x l.sep₁)
      ∙ ap category_of core_words
      ∙ core_category

-- what says a line is read as that line
pub line_complete : (cs : List ℕ) (l : Line) → LineFits cs l → line_of cs ≡ found l
line_complete cs blank f = blank_complete f
line_complete cs (category name invoke group len) f = category_complete f
line_complete cs (range lower upper names) f = range_complete f

-- so it says one line at most
pub line_unique : (cs : List ℕ) (l m : Line) → LineFits cs l → LineFits cs m → l ≡ m
line_unique cs l m f g =
    let e : line_of cs ≡ found l = line_complete cs l f in
    let d : line_of cs ≡ found m = line_complete cs m g in
    cc
