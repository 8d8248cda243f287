-- On UTF-8 a line's bytes say what its characters say: `line_bridge`. Every step of `line_bytes` is a step of `line_of`, since no byte of a
-- character from U+0080 on is `.`, a digit, a sign or a letter (nor `#`: `BodyBridge` of crate `scan`).
-- Assumes nothing.
use Prim.Native.Nat.{ℕ, ◌<◌, ◌≤◌}
use native.Mathlib.Omega.{arith}
use mathlib.Core.Path.{◌≡◌, refl, sym, ap, ◌∙◌, subst}
use mathlib.Core.Bool.{Bool, true, false, cond, ◌&&◌}
use mathlib.Core.Option.{Option, none, some}
use mathlib.Core.List.{List, [], ◌∷◌, ◌++◌, map}
use lib.Dec.{T, leb, eqb}
use mir.Facts.{and_yes, leb_yes}
use borrow.Author.Tests.{lt-leb, le-ltb, ne_eqb}
use Rattle.paper.specs.Sizes.{max_u16, max_u32}
use Rattle.paper.specs.Lists.{all, full, push, words}
use Rattle.paper.specs.Text.Scalar.{between, is_white, is_sep, utf8_of, utf8, plus_sign, dot, digit0, letter_x}
use Rattle.paper.specs.CharDef.Line.{begins0x}
use Rattle.paper.specs.Numbers.Numeral.{digit_of, is_digit}
use Rattle.paper.specs.Computed.Decode.{is_tail}
use Rattle.paper.specs.Computed.Numeral.{drop_plus, spelled_by, numeral}
use Rattle.paper.specs.Computed.ReadText.{Found, BoundFound, bound_is, no_bound, strip0x, parts, checked_bound, bound_of, from_bounds, from_parts, range_of, from_numbers, category_of, body, body_line, line_of}
use Rattle.paper.proofs.Lists.Facts.{true→T, push_all, full_all}
use Rattle.paper.proofs.Text.Bytes.{push_all_utf8}
use Rattle.numeral.proofs.Bounds.{strip_off, strip_off₂}
use Rattle.scan.specs.Marks.{gap_width, words_bytes}
use Rattle.scan.proofs.Widths.{white_lead, white_tail, sep_lead, sep_tail}
use Rattle.scan.proofs.Bridge.{low, high, front, words_utf8}
use Rattle.scan.proofs.BodyBridge.{body_utf8}
use Rattle.line.specs.Bytes.{body_line_bytes, line_bytes, in_bytes}

-- ---- numbers: no byte from 80 is a digit, a sign or an `x`

digit_high : (base b : ℕ) → base ≤ 16 → 0x80 ≤ b → is_digit base b ≡ false
unfolding is_digit digit_of
digit_high base b h k =
    let e₁ : 57 < b = omega arith in
    let e₂ : 70 < b = omega arith in
    let e₃ : 102 < b = omega arith in
    let off : (lo hi : ℕ) → hi < b → between lo hi b ≡ false = λ lo hi q. no_and (leb lo b) (leb b hi) (lt-leb b hi q) in
    rw (off 48 57 e₁, off 65 70 e₂, off 97 102 e₃) (le-ltb 16 base h)
  where
    no_and : (x y : Bool) → y ≡ false → (x && y) ≡ false
    no_and true y e = e
    no_and false y e = refl

module _ (p : ℕ → Bool) (ascii : (b : ℕ) → 0x80 ≤ b → p b ≡ false) where
  pub all_utf8 : (f : List ℕ) → all p (utf8 f) ≡ all p f
  unfolding utf8
  all_utf8 [] = refl
  all_utf8 (c ∷ cs) = elim (front c) [
    | low h e ↦ rw e (ap (λ x. p c && x) (all_utf8 cs))
    | high h a u e k t ↦ rw (e, ascii a k, ascii c h)
  ]

  pub full_utf8 : (f : List ℕ) → full p (utf8 f) ≡ full p f
  unfolding utf8
  full_utf8 [] = refl
  full_utf8 (c ∷ cs) = elim (front c) [
    | low h e ↦ rw e (ap (λ x. p c && x) (all_utf8 cs))
    | high h a u e k t ↦ rw (e, ascii a k, ascii c h)
  ]

  clash : (c : ℕ) → 0x80 ≤ c → T (p c) → ⊥
  clash c h t = subst T (ascii c h) t

  pub same_utf8 : (f : List ℕ) → T (all p f) → utf8 f ≡ f
  unfolding utf8
  same_utf8 [] a = refl
  same_utf8 (c ∷ cs) a =
      let k = and_yes (p c) (all p cs) a in
      let ih = same_utf8 cs k.1 in
      elim (front c) [
        | low h e ↦ rw e (ap (λ l. c ∷ l) ih)
        | high h x u e g t ↦ absurd (clash c h k.0)
      ]

module _ (base limit : ℕ) (h : base ≤ 16) where
  spelled_utf8 : (f : List ℕ) → spelled_by base limit (utf8 f) ≡ spelled_by base limit f
  unfolding spelled_by
  spelled_utf8 f = go (full (is_digit base) f) refl
    where
      go : (x : Bool) → full (is_digit base) f ≡ x → spelled_by base limit (utf8 f) ≡ spelled_by base limit f
      go true e = ap (spelled_by base limit) (same_utf8 (is_digit base) (λ b k. digit_high base b h k) f (full_all (is_digit base) f (true→T (full (is_digit base) f) e)))
      go false e = rw (full_utf8 (is_digit base) (λ b k. digit_high base b h k) f, e)

  plus_utf8 : (f : List ℕ) → drop_plus (utf8 f) ≡ utf8 (drop_plus f)
  unfolding utf8
  plus_utf8 [] = refl
  plus_utf8 (c ∷ cs) = elim (front c) [
    | low k e ↦ rw e (go (eqb c plus_sign) e)
    | high k a u e l t ↦ rw (e, ne_eqb a plus_sign (λ q. omega arith), ne_eqb c plus_sign (λ q. omega arith)) (rw e)
  ]
    where
      go : (x : Bool) → utf8_of c ≡ c ∷ [] → cond x (utf8 cs) (c ∷ utf8 cs) ≡ utf8 (cond x cs (c ∷ cs))
      go true e = refl
      go false e = rw e

  pub numeral_utf8 : (f : List ℕ) → numeral base limit (utf8 f) ≡ numeral base limit f
  unfolding numeral
  numeral_utf8 f = ap (spelled_by base limit) (plus_utf8 f) ∙ spelled_utf8 (drop_plus f)

-- ---- `0x` and `..`

begins_off : (a : ℕ) (s : List ℕ) → eqb a digit0 ≡ false → begins0x (a ∷ s) ≡ false
begins_off a [] e = refl
begins_off a (b ∷ s) e = rw e

begins_off₂ : (a b : ℕ) (s : List ℕ) → eqb b letter_x ≡ false → begins0x (a ∷ b ∷ s) ≡ false
begins_off₂ a b s e = go (eqb a digit0)
  where
    go : (x : Bool) → (x && eqb b letter_x) ≡ false
    go true = e
    go false = refl

high_digit0 : (a : ℕ) → 0x80 ≤ a → eqb a digit0 ≡ false
high_digit0 a h = ne_eqb a digit0 (λ e. omega arith)

high_letter_x : (a : ℕ) → 0x80 ≤ a → eqb a letter_x ≡ false
high_letter_x a h = ne_eqb a letter_x (λ e. omega arith)

pub strip_utf8 : (f : List ℕ) → strip0x (utf8 f) ≡ utf8 (strip0x f)
unfolding utf8
strip_utf8 [] = refl
strip_utf8 (c ∷ []) = elim (front c) [
  | low h e ↦ rw e
  | high h a u e k t ↦ rw e (strip_off a (u ++ []) (high_digit0 a k))
]
strip_utf8 (c ∷ d ∷ cs) = let ih = strip_utf8 cs in elim (front c) [
  | low h e ↦ elim (front d) [
    | low i f ↦ rw (e, f) (both (eqb c digit0 && eqb d letter_x) e f ih)
    | high i b v f l w ↦ rw (e, f) (strip_off₂ c b (v ++ utf8 cs) (high_letter_x b l) ∙ shown e f ∙ ap utf8 (sym (strip_off₂ c d cs (high_letter_x d i))))
  ]
  | high h a u e k t ↦ rw e (strip_off a (u ++ (utf8_of d ++ utf8 cs)) (high_digit0 a k) ∙ shown' e ∙ ap utf8 (sym (strip_off c (d ∷ cs) (high_digit0 c h))))
]
  where
    both : (x : Bool) → utf8_of c ≡ c ∷ [] → utf8_of d ≡ d ∷ [] → strip0x (utf8 cs) ≡ utf8 (strip0x cs)
        → cond x (strip0x (utf8 cs)) (c ∷ d ∷ utf8 cs) ≡ utf8 (cond x (strip0x cs) (c ∷ d ∷ cs))
    both true e f ih = ih
    both false e f ih = rw (e, f)

    shown : {b : ℕ} {v : List ℕ} → utf8_of c ≡ c ∷ [] → utf8_of d ≡ b ∷ v → c ∷ b ∷ (v ++ utf8 cs) ≡ utf8_of c ++ (utf8_of d ++ utf8 cs)
    shown e f = rw (e, f)

    shown' : {a : ℕ} {u : List ℕ} → utf8_of c ≡ a ∷ u → a ∷ (u ++ (utf8_of d ++ utf8 cs)) ≡ utf8_of c ++ (utf8_of d ++ utf8 cs)
    shown' e = rw e

pub begins_utf8 : (f : List ℕ) → begins0x (utf8 f) ≡ begins0x f
unfolding utf8
begins_utf8 [] = refl
begins_utf8 (c ∷ []) = elim (front c) [
  | low h e ↦ rw e
  | high h a u e k t ↦ rw e (begins_off a (u ++ []) (high_digit0 a k))
]
begins_utf8 (c ∷ d ∷ cs) = elim (front c) [
  | low h e ↦ elim (front d) [
    | low i f ↦ rw (e, f)
    | high i b v f l w ↦ rw (e, f) (begins_off₂ c b (v ++ utf8 cs) (high_letter_x b l) ∙ sym (begins_off₂ c d cs (high_letter_x d i)))
  ]
  | high h a u e k t ↦ rw e (begins_off a (u ++ (utf8_of d ++ utf8 cs)) (high_digit0 a k) ∙ sym (begins_off c (d ∷ cs) (high_digit0 c h)))
]

-- a first character that begins no `..`, or is alone
pub parts_off : (a : ℕ) (s : List ℕ) → eqb a dot ≡ false → parts (a ∷ s) ≡ push a (parts s)
parts_off a [] e = refl
parts_off a (b ∷ s) e = rw e

pub parts_off₂ : (a b : ℕ) (s : List ℕ) → eqb b dot ≡ false → parts (a ∷ b ∷ s) ≡ push a (parts (b ∷ s))
parts_off₂ a b s e = go (eqb a dot)
  where
    go : (x : Bool) → cond (x && eqb b dot) ([] ∷ parts s) (push a (parts (b ∷ s))) ≡ push a (parts (b ∷ s))
    go true = rw e
    go false = refl

high_dot : (a : ℕ) → 0x80 ≤ a → eqb a dot ≡ false
high_dot a h = ne_eqb a dot (λ e. omega arith)

parts_run : (u s : List ℕ) → T (all is_tail u) → parts (u ++ s) ≡ push_all u (parts s)
parts_run [] s t = refl
parts_run (b ∷ u) s t =
    let h = and_yes (is_tail b) (all is_tail u) t in
    let k : 0x80 ≤ b = leb_yes (and_yes (leb 0x80 b) (leb b 0xBF) h.0).0 in
    parts_off b (u ++ s) (high_dot b k) ∙ ap (push b) (parts_run u s h.1)

some_push : (c : ℕ) (q : List (List ℕ)) → (l : List ℕ) × (ls : List (List ℕ)) × (push c q ≡ l ∷ ls)
some_push c [] = (c ∷ [], [], refl)
some_push c (l ∷ ls) = (c ∷ l, ls, refl)

pub parts_some : (f : List ℕ) → (l : List ℕ) × (ls : List (List ℕ)) × (parts f ≡ l ∷ ls)
parts_some [] = ([], [], refl)
parts_some (c ∷ []) = (c ∷ [], [], refl)
parts_some (c ∷ d ∷ cs) = go (eqb c dot && eqb d dot)
  where
    go : (x : Bool) → (l : List ℕ) × (ls : List (List ℕ)) × (cond x ([] ∷ parts cs) (push c (parts (d ∷ cs))) ≡ l ∷ ls)
    go true = ([], parts cs, refl)
    go false = some_push c (parts (d ∷ cs))

-- a character in front of the pieces
push_utf8 : (c : ℕ) (cs : List ℕ) (s : List (List ℕ)) → s ≡ map utf8 (parts cs) → push_all (utf8_of c) s ≡ map utf8 (push c (parts cs))
push_utf8 c cs s ih = let (l, ls, e) = parts_some cs in
    ap (push_all (utf8_of c)) (ih ∙ ap (map utf8) e) ∙ push_all_utf8 c l ls ∙ ap (λ q. map utf8 (push c q)) (sym e)

pub parts_utf8 : (f : List ℕ) → parts (utf8 f) ≡ map utf8 (parts f)
unfolding utf8
parts_utf8 [] = refl
parts_utf8 (c ∷ []) = elim (front c) [
  | low h e ↦ rw e
  | high h a u e k t ↦ rw e (parts_off a (u ++ []) (high_dot a k) ∙ ap (push a) (parts_run u [] t) ∙ rw e at (push_utf8 c [] ([] ∷ []) refl))
]
parts_utf8 (c ∷ d ∷ cs) = let ih = parts_utf8 cs in let jh = parts_utf8 (d ∷ cs) in elim (front c) [
  | low h e ↦ elim (front d) [
    | low i f ↦ rw (e, f) (both (eqb c dot && eqb d dot) ih (rw e at (push_utf8 c (d ∷ cs) (parts (d ∷ utf8 cs)) (rw f at jh))))
    | high i b v f l w ↦
        rw (e, f)
        (parts_off₂ c b (v ++ utf8 cs) (high_dot b l) ∙ rw e at (push_utf8 c (d ∷ cs) (parts (b ∷ (v ++ utf8 cs))) (rw f at jh))
        ∙ ap (map utf8) (sym (parts_off₂ c d cs (high_dot d i))))
  ]
  | high h a u e k t ↦
      rw e
      (parts_off a (u ++ (utf8_of d ++ utf8 cs)) (high_dot a k) ∙ ap (push a) (parts_run u (utf8_of d ++ utf8 cs) t)
      ∙ rw e at (push_utf8 c (d ∷ cs) (parts (utf8_of d ++ utf8 cs)) jh)
      ∙ ap (map utf8) (sym (parts_off c (d ∷ cs) (high_dot c h))))
]
  where
    both : (x : Bool) → parts (utf8 cs) ≡ map utf8 (parts cs) → push c (parts (d ∷ utf8 cs)) ≡ map utf8 (push c (parts (d ∷ cs)))
        → cond x ([] ∷ parts (utf8 cs)) (push c (parts (d ∷ utf8 cs))) ≡ map utf8 (cond x ([] ∷ parts cs) (push c (parts (d ∷ cs))))
    both true e f = ap (λ l. [] ∷ l) e
    both false e f = f

-- ---- the two kinds of lines

pub bound_utf8 : (f : List ℕ) → bound_of (utf8 f) ≡ bound_of f
unfolding bound_of
bound_utf8 f = ap (λ l. checked_bound (numeral 16 max_u16 l)) (strip_utf8 f) ∙ ap checked_bound (numeral_utf8 16 max_u16 (omega arith) (strip0x f))

edges_utf8 : (e f : BoundFound) (names : List (List ℕ)) → from_bounds e f (map utf8 names) ≡ in_bytes (from_bounds e f names)
edges_utf8 (no_bound n) f names = refl
edges_utf8 (bound_is l) (no_bound n) names = refl
edges_utf8 (bound_is l) (bound_is u) names = refl

parts_found : (ps names : List (List ℕ)) → from_parts (map utf8 ps) (map utf8 names) ≡ in_bytes (from_parts ps names)
unfolding from_parts
parts_found [] names = refl
parts_found (a ∷ []) names = rw (bound_utf8 a) (edges_utf8 (bound_of a) (bound_of a) names)
parts_found (a ∷ b ∷ []) names = rw (bound_utf8 a, bound_utf8 b) (edges_utf8 (bound_of a) (bound_of b) names)
parts_found (a ∷ b ∷ c ∷ r) names = refl

pub range_utf8 : (ws : List (List ℕ)) → range_of (map utf8 ws) ≡ in_bytes (range_of ws)
unfolding range_of
range_utf8 [] = refl
range_utf8 (f ∷ names) = ap (λ l. from_parts l (map utf8 names)) (parts_utf8 f) ∙ parts_found (parts f) names

numbers_utf8 : (name : List ℕ) (i g l : Option ℕ) → from_numbers (utf8 name) i g l ≡ in_bytes (from_numbers name i g l)
numbers_utf8 name none g l = refl
numbers_utf8 name (some i) none l = refl
numbers_utf8 name (some i) (some g) none = refl
numbers_utf8 name (some i) (some g) (some l) = refl

pub category_utf8 : (ws : List (List ℕ)) → category_of (map utf8 ws) ≡ in_bytes (category_of ws)
unfolding category_of
category_utf8 [] = refl
category_utf8 (n ∷ []) = refl
category_utf8 (n ∷ i ∷ []) = refl
category_utf8 (n ∷ i ∷ g ∷ []) = refl
category_utf8 (n ∷ i ∷ g ∷ l ∷ []) =
    rw (numeral_utf8 10 max_u32 (omega arith) i, numeral_utf8 10 max_u32 (omega arith) g, numeral_utf8 10 max_u32 (omega arith) l)
    (numbers_utf8 n (numeral 10 max_u32 i) (numeral 10 max_u32 g) (numeral 10 max_u32 l))
category_utf8 (n ∷ i ∷ g ∷ l ∷ m ∷ r) = refl

-- ---- the line

white_words : (cs : List ℕ) → words_bytes (gap_width true) (utf8 cs) ≡ map utf8 (words is_white cs)
unfolding gap_width
white_words cs = words_utf8 (gap_width true) is_white white_lead white_tail cs

sep_words : (cs : List ℕ) → words_bytes (gap_width false) (utf8 cs) ≡ map utf8 (words is_sep cs)
unfolding gap_width
sep_words cs = words_utf8 (gap_width false) is_sep sep_lead sep_tail cs

abbrev pub solid_line : List ℕ → Found
solid_line s = cond (begins0x s) (range_of (words_bytes (gap_width true) s)) (category_of (words_bytes (gap_width false) s))

pub solid_line_lem : (s t : List ℕ) (a : ℕ) → s ≡ a ∷ t → body_line_bytes s ≡ solid_line s
unfolding body_line_bytes
solid_line_lem s t a e = rw e

body_line_lem : (cs : List ℕ) → body_line_bytes (utf8 cs) ≡ in_bytes (body_line cs)
unfolding body_line body_line_bytes utf8
body_line_lem [] = refl
body_line_lem (c ∷ cs) = some ∙ rw (begins_utf8 (c ∷ cs), white_words (c ∷ cs), sep_words (c ∷ cs)) (go (begins0x (c ∷ cs)))
  where
    some : body_line_bytes (utf8 (c ∷ cs)) ≡ solid_line (utf8 (c ∷ cs))
    some = elim (front c) [
      | low h e ↦ solid_line_lem (utf8_of c ++ utf8 cs) (utf8 cs) c (rw e)
      | high h a u e k t ↦ solid_line_lem (utf8_of c ++ utf8 cs) (u ++ utf8 cs) a (rw e)
    ]

    go : (x : Bool) → cond x (range_of (map utf8 (words is_white (c ∷ cs)))) (category_of (map utf8 (words is_sep (c ∷ cs))))
        ≡ in_bytes (cond x (range_of (words is_white (c ∷ cs))) (category_of (words is_sep (c ∷ cs))))
    go true = range_utf8 (words is_white (c ∷ cs))
    go false = category_utf8 (words is_sep (c ∷ cs))

-- what the bytes of a line say is what its characters say, with names spelled in bytes
pub line_bridge : (cs : List ℕ) → line_bytes (utf8 cs) ≡ in_bytes (line_of cs)
unfolding line_bytes line_of
line_bridge cs = ap body_line_bytes (body_utf8 cs) ∙ body_line_lem (body cs)
