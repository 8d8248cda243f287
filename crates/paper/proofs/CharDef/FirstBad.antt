-- A refused text names its first bad line: the lines before it are accepted by themselves, and nothing put after it and its
-- LF makes the text acceptable. On bytes. A first bad line fixes the lines of characters up to it, so every text that begins so and is
-- read at all is refused there.
-- Assumes nothing.
use Prim.Native.Nat.{ℕ, zero, suc, ◌+◌, ◌<◌, ◌≤◌}
use native.Mathlib.Nat.{le_refl, le_of_lt, le_of_suc-le-suc, not-suc-le-zero}
use native.Mathlib.Decide.{dec_lt}
use native.Mathlib.Omega.{arith}
use mathlib.Core.Path.{◌≡◌, refl, sym, ap, ap₂, ◌∙◌, subst, subst₂}
use mathlib.Core.Bool.{Bool, true, false, not, cond}
use mathlib.Core.List.{List, [], ◌∷◌, ◌++◌, map, append_assoc, append-nil, append_cancel_left}
use lib.Dec.{T, leb, ltb, lit≤}
use lib.ListN.{length, take, drop, get_or, length-append, length-map, take-append-drop}
use lib.Seq.{take-suc, length-take-le}
use mir.Facts.{and_yes, yes_and, not_T, ltb_no, no_ltb, leb_yes}
use borrow.Author.Tests.{eqb-true}
use Rattle.paper.specs.Sizes.{max_text_bytes}
use Rattle.paper.specs.Refusals.{text_long, text_ill_formed, range_parts}
use Rattle.paper.specs.Lists.{empty, all, cut}
use Rattle.paper.specs.Text.Scalar.{is_scalar, utf8_of, utf8, lf}
use Rattle.paper.specs.CharDef.Bad.{FirstBad, ended, lines_before, through_line}
use Rattle.paper.specs.CharDef.BadLine.{BadLine}
use Rattle.paper.specs.CharDef.Reading.{Reading, Fits, join_lf, no_lf, is_lf, accepted, refused}
use Rattle.paper.specs.Computed.Decode.{Text, broken, chars, decode}
use Rattle.paper.specs.Computed.ReadText.{line_of, body, body_line, Step, go_on, stop, enter, verdict, after_line, read_lines, nothing_read, read_chars, read_text}
use Rattle.paper.proofs.Apart.{nil_cons, refused_accepted}
use Rattle.paper.proofs.Lists.Facts.{T→true, T→false, all_append, cut_run, push_all_first, false→T, all_left, all_right, map_append}
use Rattle.paper.proofs.Lists.Pieces.{cut_pieces}
use Rattle.paper.proofs.Text.Code.{decode_complete, decode_sound, utf8_one}
use Rattle.paper.proofs.Text.Bytes.{utf8_append, cut_utf8}
use Rattle.paper.proofs.CharDef.Whole.{cut_joined, pieces_joined}
use Rattle.paper.proofs.CharDef.Accepts.{fits_accepted, accepted_fits, fits_one}
use Rattle.paper.proofs.CharDef.BadLine.{bad_line, bad_line_one}

-- ---- where lines stop

-- the lines that are read, the one that stops, and the rest
pub record Stops (k : ℕ) (css : List (List ℕ)) (r : Reading) (n place : ℕ) : Type 0 where
  pub pre : List (List ℕ)
  pub bad : List ℕ
  pub post : List (List ℕ)
  pub state : Reading
  pub whole : css ≡ pre ++ (bad ∷ post)
  pub at : place ≡ k + length pre
  pub read : read_lines k pre r ≡ accepted state
  pub stops : verdict state bad ≡ stop n

pub lines_stop : (css : List (List ℕ)) (k : ℕ) (r : Reading) (n place : ℕ) → read_lines k css r ≡ refused n place → Stops k css r n place
unfolding read_lines
lines_stop [] k r n place h = refused_accepted (sym h)
lines_stop (cs ∷ css) k r n place h = go (verdict r cs) refl h (λ r'. lines_stop css (suc k) r' n place)
  where
    go : (o : Step) → verdict r cs ≡ o → after_line k o (λ r'. read_lines (suc k) css r') ≡ refused n place
        → ((r' : Reading) → read_lines (suc k) css r' ≡ refused n place → Stops (suc k) css r' n place) → Stops k (cs ∷ css) r n place
    go (stop m) e h ih =
        let em : m ≡ n = cc in
        let ek : k ≡ place = cc in
        record { pre = []; bad = cs; post = css; state = r; whole = refl; at = omega arith; read = refl; stops = e ∙ ap stop em }
    go (go_on r') e h ih =
        let s = ih r' h in
        let i : place ≡ suc k + length s.pre = s.at in
        record {
          pre = cs ∷ s.pre;
          bad = s.bad;
          post = s.post;
          state = s.state;
          whole = ap (λ l. cs ∷ l) s.whole;
          at = omega arith;
          read = rw e s.read;
          stops = s.stops;
        }

pub lines_append : (a b : List (List ℕ)) (k : ℕ) (r s : Reading) → read_lines k a r ≡ accepted s
    → read_lines k (a ++ b) r ≡ read_lines (k + length a) b s
unfolding read_lines
lines_append [] b k r s h =
    let e : r ≡ s = cc in
    let z : k ≡ k + 0 = omega arith in
    ap₂ (λ i t. read_lines i b t) z e
lines_append (c ∷ a) b k r s h = go (verdict r c) h (λ r'. lines_append a b (suc k) r' s)
  where
    go : (o : Step) → after_line k o (λ r'. read_lines (suc k) a r') ≡ accepted s
        → ((r' : Reading) → read_lines (suc k) a r' ≡ accepted s → read_lines (suc k) (a ++ b) r' ≡ read_lines (suc k + length a) b s)
        → after_line k o (λ r'. read_lines (suc k) (a ++ b) r') ≡ read_lines (k + suc (length a)) b s
    go (stop n) h ih = refused_accepted h
    go (go_on r') h ih =
        let e : suc k + length a ≡ k + suc (length a) = omega arith in
        ih r' h ∙ ap (λ i. read_lines i b s) e

-- an empty line behind lines that are read
blank_end : (a : List (List ℕ)) (k : ℕ) (r s : Reading) → read_lines k a r ≡ accepted s → read_lines k (a ++ ([] ∷ [])) r ≡ accepted s
unfolding read_lines verdict line_of body body_line enter
blank_end a k r s h = lines_append a ([] ∷ []) k r s h

blank_off : (a : List (List ℕ)) (k : ℕ) (r s : Reading) → read_lines k (a ++ ([] ∷ [])) r ≡ accepted s → read_lines k a r ≡ accepted s
unfolding read_lines verdict line_of body body_line enter
blank_off [] k r s h = h
blank_off (c ∷ a) k r s h = go (verdict r c) h (λ r'. blank_off a (suc k) r' s)
  where
    go : (o : Step) → after_line k o (λ r'. read_lines (suc k) (a ++ ([] ∷ [])) r') ≡ accepted s
        → ((r' : Reading) → read_lines (suc k) (a ++ ([] ∷ [])) r' ≡ accepted s → read_lines (suc k) a r' ≡ accepted s)
        → after_line k o (λ r'. read_lines (suc k) a r') ≡ accepted s
    go (stop n) h ih = refused_accepted h
    go (go_on r') h ih = ih r' h

-- ---- lines and their LF

join_last : (pre : List (List ℕ)) (l : List ℕ) → join_lf (pre ++ (l ∷ [])) ≡ ended pre ++ l
join_last [] l = refl
join_last (p ∷ []) l = sym (append_assoc p (lf ∷ []) l)
join_last (p ∷ q ∷ pre) l =
    ap (λ x. p ++ (lf ∷ x)) (join_last (q ∷ pre) l) ∙ sym (append_assoc p (lf ∷ ended (q ∷ pre)) l)

-- what stands behind the last of the first lines
behind : List (List ℕ) → List ℕ
behind [] = []
behind (m ∷ ms) = lf ∷ join_lf (m ∷ ms)

join_front : (pre : List (List ℕ)) (l : List ℕ) (post : List (List ℕ)) → join_lf (pre ++ (l ∷ post)) ≡ join_lf (pre ++ (l ∷ [])) ++ behind post
unfolding behind
join_front [] l [] = sym (append-nil l)
join_front [] l (m ∷ post) = refl
join_front (p ∷ []) l post =
    ap (λ x. p ++ (lf ∷ x)) (join_front [] l post) ∙ sym (append_assoc p (lf ∷ l) (behind post))
join_front (p ∷ q ∷ pre) l post =
    ap (λ x. p ++ (lf ∷ x)) (join_front (q ∷ pre) l post) ∙ sym (append_assoc p (lf ∷ join_lf (q ∷ (pre ++ (l ∷ [])))) (behind post))

ten : (cs : List ℕ) → utf8 (lf ∷ cs) ≡ lf ∷ utf8 cs
unfolding utf8 utf8_of
ten cs = refl

ended_utf8 : (css : List (List ℕ)) → ended (map utf8 css) ≡ utf8 (ended css)
unfolding utf8
ended_utf8 [] = refl
ended_utf8 (l ∷ css) = ap (λ x. utf8 l ++ (lf ∷ x)) (ended_utf8 css) ∙ sym (utf8_append l (lf ∷ ended css) ∙ ap (λ x. utf8 l ++ x) (ten (ended css)))

join_utf8 : (css : List (List ℕ)) → join_lf (map utf8 css) ≡ utf8 (join_lf css)
unfolding utf8
join_utf8 [] = refl
join_utf8 (l ∷ []) = refl
join_utf8 (l ∷ m ∷ css) =
    ap (λ x. utf8 l ++ (lf ∷ x)) (join_utf8 (m ∷ css)) ∙ sym (utf8_append l (lf ∷ join_lf (m ∷ css)) ∙ ap (λ x. utf8 l ++ x) (ten (join_lf (m ∷ css))))

take_before : {A B : Type 0} (f : A → B) (pre : List A) (x : A) (post : List A) → take (length pre) (map f (pre ++ (x ∷ post))) ≡ map f pre
take_before f [] x post = refl
take_before f (p ∷ pre) x post = ap (λ l. f p ∷ l) (take_before f pre x post)

take_through : {A B : Type 0} (f : A → B) (pre : List A) (x : A) (post : List A) → take (suc (length pre)) (map f (pre ++ (x ∷ post))) ≡ map f (pre ++ (x ∷ []))
take_through f [] x post = refl
take_through f (p ∷ pre) x post = ap (λ l. f p ∷ l) (take_through f pre x post)

some_last : {A : Type 0} (pre : List A) (x : A) → T (not (empty (pre ++ (x ∷ []))))
some_last [] x = tt
some_last (p ∷ pre) x = tt

-- lines and LF and more
cut_through : (css : List (List ℕ)) (u : List ℕ) → T (not (empty css)) → T (all no_lf css) → cut is_lf (join_lf css ++ (lf ∷ u)) ≡ css ++ cut is_lf u
cut_through [] u n a = absurd n
cut_through (l ∷ []) u n a =
    let h = and_yes (no_lf l) true a in
    cut_run is_lf l (lf ∷ u) h.0 ∙ push_all_first is_lf l (cut is_lf u)
cut_through (l ∷ m ∷ css) u n a =
    let h = and_yes (no_lf l) (all no_lf (m ∷ css)) a in
    ap (cut is_lf) (append_assoc l (lf ∷ join_lf (m ∷ css)) (lf ∷ u))
    ∙ cut_run is_lf l (lf ∷ (join_lf (m ∷ css) ++ (lf ∷ u))) h.0
    ∙ push_all_first is_lf l (cut is_lf (join_lf (m ∷ css) ++ (lf ∷ u)))
    ∙ ap (λ x. l ∷ x) (cut_through (m ∷ css) u tt h.1)

-- ---- characters and bytes

pub LF_ascii : (b : ℕ) → T (leb 0x80 b) → T (not (is_lf b))
LF_ascii b t = not_T (is_lf b) (λ e. high (leb_yes t) (T→true _ e))
  where
    high : 0x80 ≤ b → is_lf b ≡ true → ⊥
    high h e = let i : b ≡ lf = eqb-true b lf e in omega arith

lines_scalar : (css : List (List ℕ)) → T (all is_scalar (join_lf css)) → T (all (λ l. all is_scalar l) css)
lines_scalar [] a = tt
lines_scalar (l ∷ []) a = yes_and (all is_scalar l) true a tt
lines_scalar (l ∷ m ∷ css) a =
    yes_and (all is_scalar l) (all (λ l. all is_scalar l) (m ∷ css)) (all_left is_scalar l (lf ∷ join_lf (m ∷ css)) a)
    (lines_scalar (m ∷ css) (and_yes (is_scalar lf) _ (all_right is_scalar l (lf ∷ join_lf (m ∷ css)) a)).1)

-- lines of characters whose bytes begin with those of other lines begin with these
same_front : (fs ts more : List (List ℕ)) → T (all (λ l. all is_scalar l) fs) → T (all (λ l. all is_scalar l) ts)
    → map utf8 ts ≡ map utf8 fs ++ more → (rest : List (List ℕ)) × (ts ≡ fs ++ rest)
same_front [] ts more a b e = (ts, refl)
same_front (c ∷ fs) [] more a b e = nil_cons e
same_front (c ∷ fs) (t ∷ ts) more a b e =
    let ha = and_yes (all is_scalar c) _ a in
    let hb = and_yes (all is_scalar t) _ b in
    let first : utf8 t ≡ utf8 c = cc in
    let later : map utf8 ts ≡ map utf8 fs ++ more = cc in
    let (rest, i) = same_front fs ts more ha.1 hb.1 later in
    (rest, ap₂ (λ x y. x ∷ y) (utf8_one t c hb.0 ha.0 first) i)

-- the answer to lines of characters
pub read_lines_lem : (css : List (List ℕ)) → T (not (empty css)) → T (all no_lf css) → T (all is_scalar (join_lf css)) → length (utf8 (join_lf css)) ≤ max_text_bytes
    → read_text (utf8 (join_lf css)) ≡ read_lines 1 css nothing_read
unfolding read_text read_chars decode
read_lines_lem css n a sc short =
    rw (T→false (ltb max_text_bytes (length (utf8 (join_lf css)))) (no_ltb short), decode_complete (join_lf css) 0 sc, cut_joined css n a)

-- ---- the first bad line

module _ (bytes cs : List ℕ) (n place : ℕ) (short : length bytes ≤ max_text_bytes) (scalars : T (all is_scalar cs)) (encoded : bytes ≡ utf8 cs) (s : Stops 1 (cut is_lf cs) nothing_read n place) where
  -- the bad line and those before it
  front : List (List ℕ)
  front = s.pre ++ (s.bad ∷ [])

  place_is : place ≡ suc (length s.pre)
  place_is = let h : place ≡ 1 + length s.pre = s.at in omega arith

  byte_lines : cut is_lf bytes ≡ map utf8 (s.pre ++ (s.bad ∷ s.post))
  byte_lines = ap (cut is_lf) encoded ∙ cut_utf8 is_lf LF_ascii cs ∙ ap (map utf8) s.whole

  through_is : through_line place bytes ≡ utf8 (join_lf front)
  unfolding through_line front
  through_is =
      ap₂ (λ k l. join_lf (take k l)) place_is byte_lines
      ∙ ap join_lf (take_through utf8 s.pre s.bad s.post)
      ∙ join_utf8 (s.pre ++ (s.bad ∷ []))

  before_is : lines_before place bytes ≡ utf8 (ended s.pre)
  unfolding lines_before
  before_is =
      ap (λ k. lines_before k bytes) place_is
      ∙ ap (λ l. ended (take (length s.pre) l)) byte_lines
      ∙ ap ended (take_before utf8 s.pre s.bad s.post)
      ∙ ended_utf8 s.pre

  split : cs ≡ join_lf (s.pre ++ (s.bad ∷ s.post))
  split = (pieces_joined (cut_pieces is_lf cs)).0 ∙ ap join_lf s.whole

  no_LF : T (all no_lf (s.pre ++ (s.bad ∷ s.post)))
  no_LF = subst (λ l. T (all no_lf l)) s.whole (pieces_joined (cut_pieces is_lf cs)).2

  no_LF_bad : T (no_lf s.bad) × T (all no_lf s.post)
  no_LF_bad = and_yes (no_lf s.bad) (all no_lf s.post) (all_right no_lf s.pre (s.bad ∷ s.post) no_LF)

  cs_is : cs ≡ join_lf front ++ behind s.post
  unfolding front
  cs_is = split ∙ join_front s.pre s.bad s.post

  scalar_front : T (all is_scalar (join_lf front))
  scalar_front = all_left is_scalar (join_lf front) (behind s.post) (subst (λ l. T (all is_scalar l)) cs_is scalars)

  whole_is : bytes ≡ through_line place bytes ++ utf8 (behind s.post)
  whole_is =
      encoded ∙ ap utf8 cs_is ∙ utf8_append (join_lf front) (behind s.post) ∙ ap (λ l. l ++ utf8 (behind s.post)) (sym through_is)

  parts_is : through_line place bytes ≡ lines_before place bytes ++ utf8 s.bad
  unfolding front
  parts_is =
      through_is ∙ ap utf8 (join_last s.pre s.bad) ∙ utf8_append (ended s.pre) s.bad
      ∙ ap (λ l. l ++ utf8 s.bad) (sym before_is)

  through_short : length (through_line place bytes) ≤ max_text_bytes
  through_short = let e = ap length whole_is ∙ length-append (through_line place bytes) (utf8 (behind s.post)) in omega arith

  before_short : length (lines_before place bytes) ≤ max_text_bytes
  before_short =
      let e = ap length parts_is ∙ length-append (lines_before place bytes) (utf8 s.bad) in
      let t = through_short in
      omega arith

  before_read : read_text (lines_before place bytes) ≡ accepted s.state
  unfolding front
  before_read =
      let pre : List (List ℕ) = s.pre in
      let e : join_lf (pre ++ ([] ∷ [])) ≡ ended pre = join_last pre [] ∙ append-nil (ended pre) in
      let i : lines_before place bytes ≡ utf8 (join_lf (pre ++ ([] ∷ []))) = before_is ∙ ap utf8 (sym e) in
      let sc : T (all is_scalar (ended pre)) = all_left is_scalar (ended pre) s.bad (subst (λ l. T (all is_scalar l)) (join_last pre s.bad) scalar_front) in
      ap read_text i
      ∙ read_lines_lem (pre ++ ([] ∷ [])) (some_last pre []) (all_append no_lf pre ([] ∷ []) (all_left no_lf pre (s.bad ∷ s.post) no_LF) tt)
      (subst (λ l. T (all is_scalar l)) (sym e) sc) (subst (λ l. length l ≤ max_text_bytes) i before_short)
      ∙ blank_end pre 1 nothing_read s.state s.read

  first_bad_line : FirstBad n place bytes
  first_bad_line =
      record {
        from_one = (let e = place_is in omega arith);
        there = (
            let e = place_is in
            let k : length (cut is_lf bytes) ≡ length s.pre + suc (length s.post) = ap length byte_lines ∙ length-map (s.pre ++ (s.bad ∷ s.post)) utf8 ∙ length-append s.pre (s.bad ∷ s.post) in
            omega arith
            );
        line = s.bad;
        scalars = all_right is_scalar (ended s.pre) s.bad (subst (λ l. T (all is_scalar l)) (join_last s.pre s.bad) (unfold front in scalar_front));
        one_line = no_LF_bad.0;
        through = parts_is;
        rest = utf8 (behind s.post);
        whole = whole_is;
        reading = s.state;
        before = accepted_fits (lines_before place bytes) s.state before_read;
        wrong = (bad_line s.state s.bad n).0 s.stops;
      }

pub first_bad : (bytes : List ℕ) (n place : ℕ) → read_text bytes ≡ refused n place → range_parts ≤ n → FirstBad n place bytes
unfolding read_text read_chars
first_bad bytes n place h big = size_case (ltb max_text_bytes (length bytes)) refl h
  where
    small : (k at : ℕ) → k ≤ text_ill_formed → refused k at ≡ refused n place → ⊥
    small k at l e = let i : k ≡ n = cc in omega arith

    text_case : length bytes ≤ max_text_bytes → (o : Text) → decode bytes ≡ o → read_chars o ≡ refused n place → FirstBad n place bytes
    text_case short (broken at) e h = absurd (small text_ill_formed at (le_refl text_ill_formed) h)
    text_case short (chars cs) e h =
        let (sc, w) = decode_sound bytes 0 0 cs e in
        first_bad_line bytes cs n place short sc w (lines_stop (cut is_lf cs) 1 nothing_read n place h)

    size_case : (b : Bool) → ltb max_text_bytes (length bytes) ≡ b → cond b (refused text_long 0) (read_chars (decode bytes)) ≡ refused n place → FirstBad n place bytes
    size_case true e h = absurd (small text_long 0 (lit≤ tt) h)
    size_case false e h = text_case (ltb_no (false→T _ e)) (decode bytes) refl h

-- ---- what a first bad line fixes

-- lines of characters, as bytes
byte_texts : (texts : List (List ℕ)) → T (not (empty texts)) → T (all no_lf texts) → map utf8 texts ≡ cut is_lf (utf8 (join_lf texts))
byte_texts texts some no_LF = ap (map utf8) (sym (cut_joined texts some no_LF)) ∙ sym (cut_utf8 is_lf LF_ascii (join_lf texts))

map_last : (xs : List (List ℕ)) (bs : List (List ℕ)) (b : List ℕ) → map utf8 xs ≡ bs ++ (b ∷ [])
    → (pre : List (List ℕ)) × (x : List ℕ) × (xs ≡ pre ++ (x ∷ [])) × (map utf8 pre ≡ bs) × (utf8 x ≡ b)
map_last [] [] b e = nil_cons e
map_last [] (c ∷ bs) b e = nil_cons e
map_last (x ∷ []) [] b e = ([], x, refl, refl, cc)
map_last (x ∷ y ∷ xs) [] b e = let i : [] ≡ utf8 y ∷ map utf8 xs = cc in nil_cons i
map_last (x ∷ xs) (c ∷ bs) b e = let i : map utf8 xs ≡ bs ++ (b ∷ []) = cc in again (map_last xs bs b i)
  where
    again : (pre : List (List ℕ)) × (y : List ℕ) × (xs ≡ pre ++ (y ∷ [])) × (map utf8 pre ≡ bs) × (utf8 y ≡ b)
        → (pre : List (List ℕ)) × (y : List ℕ) × (x ∷ xs ≡ pre ++ (y ∷ [])) × (map utf8 pre ≡ c ∷ bs) × (utf8 y ≡ b)
    again (pre, y, j, k, l) = let h : utf8 x ≡ c = cc in (x ∷ pre, y, ap (λ z. x ∷ z) j, ap₂ (λ u v. u ∷ v) h k, l)

module _ {n k : ℕ} {bytes : List ℕ} (f : FirstBad n (suc k) bytes) where
  byte_no_LF : T (all no_lf (take k (cut is_lf bytes)))
  byte_no_LF =
      all_left no_lf (take k (cut is_lf bytes)) (drop k (cut is_lf bytes))
      (subst (λ l. T (all no_lf l)) (sym (take-append-drop k (cut is_lf bytes))) (pieces_joined (cut_pieces is_lf bytes)).2)

  -- the byte lines up to the bad one
  front_bytes : take (suc k) (cut is_lf bytes) ≡ take k (cut is_lf bytes) ++ (utf8 f.line ∷ [])
  unfolding through_line lines_before
  front_bytes =
      let pre : List (List ℕ) = take k (cut is_lf bytes) in
      let b : List ℕ = get_or (cut is_lf bytes) k [] in
      let e : take (suc k) (cut is_lf bytes) ≡ pre ++ (b ∷ []) = take-suc (cut is_lf bytes) k [] f.there in
      let i : b ≡ utf8 f.line = append_cancel_left (ended pre) b (utf8 f.line) (sym (join_last pre b) ∙ ap join_lf (sym e) ∙ f.through) in
      e ∙ ap (λ l. pre ++ (l ∷ [])) i

  -- the lines of characters before it, and that they are read
  pre_lines : (pre : List (List ℕ)) × (map utf8 pre ≡ take k (cut is_lf bytes)) × T (all (λ l. all is_scalar l) pre) × (read_lines 1 pre nothing_read ≡ accepted f.reading)
  unfolding lines_before
  pre_lines =
      let g = f.before in
      let texts : List (List ℕ) = g.texts in
      let bs : List (List ℕ) = take k (cut is_lf bytes) in
      let e : lines_before (suc k) bytes ≡ utf8 (join_lf texts) = g.encoded ∙ ap utf8 g.split in
      let sc : T (all is_scalar (join_lf texts)) = subst (λ l. T (all is_scalar l)) g.split g.scalars in
      let i : map utf8 texts ≡ bs ++ ([] ∷ []) =
      byte_texts texts g.some_line g.ended
      ∙ ap (cut is_lf) (sym e ∙ sym (join_last bs [] ∙ append-nil (ended bs)))
      ∙ cut_joined (bs ++ ([] ∷ [])) (some_last bs []) (all_append no_lf bs ([] ∷ []) byte_no_LF tt) in
      let (pre, x, j, h, z) = map_last texts bs [] i in
      let each : T (all (λ l. all is_scalar l) (pre ++ (x ∷ []))) = subst (λ l. T (all (λ l. all is_scalar l) l)) j (lines_scalar texts sc) in
      let last : T (all is_scalar x) = (and_yes (all is_scalar x) true (all_right (λ l. all is_scalar l) pre (x ∷ []) each)).0 in
      let empty_line : x ≡ [] = utf8_one x [] last tt (z ∙ unfold utf8 in refl) in
      let read : read_lines 1 texts nothing_read ≡ accepted f.reading =
      sym (read_lines_lem texts g.some_line g.ended sc (subst (λ l. length l ≤ max_text_bytes) e g.short))
      ∙ ap read_text (sym e) ∙ fits_accepted (lines_before (suc k) bytes) f.reading g in (
        pre,
        h,
        all_left (λ l. all is_scalar l) pre (x ∷ []) each,
        blank_off pre 1 nothing_read f.reading (ap (λ l. read_lines 1 l nothing_read) (sym (j ∙ ap (λ l. pre ++ (l ∷ [])) empty_line)) ∙ read),
      )

  -- so lines of characters whose bytes begin with these lines are refused there
  front_refused : (texts more : List (List ℕ)) → T (all (λ l. all is_scalar l) texts) → map utf8 texts ≡ take (suc k) (cut is_lf bytes) ++ more
      → read_lines 1 texts nothing_read ≡ refused n (suc k)
  unfolding read_lines
  front_refused texts more sc e =
      let (pre, h, each, read) = pre_lines in
      let line : List ℕ = f.line in
      let front : T (all (λ l. all is_scalar l) (pre ++ (line ∷ []))) =
      all_append (λ l. all is_scalar l) pre (line ∷ []) each (yes_and (all is_scalar line) true f.scalars tt) in
      let bytes_front : map utf8 (pre ++ (line ∷ [])) ≡ take (suc k) (cut is_lf bytes) =
      map_append utf8 pre (line ∷ []) ∙ ap (λ l. l ++ (utf8 line ∷ [])) h ∙ sym front_bytes in
      let (rest, i) = same_front (pre ++ (line ∷ [])) texts more front sc (e ∙ ap (λ l. l ++ more) (sym bytes_front)) in
      let stops : verdict f.reading line ≡ stop n = (bad_line f.reading line n).1 f.wrong in
      let many : length pre ≡ k = sym (length-map pre utf8) ∙ ap length h ∙ length-take-le k (cut is_lf bytes) (le_of_lt f.there) in
      let at : 1 + length pre ≡ suc k = omega arith in
      ap (λ l. read_lines 1 l nothing_read) (i ∙ append_assoc pre (line ∷ []) rest)
      ∙ lines_append pre (line ∷ rest) 1 nothing_read f.reading read
      ∙ rw stops (ap (refused n) at)

-- nothing put after it and its LF makes the text acceptable
pub nothing_after : {n place : ℕ} {bytes : List ℕ} → FirstBad n place bytes → (u : List ℕ) (r : Reading) → Fits (through_line place bytes ++ (lf ∷ u)) r → ⊥
unfolding through_line
nothing_after {place = zero} f u r g = not-suc-le-zero f.from_one
nothing_after {n} {place = suc k} {bytes} f u r g =
    let texts : List (List ℕ) = g.texts in
    let front : List (List ℕ) = take (suc k) (cut is_lf bytes) in
    let e : join_lf front ++ (lf ∷ u) ≡ utf8 (join_lf texts) = g.encoded ∙ ap utf8 g.split in
    let sc : T (all is_scalar (join_lf texts)) = subst (λ l. T (all is_scalar l)) g.split g.scalars in
    let no_LF : T (all no_lf front) =
    all_left no_lf front (drop (suc k) (cut is_lf bytes))
    (subst (λ l. T (all no_lf l)) (sym (take-append-drop (suc k) (cut is_lf bytes))) (pieces_joined (cut_pieces is_lf bytes)).2) in
    let some : T (not (empty front)) = subst (λ l. T (not (empty l))) (sym (front_bytes f)) (some_last (take k (cut is_lf bytes)) (utf8 f.line)) in
    let i : map utf8 texts ≡ front ++ cut is_lf u = byte_texts texts g.some_line g.ended ∙ ap (cut is_lf) (sym e) ∙ cut_through front u some no_LF in
    let no : read_lines 1 texts nothing_read ≡ refused n (suc k) = front_refused f texts (cut is_lf u) (lines_scalar texts sc) i in
    let read : read_text (utf8 (join_lf texts)) ≡ read_lines 1 texts nothing_read =
    read_lines_lem texts g.some_line g.ended sc (subst (λ l. length l ≤ max_text_bytes) e g.short) in
    refused_accepted (sym no ∙ sym read ∙ ap read_text (sym e) ∙ fits_accepted (join_lf front ++ (lf ∷ u)) r g)

-- a text of characters is refused at its first bad line
pub bad_refused : {n place : ℕ} {bytes : List ℕ} → length bytes ≤ max_text_bytes → (cs : List ℕ) → bytes ≡ utf8 cs → T (all is_scalar cs)
    → FirstBad n place bytes → read_text bytes ≡ refused n place
bad_refused {place = zero} short cs e sc f = absurd (not-suc-le-zero f.from_one)
bad_refused {place = suc k} {bytes} short cs e sc f =
    let texts : List (List ℕ) = cut is_lf cs in
    let (j, some, no_LF) = pieces_joined (cut_pieces is_lf cs) in
    let i : bytes ≡ utf8 (join_lf texts) = e ∙ ap utf8 j in
    let sc' : T (all is_scalar (join_lf texts)) = subst (λ l. T (all is_scalar l)) j sc in
    ap read_text i
    ∙ read_lines_lem texts some no_LF sc' (subst (λ l. length l ≤ max_text_bytes) i short)
    ∙ front_refused f texts (drop (suc k) (cut is_lf bytes)) (lines_scalar texts sc')
    (byte_texts texts some no_LF ∙ ap (cut is_lf) (sym i) ∙ sym (take-append-drop (suc k) (cut is_lf bytes)))

-- ---- a text has one first bad line at most

ended_through : (p k : ℕ) (ls : List (List ℕ)) → suc p ≤ length ls → p ≤ k → (u : List ℕ) × (ended (take (suc k) ls) ≡ join_lf (take (suc p) ls) ++ (lf ∷ u))
ended_through p k [] h i = absurd (not-suc-le-zero h)
ended_through zero k (l ∷ ls) h i = (ended (take k ls), refl)
ended_through (suc p) zero (l ∷ ls) h i = absurd (not-suc-le-zero i)
ended_through (suc p) (suc k) (l ∷ []) h i = absurd (not-suc-le-zero (le_of_suc-le-suc h))
ended_through (suc p) (suc k) (l ∷ m ∷ ls) h i =
    let (u, e) = ended_through p k (m ∷ ls) (le_of_suc-le-suc h) (le_of_suc-le-suc i) in
    (u, ap (λ x. l ++ (lf ∷ x)) e ∙ sym (append_assoc l (lf ∷ join_lf (m ∷ take p ls)) (lf ∷ u)))

no_earlier : (bytes : List ℕ) (n m place later : ℕ) → FirstBad n place bytes → FirstBad m later bytes → place < later → ⊥
unfolding through_line lines_before
no_earlier bytes n m zero later f g h = not-suc-le-zero f.from_one
no_earlier bytes n m (suc p) zero f g h = not-suc-le-zero h
no_earlier bytes n m (suc p) (suc zero) f g h = not-suc-le-zero (le_of_suc-le-suc h)
no_earlier bytes n m (suc p) (suc (suc k)) f g h =
    let (u, e) = ended_through p k (cut is_lf bytes) f.there (le_of_suc-le-suc (le_of_suc-le-suc h)) in
    nothing_after f u g.reading (subst (λ x. Fits x g.reading) e g.before)

same_number : (bytes : List ℕ) (n m place : ℕ) → FirstBad n place bytes → FirstBad m place bytes → n ≡ m
same_number bytes n m place f g =
    let r : f.reading ≡ g.reading = fits_one (lines_before place bytes) f.reading g.reading f.before g.before in
    let l : utf8 f.line ≡ utf8 g.line = append_cancel_left (lines_before place bytes) (utf8 f.line) (utf8 g.line) (sym f.through ∙ g.through) in
    let c : f.line ≡ g.line = utf8_one f.line g.line f.scalars g.scalars l in
    bad_line_one g.reading g.line n m (subst₂ (λ s t. BadLine s t n) r c f.wrong) g.wrong

pub first_bad_one : (bytes : List ℕ) (n m place other : ℕ) → FirstBad n place bytes → FirstBad m other bytes → (n ≡ m) × (place ≡ other)
first_bad_one bytes n m place other f g = go (lt_or place other) (lt_or other place)
  where
    lt_or : (a b : ℕ) → Dec (a < b)
    lt_or a b = dec_lt a b

    go : Dec (place < other) → Dec (other < place) → (n ≡ m) × (place ≡ other)
    go (yes h) d = absurd (no_earlier bytes n m place other f g h)
    go (no h) (yes i) = absurd (no_earlier bytes m n other place g f i)
    go (no h) (no i) =
        let e : place ≡ other = omega arith in
        (same_number bytes n m place f (subst (λ p. FirstBad m p bytes) (sym e) g), e)
