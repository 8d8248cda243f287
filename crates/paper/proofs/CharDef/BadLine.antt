-- A line is stopped by a number exactly where it is bad by that number: it fits nothing, or it fits and passes a limit. So it is bad by one
-- number at most, and otherwise fits and keeps the limits.
-- Assumes nothing.
use Prim.Native.Nat.{ℕ, ◌≤◌}
use native.Mathlib.Omega.{arith}
use mathlib.Core.Path.{◌≡◌, refl, sym, ap, ◌∙◌, subst}
use mathlib.Core.Logic.{◌↔◌, ◌≢◌, ◌⊎◌, inl, inr}
use mathlib.Core.Bool.{Bool, true, false, not, cond}
use mathlib.Core.Option.{Option, none, some}
use mathlib.Core.List.{List, [], ◌∷◌, ◌++◌}
use lib.Dec.{T}
use lib.ListN.{length}
use Rattle.paper.specs.Sizes.{max_u32, max_category_lines, max_ranges, line_fields}
use Rattle.paper.specs.Refusals.{range_parts, bound_unreadable, bound_mark, category_fields, category_number, ranges_full, category_lines_full, categories_full, name_bytes_full}
use Rattle.paper.specs.Lists.{words, empty}
use Rattle.paper.specs.Text.Scalar.{is_white, is_sep, dot}
use Rattle.paper.specs.Numbers.Numeral.{decimal, NoU32}
use Rattle.paper.specs.CharDef.Line.{Line, LineFits, begins0x}
use Rattle.paper.specs.CharDef.Reading.{Reading, reading_of, Within, EachFits, done, next, refused}
use Rattle.paper.specs.CharDef.BadLine.{Body, Fields, last_field, more_fields, RangeFields, CategoryFields, Parts, one_part, two_parts, Misfit, many_parts, lower_bad, upper_bad, not_four, no_number, BadBound, no_hex, mark, swapped, NoRoom, too_many, too_many_bytes, PastLimit, range_over, references_over, range_name, line_over, category_name, BadLine, misfit, past_limit}
use Rattle.paper.specs.Computed.Numeral.{numeral}
use Rattle.paper.specs.Computed.ReadText.{Found, found, wrong, BoundFound, parts, from_bounds, from_parts, range_of, from_numbers, category_of, body, body_line, line_of, Step, go_on, stop, enter, enter_found, verdict, read_lines}
use Rattle.paper.proofs.Apart.{zero_one, none_some, wrong_found, refused_accepted}
use Rattle.paper.proofs.Lists.Facts.{T→true, T→false, true→T, false→T}
use Rattle.paper.proofs.Numbers.Read.{numeral_sound, numeral_read, decimal_small}
use Rattle.paper.proofs.CharDef.Chars.{sep_white}
use Rattle.paper.proofs.CharDef.Dots.{Cuts, uncut, cut_at, parts_cuts}
use Rattle.paper.proofs.CharDef.Sound.{line_sound}
use Rattle.paper.proofs.CharDef.Complete.{line_complete, bound_read, range_body, category_body}
use Rattle.paper.proofs.CharDef.Whole.{lines_sound, lines_complete}
use Rattle.paper.proofs.CharDef.Bodies.{has_body, body_is, fields_words, has_fields}
use Rattle.paper.proofs.CharDef.Bounds.{many_wrong, parts_bounds, Judged, good, bad, judged, bad_read}
use Rattle.paper.proofs.CharDef.Limits.{enter_past, past_enter}

-- ---- range lines

module _ {cs bounds : List ℕ} {names : List (List ℕ)} (fs : RangeFields cs bounds names) where
  bounds_misfit : (lower upper : List ℕ) → Parts bounds lower upper → {x y : BoundFound} → Judged lower x → Judged upper y → (n : ℕ)
      → from_bounds x y names ≡ wrong n → Misfit cs n
  bounds_misfit lower upper p (bad {n = m} b) j n h = let e : m ≡ n = cc in subst (Misfit cs) e (lower_bad fs p b)
  bounds_misfit lower upper p (good g) (bad {n = m} b) n h = let e : m ≡ n = cc in subst (Misfit cs) e (upper_bad fs p g b)
  bounds_misfit lower upper p (good g) (good i) n h = wrong_found (sym h)

  many : (a b c : List ℕ) → bounds ≡ a ++ (dot ∷ dot ∷ (b ++ (dot ∷ dot ∷ c))) → (n : ℕ) → wrong range_parts ≡ wrong n → Misfit cs n
  many a b c e n h =
      let i : range_parts ≡ n = cc in
      subst (Misfit cs) i (many_parts fs (record { first = a; second = b; others = c; whole = e }))

  parts_misfit : {ls : List (List ℕ)} → Cuts bounds ls → (n : ℕ) → from_parts ls names ≡ wrong n → Misfit cs n
  unfolding from_parts
  parts_misfit (uncut d) n h = bounds_misfit bounds bounds (one_part d refl refl) (judged bounds) (judged bounds) n h
  parts_misfit (cut_at {l = l} r e d (uncut u)) n h = bounds_misfit l r (two_parts e d u) (judged l) (judged r) n h
  parts_misfit (cut_at {l = l} r e d (cut_at {l = m} s i u (uncut k))) n h = many l m s (e ∙ ap (λ x. l ++ (dot ∷ dot ∷ x)) i) n h
  parts_misfit (cut_at {l = l} r e d (cut_at {l = m} s i u (cut_at t j k q))) n h = many l m s (e ∙ ap (λ x. l ++ (dot ∷ dot ∷ x)) i) n h

range_misfit : {cs core : List ℕ} → Body cs core → T (begins0x core) → {fields : List (List ℕ)} → Fields is_white core fields
    → (n : ℕ) → range_of fields ≡ wrong n → Misfit cs n
unfolding range_of
range_misfit b z (last_field {field = f} a) n h =
    parts_misfit (record { body = f; is_body = b; opens0x = z; split = last_field a }) (parts_cuts f) n h
range_misfit {core = core} b z (more_fields {field = f} gap rest e a g q) n h =
    parts_misfit (record { body = core; is_body = b; opens0x = z; split = more_fields gap rest e a g q }) (parts_cuts f) n h

-- ---- category lines

no_u32 : (f : List ℕ) → numeral decimal max_u32 f ≡ none → NoU32 f
no_u32 f e n s = none_some (sym e ∙ numeral_read decimal max_u32 decimal_small s)

count : {cs : List ℕ} (fields : List (List ℕ)) → CategoryFields cs fields → length fields ≢ line_fields → (n : ℕ) → wrong category_fields ≡ wrong n → Misfit cs n
count {cs} fields fs ne n h = let e : category_fields ≡ n = cc in subst (Misfit cs) e (not_four fs ne)

category_misfit : {cs : List ℕ} (fields : List (List ℕ)) → CategoryFields cs fields → (n : ℕ) → category_of fields ≡ wrong n → Misfit cs n
unfolding category_of
category_misfit {cs} [] fs n h = count [] fs (omega arith) n h
category_misfit {cs} (a ∷ []) fs n h = count (a ∷ []) fs (omega arith) n h
category_misfit {cs} (a ∷ b ∷ []) fs n h = count (a ∷ b ∷ []) fs (omega arith) n h
category_misfit {cs} (a ∷ b ∷ c ∷ []) fs n h = count (a ∷ b ∷ c ∷ []) fs (omega arith) n h
category_misfit {cs} (a ∷ b ∷ c ∷ d ∷ []) fs n h =
    go (numeral decimal max_u32 b) (numeral decimal max_u32 c) (numeral decimal max_u32 d) refl refl refl h
  where
    number : NoU32 b ⊎ (NoU32 c ⊎ NoU32 d) → wrong category_number ≡ wrong n → Misfit cs n
    number u h = let e : category_number ≡ n = cc in subst (Misfit cs) e (no_number fs u)

    go : (x y z : Option ℕ) → numeral decimal max_u32 b ≡ x → numeral decimal max_u32 c ≡ y → numeral decimal max_u32 d ≡ z
        → from_numbers a x y z ≡ wrong n → Misfit cs n
    go none y z ex ey ez h = number (inl (no_u32 b ex)) h
    go (some i) none z ex ey ez h = number (inr (inl (no_u32 c ey))) h
    go (some i) (some g) none ex ey ez h = number (inr (inr (no_u32 d ez))) h
    go (some i) (some g) (some l) ex ey ez h = wrong_found (sym h)
category_misfit {cs} (a ∷ b ∷ c ∷ d ∷ e ∷ r) fs n h = count (a ∷ b ∷ c ∷ d ∷ e ∷ r) fs (omega arith) n h

-- ---- a line that fits nothing

line_wrong : (cs : List ℕ) (n : ℕ) → line_of cs ≡ wrong n → Misfit cs n
unfolding line_of body_line
line_wrong cs n h = let (core, b) = has_body cs in go core b (ap body_line (sym (body_is cs core b)) ∙ h)
  where
    go : (core : List ℕ) → Body cs core → body_line core ≡ wrong n → Misfit cs n
    go [] b h = wrong_found (sym h)
    go (c ∷ core) b h = kind (begins0x (c ∷ core)) refl h
      where
        kind : (z : Bool) → begins0x (c ∷ core) ≡ z → cond z (range_of (words is_white (c ∷ core))) (category_of (words is_sep (c ∷ core))) ≡ wrong n → Misfit cs n
        kind true e h = range_misfit b (true→T _ e) (has_fields is_white (λ x t. t) c core b.opens b.closes) n h
        kind false e h =
            category_misfit (words is_sep (c ∷ core))
            (record { body = c ∷ core; is_body = b; opens_no0x = false→T _ e; split = has_fields is_sep sep_white c core b.opens b.closes }) n h

no_fields {ℓ} : {X : Type ℓ} (p : ℕ → Bool) {fields : List (List ℕ)} → Fields p [] fields → X
no_fields p (last_field a) = absurd a
no_fields p (more_fields {field = []} gap rest e a g q) = absurd a
no_fields p (more_fields {field = c ∷ f} gap rest e a g q) = zero_one (cc)

range_line : {cs bounds : List ℕ} {names : List (List ℕ)} → RangeFields cs bounds names → line_of cs ≡ from_parts (parts bounds) names
unfolding line_of range_of
range_line {cs} fs = ap body_line (body_is cs fs.body fs.is_body) ∙ range_body fs.body (T→true _ fs.opens0x) ∙ ap range_of (fields_words is_white fs.split)

category_line : {cs : List ℕ} {fields : List (List ℕ)} → CategoryFields cs fields → line_of cs ≡ category_of fields
unfolding line_of
category_line {cs} {fields} fs = ap body_line (body_is cs fs.body fs.is_body) ∙ category_body fs.body (not_empty fs.split) (T→false _ fs.opens_no0x) ∙ ap category_of (fields_words is_sep fs.split)
  where
    not_empty : {s : List ℕ} → Fields is_sep s fields → T (not (empty s))
    not_empty {s = []} q = no_fields is_sep q
    not_empty {s = c ∷ s} q = tt

count_wrong : (fields : List (List ℕ)) → length fields ≢ line_fields → category_of fields ≡ wrong category_fields
unfolding category_of
count_wrong [] ne = refl
count_wrong (a ∷ []) ne = refl
count_wrong (a ∷ b ∷ []) ne = refl
count_wrong (a ∷ b ∷ c ∷ []) ne = refl
count_wrong (a ∷ b ∷ c ∷ d ∷ []) ne = absurd (ne refl)
count_wrong (a ∷ b ∷ c ∷ d ∷ e ∷ r) ne = refl

number_wrong : (a b c d : List ℕ) → NoU32 b ⊎ (NoU32 c ⊎ NoU32 d) → category_of (a ∷ b ∷ c ∷ d ∷ []) ≡ wrong category_number
unfolding category_of
number_wrong a b c d u = go (numeral decimal max_u32 b) (numeral decimal max_u32 c) (numeral decimal max_u32 d) refl refl refl u
  where
    never : {X : Type 0} (f : List ℕ) (k : ℕ) → numeral decimal max_u32 f ≡ some k → NoU32 f → X
    never f k e no_one = absurd (no_one k (numeral_sound decimal max_u32 f k e))

    go : (x y z : Option ℕ) → numeral decimal max_u32 b ≡ x → numeral decimal max_u32 c ≡ y → numeral decimal max_u32 d ≡ z
        → NoU32 b ⊎ (NoU32 c ⊎ NoU32 d) → from_numbers a x y z ≡ wrong category_number
    go none y z ex ey ez u = refl
    go (some i) none z ex ey ez u = refl
    go (some i) (some g) none ex ey ez u = refl
    go (some i) (some g) (some l) ex ey ez (inl f) = never b i ex f
    go (some i) (some g) (some l) ex ey ez (inr (inl f)) = never c g ey f
    go (some i) (some g) (some l) ex ey ez (inr (inr f)) = never d l ez f

misfit_wrong : {cs : List ℕ} {n : ℕ} → Misfit cs n → line_of cs ≡ wrong n
misfit_wrong (many_parts {bounds = bounds} {names = names} fs t) = range_line fs ∙ many_wrong names t (parts_cuts bounds)
misfit_wrong (lower_bad {names = names} fs p b) = range_line fs ∙ parts_bounds names p ∙ rw (bad_read b)
misfit_wrong (upper_bad {names = names} fs p g b) = range_line fs ∙ parts_bounds names p ∙ rw (bound_read g, bad_read b)
misfit_wrong (not_four {fields = fields} fs ne) = category_line fs ∙ count_wrong fields ne
misfit_wrong (no_number {name = a} {invoke = b} {group = c} {len = d} fs u) = category_line fs ∙ number_wrong a b c d u

-- 4 to 8, exactly
pub line_misfit : (cs : List ℕ) (n : ℕ) → (line_of cs ≡ wrong n) ↔ Misfit cs n
line_misfit cs n = (line_wrong cs n, misfit_wrong)

-- 9 to 13, exactly
pub line_past : (r : Reading) (l : Line) (n : ℕ) → (enter r l ≡ stop n) ↔ PastLimit r l n
line_past r l n = (enter_past r l n, past_enter)

-- ---- a bad line

stops_bad : (r : Reading) (cs : List ℕ) (n : ℕ) → verdict r cs ≡ stop n → BadLine r cs n
unfolding verdict
stops_bad r cs n h = go (line_of cs) refl h
  where
    go : (o : Found) → line_of cs ≡ o → enter_found r o ≡ stop n → BadLine r cs n
    go (wrong m) e h = let i : m ≡ n = cc in misfit (line_wrong cs n (e ∙ ap wrong i))
    go (found l) e h = past_limit (line_sound cs l e) (enter_past r l n h)

bad_stops : {r : Reading} {cs : List ℕ} {n : ℕ} → BadLine r cs n → verdict r cs ≡ stop n
unfolding verdict
bad_stops (misfit m) = rw (misfit_wrong m)
bad_stops {cs = cs} (past_limit {line = l} f p) = rw (line_complete cs l f) (past_enter p)

-- whatever was read before
pub bad_line : (r : Reading) (cs : List ℕ) (n : ℕ) → (verdict r cs ≡ stop n) ↔ BadLine r cs n
bad_line r cs n = (stops_bad r cs n, bad_stops)

-- a line is bad by one number at most
pub bad_line_one : (r : Reading) (cs : List ℕ) (n m : ℕ) → BadLine r cs n → BadLine r cs m → n ≡ m
bad_line_one r cs n m a b =
    let e : verdict r cs ≡ stop n = bad_stops a in
    let d : verdict r cs ≡ stop m = bad_stops b in
    cc

-- the number is from 4 to 13
bound_number : {part : List ℕ} {n : ℕ} → BadBound part n → (bound_unreadable ≤ n) × (n ≤ bound_mark)
bound_number (no_hex f) = omega arith
bound_number (mark h) = omega arith
bound_number (swapped h) = omega arith

misfit_number : {cs : List ℕ} {n : ℕ} → Misfit cs n → (range_parts ≤ n) × (n ≤ category_number)
misfit_number (many_parts fs t) = omega arith
misfit_number (lower_bad fs p b) = let h = bound_number b in omega arith
misfit_number (upper_bad fs p g b) = let h = bound_number b in omega arith
misfit_number (not_four fs ne) = omega arith
misfit_number (no_number fs u) = omega arith

room_number : {known : List (List ℕ)} {x : List ℕ} {n : ℕ} → NoRoom known x n → (categories_full ≤ n) × (n ≤ name_bytes_full)
room_number (too_many new h) = omega arith
room_number (too_many_bytes new h i) = omega arith

past_number : {r : Reading} {l : Line} {n : ℕ} → PastLimit r l n → (ranges_full ≤ n) × (n ≤ name_bytes_full)
past_number (range_over h) = omega arith
past_number (references_over h i) = omega arith
past_number (range_name h i f) = let k = room_number f.over in omega arith
past_number (line_over h) = omega arith
past_number (category_name h f) = let k = room_number f.over in omega arith

pub bad_number : {r : Reading} {cs : List ℕ} {n : ℕ} → BadLine r cs n → (range_parts ≤ n) × (n ≤ name_bytes_full)
bad_number (misfit m) = let h = misfit_number m in omega arith
bad_number (past_limit f p) = let h = past_number p in omega arith

-- behind lines that keep the limits, 9 is given to range 2,049 and 11 to category line 513, and to no later one
pub at_limit : {r : Reading} {l : Line} {n : ℕ} → Within r → PastLimit r l n
    → (n ≡ ranges_full → length r.ranges ≡ max_ranges) × (n ≡ category_lines_full → length r.definitions ≡ max_category_lines)
at_limit w (range_over h) = let k = w.ranges_fit in omega arith
at_limit w (references_over h i) = omega arith
at_limit w (range_name h i f) = let k = room_number f.over in omega arith
at_limit w (line_over h) = let k = w.definitions_fit in omega arith
at_limit w (category_name h f) = let k = room_number f.over in omega arith

-- a line is bad, or it says a line with which the limits are kept
pub bad_or_entered : (ls : List Line) (cs : List ℕ) → Within (reading_of ls)
    → ((n : ℕ) × BadLine (reading_of ls) cs n) ⊎ ((l : Line) × LineFits cs l × Within (reading_of (ls ++ (l ∷ []))))
unfolding read_lines
bad_or_entered ls cs w = go (verdict (reading_of ls) cs) refl
  where
    Goal : Type 0
    Goal = ((n : ℕ) × BadLine (reading_of ls) cs n) ⊎ ((l : Line) × LineFits cs l × Within (reading_of (ls ++ (l ∷ []))))

    entered : (s : Reading) (ms : List Line) → EachFits (cs ∷ []) ms → s ≡ reading_of (ls ++ ms) → Within s → Goal
    entered s ms (next {l = l} f done) e v = inr (l, f, subst Within e v)

    go : (o : Step) → verdict (reading_of ls) cs ≡ o → Goal
    go (stop n) e = inl (n, stops_bad (reading_of ls) cs n e)
    go (go_on s) e =
        let (ms, f, i, v) = lines_sound (cs ∷ []) 1 ls s w (rw e) in
        entered s ms f i v

-- and never both
pub bad_not_entered : (ls : List Line) (cs : List ℕ) (n : ℕ) (l : Line) → BadLine (reading_of ls) cs n → LineFits cs l → Within (reading_of (ls ++ (l ∷ []))) → ⊥
unfolding read_lines
bad_not_entered ls cs n l b f w =
    let stops : read_lines 1 (cs ∷ []) (reading_of ls) ≡ refused n 1 = rw (bad_stops b) in
    refused_accepted (sym stops ∙ lines_complete 1 ls (next f done) w)
