-- Refused texts of unk.def: the reader gives a number and a place exactly where the table's words do, and they give one at most.
-- A text is walked with the lines already passed in hand, which are all entries.
-- Assumes nothing.
use Prim.Native.Nat.{ℕ, suc, ◌+◌, ◌<◌, ◌≤◌}
use native.Mathlib.Omega.{arith}
use mathlib.Core.Path.{◌≡◌, refl, sym, ap, ap₂, ◌∙◌, subst}
use mathlib.Core.Logic.{◌⊎◌, inl, inr, ◌↔◌}
use mathlib.Core.Bool.{Bool, true, false, cond}
use mathlib.Core.List.{List, [], ◌∷◌, ◌++◌, append_assoc}
use lib.Dec.{ltb, lit≤}
use lib.ListN.{length, length-append}
use borrow.Author.Tests.{ltb-true, ltb-false, lt-ltb, le-ltb}
use Rattle.paper.specs.Sizes.{max_text_bytes, max_unk_entries}
use Rattle.paper.specs.Refusals.{text_long, unk_entries_full}
use Rattle.paper.specs.Text.Scalar.{WellFormed, LongestPrefix}
use Rattle.paper.specs.Unk.Entry.{Lines, Entry, UnkLine, EachUnk, done, next}
use Rattle.paper.specs.Unk.Bad.{BadUnkLine, fields_short, number_unreadable, entries_full, UnkFirstBad, UnkRefused, too_long, ill_formed, bad_line, UnkAnswer, accepted, refused, UnkAnswered, fitting, refusing}
use Rattle.paper.specs.Computed.Decode.{Text, broken, chars, decode}
use Rattle.paper.specs.Computed.ReadUnk.{unk_lines, Entries, entries_are, stops, read_entries, answer_unk, read_unk_text, read_unk}
use Rattle.paper.proofs.Apart.{stops_entries, unk_refused_accepted}
use Rattle.paper.proofs.Text.Code.{reads, ill_read}
use Rattle.paper.proofs.Text.Prefix.{prefix_of_lem, longest_one}
use Rattle.paper.proofs.Unk.Lines.{lines_are}
use Rattle.paper.proofs.Unk.Line.{unk_line}
use Rattle.paper.proofs.Unk.Text.{unk_accepts}
use Rattle.paper.proofs.Unk.Bad.{stops_same, bad_stops, line_view}

-- ---- the first bad line

each_more : {css : List (List ℕ)} {es : List Entry} {cs : List ℕ} {e : Entry} → EachUnk css es → UnkLine cs e → EachUnk (css ++ (cs ∷ [])) (es ++ (e ∷ []))
each_more done u = next u done
each_more (next v t) u = next v (each_more t u)

stop_first : (css pre : List (List ℕ)) (es : List Entry) (bytes : List ℕ) (n place : ℕ) → Lines bytes (pre ++ css) → EachUnk pre es → length pre ≤ max_unk_entries
    → read_entries (suc (length pre)) css ≡ stops n place → UnkFirstBad n place bytes
unfolding read_entries
stop_first [] pre es bytes n place split each few h = stops_entries (sym h)
stop_first (cs ∷ css) pre es bytes n place split each few h =
    go (line_view (length pre) cs (λ j. read_entries j css) n place few h) (λ es'. stop_first css (pre ++ (cs ∷ [])) es' bytes n place)
  where
    one_more : length (pre ++ (cs ∷ [])) ≡ suc (length pre)
    one_more = omega (arith, length-append pre (cs ∷ []))

    go : ((place ≡ suc (length pre)) × BadUnkLine (length pre) cs n)
        ⊎ ((e : Entry) × UnkLine cs e × (length pre < max_unk_entries) × (read_entries (suc (suc (length pre))) css ≡ stops n place))
        → ((es' : List Entry) → Lines bytes ((pre ++ (cs ∷ [])) ++ css) → EachUnk (pre ++ (cs ∷ [])) es' → length (pre ++ (cs ∷ [])) ≤ max_unk_entries
        → read_entries (suc (length (pre ++ (cs ∷ [])))) css ≡ stops n place → UnkFirstBad n place bytes)
        → UnkFirstBad n place bytes
    go (inl (p, b)) later =
        record { lines = pre ++ (cs ∷ css); split = split; pre = pre; bad = cs; post = css; whole = refl; at = p; entries = es; before = each; few = omega arith; wrong = b }
    go (inr (e, u, room, r)) later =
        later (es ++ (e ∷ []))
        (subst (Lines bytes) (sym (append_assoc pre (cs ∷ []) css)) split)
        (each_more each u)
        (omega (arith, one_more))
        (ap (λ k. read_entries (suc k) css) one_more ∙ r)

-- entries are passed, as long as there is room
pass : {pre : List (List ℕ)} {es : List Entry} (k : ℕ) (css : List (List ℕ)) (n place : ℕ) → EachUnk pre es → k + length pre ≤ suc max_unk_entries
    → read_entries (k + length pre) css ≡ stops n place → read_entries k (pre ++ css) ≡ stops n place
unfolding read_entries
pass k css n place done most h = let z : k + 0 ≡ k = omega arith in ap (λ j. read_entries j css) (sym z) ∙ h
pass k css n place (next {cs = cs} {e = e} {css = pre} u t) most h =
    let room : k ≤ max_unk_entries = omega arith in
    let fewer : suc k + length pre ≤ suc max_unk_entries = omega arith in
    let z : suc k + length pre ≡ k + suc (length pre) = omega arith in
    rw ((unk_line cs e).1 u, le-ltb max_unk_entries k room, pass (suc k) css n place t fewer (ap (λ j. read_entries j css) z ∙ h))

first_bad_stops : (bytes : List ℕ) (n place : ℕ) → UnkFirstBad n place bytes → read_entries 1 (unk_lines bytes) ≡ stops n place
first_bad_stops bytes n place f =
    let behind : read_entries (1 + length f.pre) (f.bad ∷ f.post) ≡ stops n place =
    ap (λ k. read_entries k (f.bad ∷ f.post)) one ∙ bad_stops f.post f.wrong ∙ ap (stops n) (sym f.at) in
    ap (read_entries 1) ((lines_are bytes f.lines).1 f.split ∙ f.whole)
    ∙ pass 1 (f.bad ∷ f.post) n place f.before (omega (arith, f.few)) behind
  where
    one : 1 + length f.pre ≡ suc (length f.pre)
    one = omega arith

-- the lines of a text stop the reader at its first bad line and nowhere else
pub unk_first_bad : (bytes : List ℕ) (n place : ℕ) → (read_entries 1 (unk_lines bytes) ≡ stops n place) ↔ UnkFirstBad n place bytes
unk_first_bad bytes n place =
    (stop_first (unk_lines bytes) [] [] bytes n place ((lines_are bytes (unk_lines bytes)).0 refl) done (lit≤ tt), first_bad_stops bytes n place)

pub unk_first_bad_one : (bytes : List ℕ) (m n j k : ℕ) → UnkFirstBad m j bytes → UnkFirstBad n k bytes → (m ≡ n) × (j ≡ k)
unk_first_bad_one bytes m n j k a b = stops_same (sym (first_bad_stops bytes m j a) ∙ first_bad_stops bytes n k b)

-- ---- refused texts

refused_same : {m n j k : ℕ} → refused m j ≡ refused n k → (m ≡ n) × (j ≡ k)
refused_same h = (cc, cc)

answer_stops : (names : List (List ℕ)) (o : Entries) (n place : ℕ) → answer_unk names o ≡ refused n place → o ≡ stops n place
answer_stops names (entries_are es) n place h = unk_refused_accepted (sym h)
answer_stops names (stops m p) n place h = let (en, ep) = refused_same h in ap₂ stops en ep

unk_refused_sound : (names : List (List ℕ)) (bytes : List ℕ) (n place : ℕ) → read_unk names bytes ≡ refused n place → UnkRefused bytes n place
unfolding read_unk
unk_refused_sound names bytes n place h = size_case (ltb max_text_bytes (length bytes)) refl h
  where
    moved : {m k : ℕ} → refused m k ≡ refused n place → UnkRefused bytes m k → UnkRefused bytes n place
    moved {m} h r = let (en, ep) = refused_same h in subst (λ j. UnkRefused bytes j place) en (subst (UnkRefused bytes m) ep r)

    text_case : length bytes ≤ max_text_bytes → (o : Text) → decode bytes ≡ o → read_unk_text names bytes o ≡ refused n place → UnkRefused bytes n place
    text_case short (broken p) e h = moved h (ill_formed short (ill_read bytes p e) (prefix_of_lem bytes p e))
    text_case short (chars cs) e h =
        bad_line short ((reads bytes).1 (cs, e)) ((unk_first_bad bytes n place).0 (answer_stops names (read_entries 1 (unk_lines bytes)) n place h))

    size_case : (b : Bool) → ltb max_text_bytes (length bytes) ≡ b → cond b (refused text_long 0) (read_unk_text names bytes (decode bytes)) ≡ refused n place → UnkRefused bytes n place
    size_case true e h = moved h (too_long (ltb-true max_text_bytes (length bytes) e))
    size_case false e h = text_case (ltb-false max_text_bytes (length bytes) e) (decode bytes) refl h

ill_formed_at : (bytes : List ℕ) (p : ℕ) → (WellFormed bytes → ⊥) → LongestPrefix p bytes → decode bytes ≡ broken p
ill_formed_at bytes p ill l = go (decode bytes) refl
  where
    go : (o : Text) → decode bytes ≡ o → decode bytes ≡ broken p
    go (chars cs) e = absurd (ill ((reads bytes).1 (cs, e)))
    go (broken q) e = e ∙ ap broken (longest_one bytes q p (prefix_of_lem bytes q e) l)

unk_refused_complete : (names : List (List ℕ)) (bytes : List ℕ) (n place : ℕ) → UnkRefused bytes n place → read_unk names bytes ≡ refused n place
unfolding read_unk
unk_refused_complete names bytes n place (too_long long) = rw (lt-ltb max_text_bytes (length bytes) long)
unk_refused_complete names bytes n place (ill_formed short ill l) =
    rw (le-ltb max_text_bytes (length bytes) short) (ap (read_unk_text names bytes) (ill_formed_at bytes place ill l))
unk_refused_complete names bytes n place (bad_line short w f) =
    let (cs, e) = (reads bytes).0 w in
    rw (le-ltb max_text_bytes (length bytes) short)
    (ap (read_unk_text names bytes) e ∙ ap (answer_unk names) ((unk_first_bad bytes n place).1 f))

-- a text is refused by a number at a place exactly where the table says so
pub unk_refused_exactly : (names : List (List ℕ)) (bytes : List ℕ) (n place : ℕ) → (read_unk names bytes ≡ refused n place) ↔ UnkRefused bytes n place
unk_refused_exactly names bytes n place = (unk_refused_sound names bytes n place, unk_refused_complete names bytes n place)

pub unk_refused_one : (bytes : List ℕ) (m n j k : ℕ) → UnkRefused bytes m j → UnkRefused bytes n k → (m ≡ n) × (j ≡ k)
unk_refused_one bytes m n j k a b = refused_same (sym (unk_refused_complete [] bytes m j a) ∙ unk_refused_complete [] bytes n k b)

-- every line is an entry, so 25 is given at line 4,097 and nowhere else
pub unk_full_place : (bytes : List ℕ) (place : ℕ) → UnkRefused bytes unk_entries_full place → place ≡ suc max_unk_entries
unk_full_place bytes place r = text r refl
  where
    line : {before n : ℕ} {cs : List ℕ} → BadUnkLine before cs n → n ≡ unk_entries_full → before ≡ max_unk_entries
    line (fields_short u) e = absurd (omega arith)
    line (number_unreadable u) e = absurd (omega arith)
    line (entries_full u full) e = full

    text : {n k : ℕ} → UnkRefused bytes n k → n ≡ unk_entries_full → k ≡ suc max_unk_entries
    text (too_long long) e = absurd (omega arith)
    text (ill_formed short ill l) e = absurd (omega arith)
    text (bad_line short w f) e = f.at ∙ ap suc (line f.wrong e)

-- ---- answers

-- the reader's answer is the one that the paper gives, and the paper gives one
pub unk_answers : (names : List (List ℕ)) (bytes : List ℕ) (a : UnkAnswer) → (read_unk names bytes ≡ a) ↔ UnkAnswered names bytes a
unk_answers names bytes (accepted u) = (λ h. fitting ((unk_accepts names bytes u).0 h), back)
  where
    back : UnkAnswered names bytes (accepted u) → read_unk names bytes ≡ accepted u
    back (fitting f) = (unk_accepts names bytes u).1 f
unk_answers names bytes (refused n place) = (λ h. refusing (unk_refused_sound names bytes n place h), back)
  where
    back : UnkAnswered names bytes (refused n place) → read_unk names bytes ≡ refused n place
    back (refusing r) = unk_refused_complete names bytes n place r

pub unk_answered : (names : List (List ℕ)) (bytes : List ℕ) → UnkAnswered names bytes (read_unk names bytes)
unk_answered names bytes = (unk_answers names bytes (read_unk names bytes)).0 refl

pub unk_answered_one : (names : List (List ℕ)) (bytes : List ℕ) (a b : UnkAnswer) → UnkAnswered names bytes a → UnkAnswered names bytes b → a ≡ b
unk_answered_one names bytes a b s t = sym ((unk_answers names bytes a).1 s) ∙ (unk_answers names bytes b).1 t
