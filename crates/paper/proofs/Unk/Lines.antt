-- The lines of unk.def: they are those that the relation has, cut at LF with one CR before it dropped. Pieces with a separator between
-- them and the cut at that separator undo each other, and the fields of a line are such pieces too.
-- Assumes nothing.
use Prim.Native.Nat.{ℕ}
use mathlib.Core.Path.{◌≡◌, refl, sym, ap, ap₂, ◌∙◌, subst}
use mathlib.Core.Logic.{◌↔◌}
use mathlib.Core.Bool.{Bool, true, false, not, cond}
use mathlib.Core.List.{List, [], ◌∷◌, ◌++◌, append_assoc, append-nil}
use lib.Dec.{T, eqb, eqb→eq}
use mir.Facts.{and_yes, yes_and}
use Rattle.paper.specs.Lists.{empty, all, cut, push, is, without, join_with}
use Rattle.paper.specs.Text.Scalar.{lf, cr}
use Rattle.paper.specs.Unk.Entry.{ends_cr, Lines, no_line, at_LF, at_CRLF}
use Rattle.paper.specs.Computed.ReadUnk.{drop_cr, from_pieces, unk_lines}
use Rattle.paper.proofs.Lists.Facts.{T→true, T→false, true→T, all_append, un, cut_run, push_all, push_all_first, false→T, all_left}
use Rattle.paper.proofs.Lists.Pieces.{Pieces, last, then, cut_pieces}

-- ---- pieces and what is between them

pub cut_join_with : (s : ℕ) (css : List (List ℕ)) → T (not (empty css)) → T (all (without s) css) → cut (is s) (join_with s css) ≡ css
cut_join_with s [] n a = absurd n
cut_join_with s (l ∷ []) n a =
    let h = and_yes (without s l) true a in
    ap (cut (is s)) (sym (append-nil l)) ∙ cut_run (is s) l [] h.0 ∙ push_all_first (is s) l []
cut_join_with s (l ∷ m ∷ css) n a =
    let h = and_yes (without s l) (all (without s) (m ∷ css)) a in
    cut_run (is s) l (s ∷ join_with s (m ∷ css)) h.0
    ∙ ap (λ b. push_all l (cond b ([] ∷ cut (is s) (join_with s (m ∷ css))) (push s (cut (is s) (join_with s (m ∷ css)))))) (T→true (is s s) (lib.Dec.eqb_refl s))
    ∙ push_all_first (is s) l (cut (is s) (join_with s (m ∷ css)))
    ∙ ap (λ x. l ∷ x) (cut_join_with s (m ∷ css) tt h.1)

pub pieces_join_with : (s : ℕ) {cs : List ℕ} {css : List (List ℕ)} → Pieces (is s) cs css
    → (cs ≡ join_with s css) × T (not (empty css)) × T (all (without s) css)
pieces_join_with s {cs} (last a) = (refl, tt, yes_and (without s cs) true a tt)
pieces_join_with s (then {l = l} {ls = m ∷ css} c r e a t q) =
    let (e', n, b) = pieces_join_with s q in
    let k : c ≡ s = eqb→eq c s t in
    (e ∙ ap₂ (λ x y. l ++ (x ∷ y)) k e', tt, yes_and (without s l) (all (without s) (m ∷ css)) a b)
pieces_join_with s (then {l = l} {ls = []} c r e a t q) = absurd (pieces_join_with s q).1

-- ---- lines

cr_split : (l : List ℕ) → T (ends_cr l) → l ≡ drop_cr l ++ (cr ∷ [])
cr_split [] t = absurd t
cr_split (c ∷ []) t = let e : c ≡ cr = eqb→eq c cr t in rw (T→true (eqb c cr) t) (ap (λ k. k ∷ []) e)
cr_split (c ∷ d ∷ l) t = ap (λ k. c ∷ k) (cr_split (d ∷ l) t)

cr_none : (l : List ℕ) → T (not (ends_cr l)) → drop_cr l ≡ l
cr_none [] t = refl
cr_none (c ∷ []) t = rw (T→false (eqb c cr) t)
cr_none (c ∷ d ∷ l) t = ap (λ k. c ∷ k) (cr_none (d ∷ l) t)

cr_dropped : (l : List ℕ) → drop_cr (l ++ (cr ∷ [])) ≡ l
cr_dropped [] = refl
cr_dropped (c ∷ []) = refl
cr_dropped (c ∷ d ∷ l) = ap (λ k. c ∷ k) (cr_dropped (d ∷ l))

pieces_lines : {cs : List ℕ} {css : List (List ℕ)} → Pieces (is lf) cs css → Lines cs (from_pieces css)
pieces_lines (last {cs = []} a) = no_line
pieces_lines (last {cs = c ∷ cs} a) = Lines.last tt a
pieces_lines (then {ls = []} s r e a t q) = absurd (pieces_join_with lf q).1
pieces_lines (then {cs = cs} {l = l} {ls = m ∷ css} s r e a t q) = go (ends_cr l) refl (pieces_lines q)
  where
    at_lf : s ≡ lf
    at_lf = eqb→eq s lf t

    go : (b : Bool) → ends_cr l ≡ b → Lines r (from_pieces (m ∷ css)) → Lines cs (drop_cr l ∷ from_pieces (m ∷ css))
    go true eb h =
        let k : l ≡ drop_cr l ++ (cr ∷ []) = cr_split l (true→T _ eb) in
        at_CRLF r
        (e ∙ ap₂ (λ x y. x ++ (y ∷ r)) k at_lf ∙ append_assoc (drop_cr l) (cr ∷ []) (lf ∷ r))
        (all_left (un (is lf)) (drop_cr l) (cr ∷ []) (subst (λ x. T (without lf x)) k a)) h
    go false eb h =
        let n : T (not (ends_cr l)) = false→T _ eb in
        rw (cr_none l n) (at_LF r (e ∙ ap (λ y. l ++ (y ∷ r)) at_lf) a n h)

from_more : (l : List ℕ) (ls : List (List ℕ)) → T (not (empty ls)) → from_pieces (l ∷ ls) ≡ drop_cr l ∷ from_pieces ls
from_more l [] n = absurd n
from_more l (m ∷ ls) n = refl

cut_first : (l r : List ℕ) → T (without lf l) → cut (is lf) (l ++ (lf ∷ r)) ≡ l ∷ cut (is lf) r
cut_first l r a = cut_run (is lf) l (lf ∷ r) a ∙ push_all_first (is lf) l (cut (is lf) r)

lines_read : {cs : List ℕ} {ls : List (List ℕ)} → Lines cs ls → unk_lines cs ≡ ls
unfolding unk_lines
lines_read no_line = refl
lines_read (Lines.last {cs = []} n a) = absurd n
lines_read (Lines.last {cs = c ∷ cs} n a) = ap from_pieces (cut_join_with lf ((c ∷ cs) ∷ []) tt (yes_and (without lf (c ∷ cs)) true a tt))
lines_read (at_LF {l = l} r e a n q) =
    ap (λ x. from_pieces (cut (is lf) x)) e
    ∙ ap from_pieces (cut_first l r a)
    ∙ from_more l (cut (is lf) r) (pieces_join_with lf (cut_pieces (is lf) r)).1
    ∙ ap₂ (λ x y. x ∷ y) (cr_none l n) (lines_read q)
lines_read (at_CRLF {l = l} r e a q) =
    ap (λ x. from_pieces (cut (is lf) x)) (e ∙ sym (append_assoc l (cr ∷ []) (lf ∷ r)))
    ∙ ap from_pieces (cut_first (l ++ (cr ∷ [])) r (all_append (un (is lf)) l (cr ∷ []) a tt))
    ∙ from_more (l ++ (cr ∷ [])) (cut (is lf) r) (pieces_join_with lf (cut_pieces (is lf) r)).1
    ∙ ap₂ (λ x y. x ∷ y) (cr_dropped l) (lines_read q)

-- the lines of a text are those that the relation gives
pub lines_are : (bytes : List ℕ) (ls : List (List ℕ)) → (unk_lines bytes ≡ ls) ↔ Lines bytes ls
unfolding unk_lines
lines_are bytes ls = (λ e. subst (Lines bytes) e (pieces_lines (cut_pieces (is lf) bytes)), λ h. lines_read h)

pub lines_one : (bytes : List ℕ) (ls ms : List (List ℕ)) → Lines bytes ls → Lines bytes ms → ls ≡ ms
lines_one bytes ls ms a b = sym (lines_read a) ∙ lines_read b
