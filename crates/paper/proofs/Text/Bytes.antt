-- A test that no byte from 80 up passes cuts bytes where it cuts characters (`cut_utf8`): lines and comma fields need no decoding. Idea: all
-- octets of a character from 80 up are from 80 up.
-- Assumes nothing.
use Prim.Native.Nat.{ℕ, ◌+◌, ◌/◌, ◌%◌, ◌≤◌}
use native.Mathlib.Omega.{arith}
use mathlib.Core.Path.{◌≡◌, refl, sym, ap, ◌∙◌}
use mathlib.Core.Bool.{Bool, true, false, not, cond}
use mathlib.Core.List.{List, [], ◌∷◌, ◌++◌, map, append_assoc}
use lib.Dec.{T, leb}
use mir.Facts.{yes_and, yes_leb}
use borrow.Author.Tests.{leb-true, leb-false}
use Rattle.paper.specs.Lists.{all, empty, push, cut}
use Rattle.paper.specs.Text.Scalar.{utf8_of, utf8}
use Rattle.paper.proofs.Lists.Facts.{T→false, un, all_imp, cut_run, push_all}
use Rattle.paper.proofs.Text.Lengths.{enc_1, enc_2, enc_3, enc_4}

pub utf8_append : (s t : List ℕ) → utf8 (s ++ t) ≡ utf8 s ++ utf8 t
unfolding utf8
utf8_append [] t = refl
utf8_append (c ∷ s) t = ap (λ l. utf8_of c ++ l) (utf8_append s t) ∙ sym (append_assoc (utf8_of c) (utf8 s) (utf8 t))

abbrev high : ℕ → Bool
high b = leb 0x80 b

-- the bytes of a character from 80 up are from 80 up, and there is one at least
high_bytes : (c : ℕ) → 0x80 ≤ c → T (all high (utf8_of c)) × T (not (empty (utf8_of c)))
high_bytes c h = go (leb c 0x7FF) (leb c 0xFFFF) refl refl
  where
    one : (x : ℕ) → 0x80 ≤ x → T (high x)
    one x k = yes_leb k

    go : (x y : Bool) → leb c 0x7FF ≡ x → leb c 0xFFFF ≡ y → T (all high (utf8_of c)) × T (not (empty (utf8_of c)))
    go true y ex ey =
        rw (enc_2 c h (leb-true c 0x7FF ex))
        (yes_and (high (0xC0 + c / 64)) _ (one (0xC0 + c / 64) (omega arith)) (yes_and (high (0x80 + c % 64)) true (one (0x80 + c % 64) (omega arith)) tt), tt)
    go false true ex ey =
        rw (enc_3 c (leb-false c 0x7FF ex) (leb-true c 0xFFFF ey)) (
          yes_and (high (0xE0 + c / 4096)) _ (one (0xE0 + c / 4096) (omega arith))
              (yes_and (high (0x80 + c / 64 % 64)) _ (one (0x80 + c / 64 % 64) (omega arith)) (yes_and (high (0x80 + c % 64)) true (one (0x80 + c % 64) (omega arith)) tt)),
          tt,
        )
    go false false ex ey =
        rw (enc_4 c (leb-false c 0xFFFF ey)) (
          yes_and (high (0xF0 + c / 262144)) _ (one (0xF0 + c / 262144) (omega arith))
              (yes_and (high (0x80 + c / 4096 % 64)) _ (one (0x80 + c / 4096 % 64) (omega arith))
              (yes_and (high (0x80 + c / 64 % 64)) _ (one (0x80 + c / 64 % 64) (omega arith)) (yes_and (high (0x80 + c % 64)) true (one (0x80 + c % 64) (omega arith)) tt))),
          tt,
        )

-- cut is never empty
pub push_all_utf8 : (c : ℕ) (l : List ℕ) (ls : List (List ℕ)) → push_all (utf8_of c) (map utf8 (l ∷ ls)) ≡ map utf8 (push c (l ∷ ls))
unfolding utf8
push_all_utf8 c l ls = go (utf8_of c)
  where
    go : (f : List ℕ) → push_all f (utf8 l ∷ map utf8 ls) ≡ (f ++ utf8 l) ∷ map utf8 ls
    go [] = refl
    go (x ∷ f) = rw (go' f)
      where
        go' : (f : List ℕ) → push_all f (utf8 l ∷ map utf8 ls) ≡ (f ++ utf8 l) ∷ map utf8 ls
        go' [] = refl
        go' (y ∷ f) = rw (go' f)

module _ (p : ℕ → Bool) (ascii : (b : ℕ) → T (high b) → T (not (p b))) where
  cut_some : (s : List ℕ) → (l : List ℕ) × (ls : List (List ℕ)) × (cut p s ≡ l ∷ ls)
  cut_some [] = ([], [], refl)
  cut_some (x ∷ s) = let (l, ls, e) = cut_some s in go (p x) l ls e
    where
      go : (b : Bool) (l : List ℕ) (ls : List (List ℕ)) → cut p s ≡ l ∷ ls → (k : List ℕ) × (ks : List (List ℕ)) × (cond b ([] ∷ cut p s) (push x (cut p s)) ≡ k ∷ ks)
      go true l ls e = ([], cut p s, refl)
      go false l ls e = (x ∷ l, ls, rw e)

  -- lines, fields: cut the bytes or the characters, it is the same
  pub cut_utf8 : (cs : List ℕ) → cut p (utf8 cs) ≡ map utf8 (cut p cs)
  unfolding utf8
  cut_utf8 [] = refl
  cut_utf8 (c ∷ cs) = go (leb c 0x7F) refl (cut_utf8 cs)
    where
      low : (b : Bool) → cut p (utf8 cs) ≡ map utf8 (cut p cs)
          → c ≤ 0x7F → cond b ([] ∷ cut p (utf8 cs)) (push c (cut p (utf8 cs))) ≡ map utf8 (cond b ([] ∷ cut p cs) (push c (cut p cs)))
      low true ih h = ap (λ l. [] ∷ l) ih
      low false ih h =
          let (l, ls, e) = cut_some cs in
          rw (ih, e) (rw (enc_1 c h))

      go : (b : Bool) → leb c 0x7F ≡ b → cut p (utf8 cs) ≡ map utf8 (cut p cs) → cut p (utf8_of c ++ utf8 cs) ≡ map utf8 (cond (p c) ([] ∷ cut p cs) (push c (cut p cs)))
      go true e ih = let h : c ≤ 0x7F = leb-true c 0x7F e in rw (enc_1 c h) (low (p c) ih h)
      go false e ih =
          let h : 0x80 ≤ c = leb-false c 0x7F e in
          let (l, ls, d) = cut_some cs in
          rw (T→false (p c) (ascii c (yes_leb h)))
          (cut_run p (utf8_of c) (utf8 cs) (all_imp high (un p) ascii (utf8_of c) (high_bytes c h).0)
          ∙ ap (push_all (utf8_of c)) (ih ∙ ap (map utf8) d)
          ∙ push_all_utf8 c l ls
          ∙ ap (λ k. map utf8 (push c k)) (sym d))
