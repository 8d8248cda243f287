-- A range line from the parts of its first word, and which of the two kinds of lines a body is.
-- Assumes nothing.
use Prim.Native.Nat.{ℕ, ◌+◌, ◌≤◌, ◌<◌}
use mathlib.Core.Path.{◌≡◌, refl, sym, ap, ap₂, ◌∙◌, subst}
use mathlib.Core.Bool.{Bool, true, false, cond}
use mathlib.Core.List.{List, ◌∷◌}
use lib.ListN.{take, drop, get_or}
use Rattle.paper.specs.Refusals.{range_parts, bound_unreadable}
use Rattle.paper.specs.CharDef.Line.{begins0x}
use Rattle.paper.specs.Computed.ReadText.{Found, BoundFound, bound_is, no_bound, parts, bound_of, from_bounds, from_parts, range_of, category_of}
use Rattle.paper.proofs.Lists.Parts.{nothing, uncons}
use Rattle.scan.specs.declared.Part.{Part}
use Rattle.scan.specs.Marks.{gap_width, words_bytes}
use Rattle.scan.specs.Answer.{part, bytes_of, NextWord, Body, body_part}
use Rattle.scan.proofs.Places.{words_in, no_word, a_word, word_place, body_place}
use Rattle.category_line.specs.declared.Line.TheVariants.{Blank, Range}
use Rattle.category_line.specs.Answer.{Placed, Says}
use Rattle.category_line.proofs.Lines.{says_refused}
use Rattle.line.specs.Bytes.{body_line_bytes, line_bytes}
use Rattle.line.specs.Asked.{dots_bytes, Cut, Uncut}
use Rattle.line.proofs.LineBridge.{parts_some, solid_line_lem}
use Rattle.std.specs.Prelude.{Err, Ok, Result}
use Rattle.category_line.specs.declared.Line.{Line}

-- ---- range lines

module _ {l : List ℕ} {start end : ℕ} {w : Part} (n : NextWord l start end true w) where
  pub no_bounds : w.end ≤ w.start → Says l (part start end) (range_of (words_in true l start end)) (Err bound_unreadable)
  unfolding range_of
  no_bounds h = says_refused (ap range_of (sym (no_word n h)))

  module _ (h : w.start < w.end) where
    by_parts : {ps : List (List ℕ)} → parts (bytes_of l w) ≡ ps → from_parts ps (words_in true l w.end end) ≡ range_of (words_in true l start end)
    unfolding range_of
    by_parts e = ap (λ q. from_parts q (words_in true l w.end end)) (sym e) ∙ ap range_of (sym (a_word n h refl))

    -- what two bounds make of it: the names stand behind the word
    bounded : {a b : ℕ} → from_bounds (bound_is a) (bound_is b) (words_in true l w.end end) ≡ range_of (words_in true l start end)
        → Says l (part start end) (range_of (words_in true l start end)) (Ok (Range (record { lower = a; upper = b; names = part w.end end })))
    bounded e = record { says = e; placed = ap (λ v. part v.end end) (word_place n) }

    module _ (e : Uncut l w.start w.end) where
      by_one : {b : BoundFound} → b ≡ bound_of (bytes_of l w) → from_bounds b b (words_in true l w.end end) ≡ range_of (words_in true l start end)
      unfolding from_parts
      by_one f = ap (λ x. from_bounds x x (words_in true l w.end end)) f ∙ by_parts e.pieces

      pub bad_bound : {k : ℕ} → no_bound k ≡ bound_of (bytes_of l w) → Says l (part start end) (range_of (words_in true l start end)) (Err k)
      bad_bound f = says_refused (by_one f)

      pub one_bound : {b : ℕ} → bound_is b ≡ bound_of (bytes_of l w)
          → Says l (part start end) (range_of (words_in true l start end)) (Ok (Range (record { lower = b; upper = b; names = part w.end end })))
      one_bound f = bounded (by_one f)

    module _ {at : ℕ} (k : Cut l w.start w.end at) where
      module _ (e : Uncut l (at + dots_bytes) w.end) where
        by_two : {a b : BoundFound} → a ≡ bound_of (drop w.start (take at l)) → b ≡ bound_of (drop (at + dots_bytes) (take w.end l))
            → from_bounds a b (words_in true l w.end end) ≡ range_of (words_in true l start end)
        unfolding from_parts
        by_two f g =
            ap₂ (λ x y. from_bounds x y (words_in true l w.end end)) f g ∙ by_parts (k.pieces ∙ ap (λ ps. drop w.start (take at l) ∷ ps) e.pieces)

        pub bad_lower : {m : ℕ} → no_bound m ≡ bound_of (drop w.start (take at l)) → Says l (part start end) (range_of (words_in true l start end)) (Err m)
        bad_lower f = says_refused (by_two f refl)

        module _ {a : ℕ} (f : bound_is a ≡ bound_of (drop w.start (take at l))) where
          pub bad_upper : {m : ℕ} → no_bound m ≡ bound_of (drop (at + dots_bytes) (take w.end l))
              → Says l (part start end) (range_of (words_in true l start end)) (Err m)
          bad_upper g = says_refused (by_two f g)

          pub two_bounds : {b : ℕ} → bound_is b ≡ bound_of (drop (at + dots_bytes) (take w.end l))
              → Says l (part start end) (range_of (words_in true l start end)) (Ok (Range (record { lower = a; upper = b; names = part w.end end })))
          two_bounds g = bounded (by_two f g)

      pub more_bounds : {m : ℕ} → Cut l (at + dots_bytes) w.end m → Says l (part start end) (range_of (words_in true l start end)) (Err range_parts)
      unfolding from_parts
      more_bounds {m} j =
          let (x, r, e) = parts_some (drop (m + dots_bytes) (take w.end l)) in
          says_refused
          (by_parts (k.pieces ∙ ap (λ q. drop w.start (take at l) ∷ q) (j.pieces ∙ ap (λ q. drop (at + dots_bytes) (take m l) ∷ q) e)))

-- ---- the line

module _ {l : List ℕ} {start end : ℕ} {b : Part} (n : Body l start end b) where
  pub says_blank : b.end ≤ b.start → Says l (body_part l start end) (line_bytes (drop start (take end l))) (Ok Blank)
  unfolding line_bytes body_line_bytes
  says_blank h = record { says = ap body_line_bytes (sym (sym n.bytes ∙ nothing l b.start b.end h)); placed = tt }

  here : {f : Found} {r : Result Line ℕ} → Says l (part b.start b.end) f r → f ≡ line_bytes (drop start (take end l))
      → Says l (body_part l start end) (line_bytes (drop start (take end l))) r
  here {r = r} g d = record { says = g.says ∙ d; placed = subst (λ q. Placed l q r) (body_place n) g.placed }

  module _ (h : b.start < b.end) {x : Bool} (e : x ≡ begins0x (bytes_of l b)) where
    by_body : {y : Bool} → x ≡ y
        → cond y (range_of (words_bytes (gap_width true) (bytes_of l b))) (category_of (words_bytes (gap_width false) (bytes_of l b))) ≡ line_bytes (drop start (take end l))
    unfolding line_bytes
    by_body f =
        ap (λ z. cond z (range_of (words_bytes (gap_width true) (bytes_of l b))) (category_of (words_bytes (gap_width false) (bytes_of l b)))) (sym f ∙ e)
        ∙ sym (solid_line_lem (bytes_of l b) (drop (b.start + 1) (take b.end l)) (get_or l b.start 0) (uncons l b.start b.end h (n.inside h)))
        ∙ ap body_line_bytes n.bytes

    pub says_range : {r : Result Line ℕ} → x ≡ true → Says l (part b.start b.end) (range_of (words_bytes (gap_width true) (bytes_of l b))) r
        → Says l (body_part l start end) (line_bytes (drop start (take end l))) r
    says_range f g = here g (by_body f)

    pub says_category : {r : Result Line ℕ} → x ≡ false → Says l (part b.start b.end) (category_of (words_bytes (gap_width false) (bytes_of l b))) r
        → Says l (body_part l start end) (line_bytes (drop start (take end l))) r
    says_category f g = here g (by_body f)
