-- The first broken field of a pack: the reader refuses a pack exactly by it, a pack has one at most, and a pack without one is the pack of one
-- reading. Two beginnings of the same bits are the same as far as both go, since a field's bits say one value.
-- Assumes nothing.
use Prim.Native.Nat.{ℕ, ◌^◌, ◌<◌}
use native.Mathlib.Omega.{arith}
use mathlib.Core.Path.{◌≡◌, refl, sym, ap, ap₂, ◌∙◌, subst}
use mathlib.Core.Logic.{◌⊎◌, inl, inr, ◌↔◌}
use mathlib.Core.List.{List, [], ◌∷◌, ◌++◌, append_assoc}
use mathlib.Core.Option.{Option, none, some}
use lib.Dec.{T}
use lib.ListN.{length, length-append}
use Rattle.paper.specs.Refusals.{pack_ends, pack_rule, pack_left_over}
use Rattle.paper.specs.Lists.{all}
use Rattle.paper.specs.Numbers.Bytes.{is_byte}
use Rattle.paper.specs.CharDef.Reading.{Reading, Answer, accepted, refused}
use Rattle.paper.specs.Pack.Fields.{Field, field, bits, spell, pack_bytes}
use Rattle.paper.specs.Pack.Rules.{PackRules}
use Rattle.paper.specs.Pack.Broken.{Due, version_field, Next, due, end, width, refusal, Keeps, after, Begins, nothing_yet, one_more, Reaches, Fills, Broken, ends, breaks, adds_up_wrong, left_over, OnePack, OneBroken}
use Rattle.paper.specs.Computed.ReadPack.{taken, take_number, read_pack}
use Rattle.paper.proofs.Apart.{zero_one, refused_accepted}
use Rattle.paper.proofs.Pack.Size.{bits_length}
use Rattle.paper.proofs.Pack.Bits.{number_taken}
use Rattle.paper.proofs.Pack.Trip.{write_read, read_rules, read_write}
use Rattle.paper.proofs.Pack.Follow.{Complete, refused_broken, accepted_complete}

-- ---- fields from the front

data Walk : Next → List Field → Next → Type 0 where
  here : {x : Next} → Walk x [] x
  there : {x : Due} {fs : List Field} {y : Next} (v : ℕ) → v < 2 ^ width x → Keeps x v → Walk (after x v) fs y → Walk (due x) (field (width x) v ∷ fs) y

walk_more : {x : Next} {fs : List Field} {y : Due} (v : ℕ) → Walk x fs (due y) → v < 2 ^ width y → Keeps y v → Walk x (fs ++ (field (width y) v ∷ [])) (after y v)
walk_more v here lt k = there v lt k here
walk_more v (there u lu ku w) lt k = there u lu ku (walk_more v w lt k)

walked : {fs : List Field} {x : Next} → Begins fs x → Walk (due version_field) fs x
walked nothing_yet = here
walked (one_more v b lt k) = walk_more v (walked b) lt k

-- ---- where a walk stops

-- with a refusal's number, or none where the pack is complete
data Stop : Next → List ℕ → Option ℕ → Type 0 where
  at_end : {x : Due} {s : List ℕ} → length s < width x → Stop (due x) s (some pack_ends)
  at_rule : {x : Due} {s : List ℕ} (v : ℕ) (t : List ℕ) → s ≡ bits (width x) v ++ t → v < 2 ^ width x → (Keeps x v → ⊥) → Stop (due x) s (some (refusal x))
  at_total : {n total : ℕ} {s : List ℕ} → (n ≡ total → ⊥) → Stop (end n total) s (some pack_rule)
  at_padding : {n total : ℕ} {s : List ℕ} → n ≡ total → (Fills s → ⊥) → Stop (end n total) s (some pack_left_over)
  nowhere : {n total : ℕ} {s : List ℕ} → n ≡ total → Fills s → Stop (end n total) s none

-- a field's bits say one value
same_value : (w v u : ℕ) (s t : List ℕ) → v < 2 ^ w → u < 2 ^ w → bits w v ++ s ≡ bits w u ++ t → (v ≡ u) × (s ≡ t)
same_value w v u s t lv lu e =
    let d : taken v s ≡ taken u t = sym (number_taken w v s lv) ∙ ap (take_number w 0) e ∙ number_taken w u t lu in
    let ev : v ≡ u = cc in
    let es : s ≡ t = cc in
    (ev, es)

too_long : (w v : ℕ) (s t : List ℕ) → s ≡ bits w v ++ t → length s < w → ⊥
too_long w v s t e h =
    let k : length s ≡ length (bits w v ++ t) = ap length e in
    let l = length-append (bits w v) t in
    let m = bits_length w v in
    omega arith

stop_one : {x : Next} {s : List ℕ} {a b : Option ℕ} → Stop x s a → Stop x s b → a ≡ b
stop_one (at_end h) (at_end k) = refl
stop_one {s} (at_end {x = x} h) (at_rule v t e lt n) = absurd (too_long (width x) v s t e h)
stop_one {s} (at_rule {x = x} v t e lt n) (at_end h) = absurd (too_long (width x) v s t e h)
stop_one (at_rule v t e lt n) (at_rule u r d lu m) = refl
stop_one (at_total n) (at_total m) = refl
stop_one (at_total n) (at_padding e f) = absurd (n e)
stop_one (at_total n) (nowhere e f) = absurd (n e)
stop_one (at_padding e f) (at_total n) = absurd (n e)
stop_one (at_padding e f) (at_padding d g) = refl
stop_one (at_padding e f) (nowhere d g) = absurd (f g)
stop_one (nowhere e f) (at_total n) = absurd (n e)
stop_one (nowhere e f) (at_padding d g) = absurd (g f)
stop_one (nowhere e f) (nowhere d g) = refl

no_stop : {x : Due} {s : List ℕ} {a : Option ℕ} (v : ℕ) (t : List ℕ) → Stop (due x) s a → s ≡ bits (width x) v ++ t → v < 2 ^ width x → Keeps x v → ⊥
no_stop {x} {s} v t (at_end h) e lt k = too_long (width x) v s t e h
no_stop {x} {s} v t (at_rule u r d lu n) e lt k =
    let (ev, es) = same_value (width x) v u t r lt lu (sym e ∙ d) in
    n (subst (Keeps x) ev k)

walk_one : {x y z : Next} {fs gs : List Field} {s t : List ℕ} {a b : Option ℕ} → Walk x fs y → Walk x gs z → spell fs ++ s ≡ spell gs ++ t
    → Stop y s a → Stop z t b → (length (spell fs) ≡ length (spell gs)) × (a ≡ b)
walk_one {x} {b} here here e p q = (refl, stop_one p (subst (λ l. Stop x l b) (sym e) q))
walk_one {s} {t} here (there {x = x} {fs = gs} v lt k w) e p q = absurd (no_stop v (spell gs ++ t) p (e ∙ append_assoc (bits (width x) v) (spell gs) t) lt k)
walk_one {s} {t} (there {x = x} {fs = fs} v lt k w) here e p q = absurd (no_stop v (spell fs ++ s) q (sym e ∙ append_assoc (bits (width x) v) (spell fs) s) lt k)
walk_one {z} {s} {t} (there {x = x} {fs = fs} v lt k w) (there {fs = gs} u lu m r) e p q =
    let d = same_value (width x) v u (spell fs ++ s) (spell gs ++ t) lt lu
    (sym (append_assoc (bits (width x) v) (spell fs) s) ∙ e ∙ append_assoc (bits (width x) u) (spell gs) t) in
    let (el, ea) = walk_one w (subst (λ u. Walk (after x u) gs z) (sym d.0) r) d.1 p q in
    let a = length-append (bits (width x) v) (spell fs) in
    let b = length-append (bits (width x) u) (spell gs) in
    let c = bits_length (width x) v in
    let f = bits_length (width x) u in
    (omega arith, ea)

-- ---- a pack stops once

record Stops (p : List ℕ) (at : ℕ) (a : Option ℕ) : Type 0 where
  next : Next
  rest : List ℕ
  reaches : Reaches p at next rest
  stop : Stop next rest a

stops_one : (p : List ℕ) (i j : ℕ) (a b : Option ℕ) → Stops p i a → Stops p j b → (i ≡ j) × (a ≡ b)
stops_one p i j a b x y =
    let r = x.reaches in
    let q = y.reaches in
    let (e, d) = walk_one (walked r.begins) (walked q.begins) (sym r.whole ∙ q.whole) x.stop y.stop in
    (sym r.starts ∙ e ∙ q.starts, d)

broken_stops : {p : List ℕ} {n at : ℕ} → Broken p n at → Stops p at (some n)
broken_stops (ends {x = x} {rest = s} r h) = record { next = due x; rest = s; reaches = r; stop = at_end h }
broken_stops (breaks {x = x} v s r lt n) = record { next = due x; rest = bits (width x) v ++ s; reaches = r; stop = at_rule v s refl lt n }
broken_stops (adds_up_wrong {n = n} {total = m} {rest = s} r h) = record { next = end n m; rest = s; reaches = r; stop = at_total h }
broken_stops (left_over {rest = s} r h) = record { next = _; rest = s; reaches = r; stop = at_padding refl h }

complete_stops : {p : List ℕ} (c : Complete p) → Stops p c.place none
complete_stops c = record { next = end c.total c.total; rest = c.rest; reaches = c.reaches; stop = nowhere refl c.fills }

-- ---- the theorems

-- a pack has one first broken field at most
pub broken_one : (p : List ℕ) (n m i j : ℕ) → Broken p n i → Broken p m j → (n ≡ m) × (i ≡ j)
broken_one p n m i j x y =
    let (e, d) = stops_one p i j (some n) (some m) (broken_stops x) (broken_stops y) in
    let en : n ≡ m = cc in
    (en, e)

-- what is accepted has none
pub accepted_whole : (p : List ℕ) (r : Reading) (n at : ℕ) → read_pack p ≡ accepted r → Broken p n at → ⊥
accepted_whole p r n at h x =
    let c = accepted_complete p r h in
    let (e, d) = stops_one p at c.place (some n) none (broken_stops x) (complete_stops c) in
    zero_one (cc)

-- a pack is refused exactly by its first broken field
pub refused_exactly : (p : List ℕ) (n at : ℕ) → (read_pack p ≡ refused n at) ↔ Broken p n at
refused_exactly p n at = (refused_broken p n at, λ x. go (read_pack p) refl x)
  where
    go : (o : Answer) → read_pack p ≡ o → Broken p n at → read_pack p ≡ refused n at
    go (accepted r) e x = absurd (accepted_whole p r n at e x)
    go (refused m j) e x =
        let (en, ej) = broken_one p m n j at (refused_broken p m j e) x in
        e ∙ ap₂ refused en ej

-- every pack of bytes is the one or the other
pub read_or_broken : (p : List ℕ) → T (all is_byte p) → ((r : Reading) × OnePack p r) ⊎ ((n : ℕ) × (at : ℕ) × OneBroken p n at)
read_or_broken p bytes = go (read_pack p) refl
  where
    accepts : (q : Reading) → PackRules q → pack_bytes q ≡ p → read_pack p ≡ accepted q
    accepts q k e = ap read_pack (sym e) ∙ write_read q k

    go : (o : Answer) → read_pack p ≡ o → ((r : Reading) × OnePack p r) ⊎ ((n : ℕ) × (at : ℕ) × OneBroken p n at)
    go (accepted r) e =
        inl (
          r,
          record {
            rules = read_rules p r e;
            written = read_write p r bytes e;
            only = λ q k w. let d : accepted q ≡ accepted r = sym (accepts q k w) ∙ e in cc;
            unbroken = λ n at x. accepted_whole p r n at e x;
          },
        )
    go (refused n at) e =
        inr (
          n,
          at,
          record {
            broken = refused_broken p n at e;
            only = λ m j x. broken_one p m n j at x (refused_broken p n at e);
            no_pack = λ q k w. refused_accepted (sym e ∙ accepts q k w);
          },
        )
