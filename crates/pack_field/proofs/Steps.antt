-- The paper's readers step by step, from what the cursor found: a field with its rule, and one reader behind another.
-- Assumes nothing.
use Prim.Native.Nat.{ℕ, ◌+◌, ◌*◌, ◌≤◌}
use native.Mathlib.Omega.{arith}
use mathlib.Core.Path.{◌≡◌, refl, sym, ap, ◌∙◌}
use mathlib.Core.Bool.{Bool, true, false, not, cond}
use mathlib.Core.List.{List}
use borrow.Author.Tests.{le-leb}
use Rattle.paper.specs.Refusals.{pack_rule}
use Rattle.paper.specs.Pack.Fields.{byte_width}
use Rattle.paper.specs.Computed.ReadPack.{Taken, short, taken, take_number, FieldStep, gave, broke, Reader}
use Rattle.paper.specs.Computed.ReadPack.{after_step, ◌▹◌, settle, field_or, number, free, take_bytes, bytes_field}
use Rattle.paper.proofs.Apart.{true_false}
use Rattle.paper.proofs.Pack.Verdict.{settle_got}
use Rattle.field.specs.Cursor.{widest, last_place, rest, field_at, any_bytes, bytes_field_at}
use Rattle.pack_field.specs.Parts.{max_place}

-- ---- one reader and what follows

module _ {A B : Type 0} {at at₁ : ℕ} {s s₁ : List ℕ} {a : A} {r : FieldStep B} (f : Reader A) (go : A → Reader B) where
  pub go_on : f at s ≡ gave a at₁ s₁ → go a at₁ s₁ ≡ r → ◌▹◌ f go at s ≡ r
  unfolding ◌▹◌ after_step
  go_on e h = ap (λ o. after_step o go) e ∙ h

pub stop : {A B : Type 0} {at n q : ℕ} {s : List ℕ} (f : Reader A) (go : A → Reader B) → f at s ≡ broke n q → ◌▹◌ f go at s ≡ broke n q
unfolding ◌▹◌ after_step
stop f go e = ap (λ o. after_step o go) e

-- ---- a field with its rule

judge : {A : Type 0} → ℕ → (A → Bool) → ℕ → FieldStep A → FieldStep A
judge n ok at (gave v to t) = cond (ok v) (gave v to t) (broke n at)
judge n ok at (broke m q) = broke m q

judged : {A : Type 0} (n w at : ℕ) (ok : A → Bool) (o : Taken A) → settle n w at ok o ≡ judge n ok at (settle pack_rule w at (λ v. true) o)
unfolding settle judge
judged n w at ok short = refl
judged n w at ok (taken v t) = refl

module _ (p : List ℕ) (at w : ℕ) (near : at ≤ max_place) (some : 1 ≤ w) (narrow : w ≤ widest) where
  free_field : field_at p at w ≡ number w free at (rest p at)
  unfolding field_at
  free_field =
      let h : at + w ≤ last_place = omega arith in
      rw (le-leb 1 w some, le-leb w widest narrow, le-leb (at + w) last_place h)

  module _ (n : ℕ) (ok : ℕ → Bool) where
    as_judged : field_or n w ok at (rest p at) ≡ judge n ok at (field_at p at w)
    unfolding field_or
    as_judged = judged n w at ok (take_number w 0 (rest p at)) ∙ ap (judge n ok at) (sym free_field)

    pub cut : {m q : ℕ} → broke m q ≡ field_at p at w → broke m q ≡ field_or n w ok at (rest p at)
    unfolding judge
    cut e = sym (as_judged ∙ ap (judge n ok at) (sym e))

    pub keeps : {v to : ℕ} {t : List ℕ} → gave v to t ≡ field_at p at w → ok v ≡ true → gave v to t ≡ field_or n w ok at (rest p at)
    unfolding judge
    keeps {v} {to} {t} e k = sym (as_judged ∙ ap (judge n ok at) (sym e) ∙ ap (λ b. cond b (gave v to t) (broke n at)) k)

    pub breaks : {v to : ℕ} {t : List ℕ} → gave v to t ≡ field_at p at w → ok v ≡ false → broke n at ≡ field_or n w ok at (rest p at)
    unfolding judge
    breaks {v} {to} {t} e k = sym (as_judged ∙ ap (judge n ok at) (sym e) ∙ ap (λ b. cond b (gave v to t) (broke n at)) k)

-- so many bytes, one field

module _ (p : List ℕ) (at len : ℕ) (near : at + byte_width * len ≤ max_place) (some : 1 ≤ len) (ok : List ℕ → Bool) where
  any_bytes_lem : bytes_field_at p at len ≡ bytes_field len any_bytes at (rest p at)
  unfolding bytes_field_at
  any_bytes_lem =
      let h : at + byte_width * len ≤ last_place = omega arith in
      rw (le-leb 1 len some, le-leb (at + byte_width * len) last_place h)

  bytes_judged : bytes_field len ok at (rest p at) ≡ judge pack_rule ok at (bytes_field_at p at len)
  unfolding bytes_field
  bytes_judged = judged pack_rule (byte_width * len) at ok (take_bytes len (rest p at)) ∙ ap (judge pack_rule ok at) (sym any_bytes_lem)

  pub bytes_cut : {m q : ℕ} → bytes_field_at p at len ≡ broke m q → bytes_field len ok at (rest p at) ≡ broke m q
  unfolding judge
  bytes_cut e = bytes_judged ∙ ap (judge pack_rule ok at) e

  module _ {bs : List ℕ} {to : ℕ} {t : List ℕ} (e : bytes_field_at p at len ≡ gave bs to t) where
    pub bytes_keep : ok bs ≡ true → bytes_field len ok at (rest p at) ≡ gave bs to t
    unfolding judge
    bytes_keep k = bytes_judged ∙ ap (judge pack_rule ok at) e ∙ ap (λ b. cond b (gave bs to t) (broke pack_rule at)) k

    pub bytes_break : ok bs ≡ false → bytes_field len ok at (rest p at) ≡ broke pack_rule at
    unfolding judge
    bytes_break k = bytes_judged ∙ ap (judge pack_rule ok at) e ∙ ap (λ b. cond b (gave bs to t) (broke pack_rule at)) k

-- where a field that was read ends, and that it keeps its rule
pub record Behind (w at : ℕ) (ok : ℕ → Bool) (v to : ℕ) : Type 0 where
  pub on : to ≡ at + w
  pub kept : ok v ≡ true

pub behind : (n w at : ℕ) (ok : ℕ → Bool) (s : List ℕ) {v to : ℕ} {t : List ℕ} → gave v to t ≡ field_or n w ok at s → Behind w at ok v to
unfolding field_or
behind n w at ok s {v} {to} {t} e =
    let (o, k, i) = settle_got n w at ok (take_number w 0 s) v to t (sym e) in
    record { on = sym i; kept = k }

-- rules that agree on every number
pub alike : (n w at : ℕ) (ok ok' : ℕ → Bool) (s : List ℕ) → ((v : ℕ) → ok v ≡ ok' v) → field_or n w ok at s ≡ field_or n w ok' at s
unfolding field_or settle
alike n w at ok ok' s h = go (take_number w 0 s)
  where
    go : (o : Taken ℕ) → settle n w at ok o ≡ settle n w at ok' o
    go short = refl
    go (taken v t) = ap (λ b. cond b (gave v (at + w) t) (broke n at)) (h v)

-- the code tests the opposite
pub fails : (b c : Bool) → b ≡ c → not b ≡ true → c ≡ false
fails true c e n = true_false (sym n)
fails false c e n = sym e

pub passes : (b c : Bool) → b ≡ c → not b ≡ false → c ≡ true
passes true c e n = sym e
passes false c e n = true_false n
