-- A name is read behind others: its length, its bytes, its rule; and names one behind another.
-- Assumes nothing.
use Prim.Native.Nat.{ℕ, zero, suc, ◌+◌, ◌*◌, ◌-◌, ◌≤◌, ◌<◌}
use native.Mathlib.Omega.{arith}
use mathlib.Core.Path.{◌≡◌, refl, sym, ap, ◌∙◌}
use mathlib.Core.Bool.{Bool, true, false, not, cond, ◌&&◌, ◌||◌}
use mathlib.Core.List.{List, [], ◌∷◌, ◌++◌, append-nil}
use lib.Dec.{leb, ltb}
use lib.ListN.{length, take, drop, set}
use borrow.Author.Tests.{le-leb, lt-leb, lt-ltb, le-ltb}
use Rattle.paper.specs.Sizes.{max_categories, max_name_bytes}
use Rattle.paper.specs.Refusals.{pack_rule}
use Rattle.paper.specs.Lists.{any, same}
use Rattle.paper.specs.Pack.Fields.{byte_width, name_length_width}
use Rattle.paper.specs.Computed.ReadPack.{Taken, short, taken, take_bytes, FieldStep, gave, broke, Reader, after_step}
use Rattle.paper.specs.Computed.ReadPack.{◌▹◌, give, settle, number, bytes_field, length_rule, name_rule, read_name, read_names}
use Rattle.paper.specs.Computed.Rules.{formed}
use Rattle.paper.specs.Tables.Layout.{name_slot_bytes, name_slot_size}
use Rattle.paper.specs.Tables.Lent.{patch}
use Rattle.mark.specs.Mark.{mark}
use Rattle.name_rules.proofs.Once.{any_snoc}
use Rattle.field.specs.Cursor.{rest, field_at, bytes_field_at, CopiedTo}
use Rattle.field.proofs.Promise.{run_on, run_size}
use Rattle.pack_field.specs.Parts.{max_place}
use Rattle.pack_names.specs.Names.{Store, Named, Naming, KeptIs, NameIn, NameIs, NamesIn}
use Rattle.pack_field.proofs.Steps.{go_on, stop, cut, keeps, breaks, behind, bytes_keep, bytes_break}
use Rattle.pack_field.proofs.Fill.{prepend, prepend_more, put_first}
use Rattle.pack_names.proofs.Names.{named_more}
use Rattle.std.specs.Prelude.{Err, Ok, Result}
use Rattle.field.specs.declared.BitCursor.{BitCursor}
use Rattle.paper.specs.declared.Refusal.{Refusal}

-- ---- a name's bytes

-- the bytes stand in the store, the slot and the mark beside them
module _ (p : List ℕ) (at len : ℕ) (near : at + byte_width * len ≤ max_place) (some : 1 ≤ len) (s₀ s₁ : Store) (i used next : ℕ)
    (few : i < max_categories) (fits : used + len ≤ max_name_bytes) (c : CopiedTo p (bytes_field_at p at len) used s₀.names s₁.names next)
    (slot : s₁.categories ≡ patch (name_slot_size * i) (name_slot_bytes (record { start = used; len = len })) s₀.categories)
    (marking : s₁.marks ≡ set s₀.marks i (mark (take len (drop used s₁.names)))) where
  size : length c.bytes ≡ len
  size = run_size p at len c.bytes next (rest p next) c.is

  entered : {ns : List (List ℕ)} → Named ns s₀ i used → Named (ns ++ (c.bytes ∷ [])) s₁ (i + 1) (used + len)
  entered z = named_more z s₁ len c.bytes size few fits c.put slot marking

  pub now_naming : Naming s₀ i used → Naming s₁ (i + 1) (used + len)
  now_naming z = record { before = z.before ++ (c.bytes ∷ []); held = entered z.held }

  module _ (r : Bool) (k : KeptIs s₁ i used len r) (ns : List (List ℕ)) (z : Named ns s₀ i used) where
    pub name_broken : r ≡ false → bytes_field len (name_rule ns) at (rest p at) ≡ broke pack_rule at
    name_broken h = bytes_break p at len near some (name_rule ns) c.is (sym (k ns c.bytes (entered z) size) ∙ h)

    pub name_in : r ≡ true → NameIn p at 0 (bytes_field len (name_rule ns) at (rest p at)) ns s₁ i used len next
    name_in h =
        let o = run_on p at len c.bytes next (rest p next) c.is in
        record {
          name = c.bytes;
          on = omega arith;
          reads = bytes_keep p at len near some (name_rule ns) c.is (sym (k ns c.bytes (entered z) size) ∙ h);
          size = size;
          held = entered z;
        }

-- ---- its length before them

length_none : (used v : ℕ) → v ≡ 0 → length_rule used v ≡ false
length_none used v e = rw (le-ltb 0 v (omega arith))

length_over : (used v : ℕ) → max_name_bytes < used + v → length_rule used v ≡ false
length_over used v h = go (ltb 0 v)
  where
    go : (b : Bool) → (b && leb (used + v) max_name_bytes) ≡ false
    go true = lt-leb _ _ h
    go false = refl

length_fits : (used v : ℕ) → 0 < v → used + v ≤ max_name_bytes → length_rule used v ≡ true
length_fits used v a b = rw (lt-ltb 0 v a, le-leb (used + v) max_name_bytes b)

module _ (p : List ℕ) (at used : ℕ) (near : at ≤ max_place) where
  pub length_cut : {n q : ℕ} → broke n q ≡ field_at p at name_length_width → (ns : List (List ℕ)) → read_name used ns at (rest p at) ≡ broke n q
  unfolding read_name
  length_cut e ns = stop _ _ (sym (cut p at name_length_width near (omega arith) (omega arith) pack_rule (length_rule used) e))

  module _ {v to : ℕ} (e : gave v to (rest p to) ≡ field_at p at name_length_width) where
    length_broken : length_rule used v ≡ false → (ns : List (List ℕ)) → read_name used ns at (rest p at) ≡ broke pack_rule at
    unfolding read_name
    length_broken f ns = stop _ _ (sym (breaks p at name_length_width near (omega arith) (omega arith) pack_rule (length_rule used) e f))

    pub no_length : v ≡ 0 → (ns : List (List ℕ)) → read_name used ns at (rest p at) ≡ broke pack_rule at
    no_length z = length_broken (length_none used v z)

    pub over_length : max_name_bytes < used + v → (ns : List (List ℕ)) → read_name used ns at (rest p at) ≡ broke pack_rule at
    over_length h = length_broken (length_over used v h)

    module _ (some : 0 < v) (fits : used + v ≤ max_name_bytes) where
      length_read : gave v to (rest p to) ≡ number name_length_width (length_rule used) at (rest p at)
      length_read = keeps p at name_length_width near (omega arith) (omega arith) pack_rule (length_rule used) e (length_fits used v some fits)

      pub length_on : to ≡ at + name_length_width
      length_on = (behind pack_rule name_length_width at (length_rule used) (rest p at) length_read).on

      name_is : (ns : List (List ℕ)) → read_name used ns at (rest p at) ≡ bytes_field v (name_rule ns) to (rest p to)
      unfolding read_name
      name_is ns = go_on _ _ (sym length_read) refl

      pub name_follows : (ns : List (List ℕ)) (s : Store) (i : ℕ) (r : Result (ℕ × BitCursor) Refusal) → NameIs p to 0 (bytes_field v (name_rule ns) to (rest p to)) ns s i used r
          → NameIs p at name_length_width (read_name used ns at (rest p at)) ns s i used r
      name_follows ns s i (Ok (len, c)) z =
          let o = length_on in
          let q = z.on in
          record { name = z.name; on = omega arith; reads = name_is ns ∙ z.reads; size = z.size; held = z.held }
      name_follows ns s i (Err r) z = name_is ns ∙ z

-- ---- all names

-- only which names stand before matters, and not their order
abbrev Alike : List (List ℕ) → List (List ℕ) → Type 0
Alike b c = (x : List ℕ) → any (same x) b ≡ any (same x) c

rule_alike : (b c : List (List ℕ)) → Alike b c → (name : List ℕ) → name_rule b name ≡ name_rule c name
unfolding name_rule
rule_alike b c h name = ap (λ x. formed name && not x) (h name)

bytes_alike : (n at : ℕ) (s : List ℕ) (b c : List (List ℕ)) → Alike b c → bytes_field n (name_rule b) at s ≡ bytes_field n (name_rule c) at s
unfolding bytes_field settle
bytes_alike n at s b c h = go (take_bytes n s)
  where
    go : (o : Taken (List ℕ)) → settle pack_rule (byte_width * n) at (name_rule b) o ≡ settle pack_rule (byte_width * n) at (name_rule c) o
    go short = refl
    go (taken v t) = ap (λ x. cond x (gave v (at + byte_width * n) t) (broke pack_rule at)) (rule_alike b c h v)

step_alike : {A B : Type 0} (o : FieldStep A) (f g : A → Reader B) → ((a : A) (at : ℕ) (s : List ℕ) → f a at s ≡ g a at s) → after_step o f ≡ after_step o g
unfolding after_step
step_alike (gave a at s) f g h = h a at s
step_alike (broke n q) f g h = refl

name_alike : (used at : ℕ) (s : List ℕ) (b c : List (List ℕ)) → Alike b c → read_name used b at s ≡ read_name used c at s
unfolding read_name ◌▹◌
name_alike used at s b c h =
    step_alike (number name_length_width (length_rule used) at s) (λ n. bytes_field n (name_rule b)) (λ n. bytes_field n (name_rule c)) (λ n a t. bytes_alike n a t b c h)

names_alike : (k used at : ℕ) (s : List ℕ) (b c : List (List ℕ)) → Alike b c → read_names k used b at s ≡ read_names k used c at s
unfolding read_names ◌▹◌
names_alike zero used at s b c h = refl
names_alike (suc k) used at s b c h =
    ap (λ o. after_step o (λ name. ◌▹◌ (read_names k (used + length name) (name ∷ b)) (λ names. give (name ∷ names)))) (name_alike used at s b c h)
    ∙ step_alike (read_name used c at s) _ _ (λ name a t.
    ap (λ o. after_step o (λ names. give (name ∷ names))) (names_alike k (used + length name) a t (name ∷ b) (name ∷ c) (λ x. ap (λ y. same x name || y) (h x))))

names_on : (k used at : ℕ) (s : List ℕ) (ns : List (List ℕ)) (name : List ℕ) (at₁ : ℕ) (s₁ : List ℕ) → read_name used ns at s ≡ gave name at₁ s₁
    → read_names (suc k) used ns at s ≡ prepend (name ∷ []) (read_names k (used + length name) (ns ++ (name ∷ [])) at₁ s₁)
unfolding read_names ◌▹◌ after_step
names_on k used at s ns name at₁ s₁ e =
    ap (λ o. after_step o (λ x. ◌▹◌ (read_names k (used + length x) (x ∷ ns)) (λ xs. give (x ∷ xs)))) e
    ∙ put_first name (read_names k (used + length name) (name ∷ ns) at₁ s₁)
    ∙ ap (prepend (name ∷ [])) (names_alike k (used + length name) at₁ s₁ (name ∷ ns) (ns ++ (name ∷ [])) (λ x. any_snoc (same x) ns name))

names_off : (k used at : ℕ) (s : List ℕ) (ns : List (List ℕ)) (n q : ℕ) → read_name used ns at s ≡ broke n q → read_names (suc k) used ns at s ≡ broke n q
unfolding read_names ◌▹◌ after_step
names_off k used at s ns n q e = ap (λ o. after_step o (λ x. ◌▹◌ (read_names k (used + length x) (x ∷ ns)) (λ xs. give (x ∷ xs)))) e

-- after i of n names
pub record NamesGoing (p : List ℕ) (at₀ n : ℕ) (s : Store) (at used i : ℕ) : Type 0 where
  pub all : List (List ℕ)
  pub upto : i ≤ n
  pub on : at ≡ at₀ + name_length_width * i + byte_width * used
  pub held : Named all s i used
  pub left : read_names n 0 [] at₀ (rest p at₀) ≡ prepend all (read_names (n - i) used all at (rest p at))

module _ (p : List ℕ) (at₀ n : ℕ) where
  module _ (s : Store) (at used i : ℕ) (z : NamesGoing p at₀ n s at used i) (lt : i < n) where
    pub name_off : {m q : ℕ} → read_name used z.all at (rest p at) ≡ broke m q → read_names n 0 [] at₀ (rest p at₀) ≡ broke m q
    name_off {m} {q} e =
        let k : n - i ≡ suc (n - (i + 1)) = omega arith in
        z.left ∙ ap (λ j. prepend z.all (read_names j used z.all at (rest p at))) k
        ∙ ap (prepend z.all) (names_off (n - (i + 1)) used at (rest p at) z.all m q e)

    pub name_more : (s₁ : Store) (len next : ℕ) → NameIn p at name_length_width (read_name used z.all at (rest p at)) z.all s₁ i used len next
        → NamesGoing p at₀ n s₁ next (used + len) (i + 1)
    name_more s₁ len next r =
        let k : n - i ≡ suc (n - (i + 1)) = omega arith in
        let o = z.on in
        let q = r.on in
        let u : used + length r.name ≡ used + len = ap (λ m. used + m) r.size in
        record {
          all = z.all ++ (r.name ∷ []);
          upto = omega arith;
          on = omega arith;
          held = r.held;
          left = z.left ∙ ap (λ m. prepend z.all (read_names m used z.all at (rest p at))) k
              ∙ ap (prepend z.all) (names_on (n - (i + 1)) used at (rest p at) z.all r.name next (rest p next) r.reads
              ∙ ap (λ m. prepend (r.name ∷ []) (read_names (n - (i + 1)) m (z.all ++ (r.name ∷ [])) next (rest p next))) u)
              ∙ prepend_more z.all r.name (read_names (n - (i + 1)) (used + len) (z.all ++ (r.name ∷ [])) next (rest p next));
        }

  pub all_names_lem : (s : Store) (at used i : ℕ) → NamesGoing p at₀ n s at used i → n ≤ i
      → NamesIn p at₀ (read_names n 0 [] at₀ (rest p at₀)) s.names s.categories n used at
  unfolding read_names give
  all_names_lem s at used i z h =
      let k : n - i ≡ 0 = omega arith in
      let u = z.upto in
      let o = z.on in
      let v : i ≡ n = omega arith in
      let y = z.held.holds in
      record {
        all = z.all;
        on = omega arith;
        reads = z.left ∙ ap (λ j. prepend z.all (read_names j used z.all at (rest p at))) k ∙ ap (λ m. gave m at (rest p at)) (append-nil z.all);
        held =
            record {
              count_is = sym v ∙ y.count_is;
              bytes_is = y.bytes_is;
              few = let f = y.few in omega arith;
              short = y.short;
              stored = y.stored;
              slotted = y.slotted;
            };
      }
