-- The words of a range line, counted and entered one after another: what is left of them gives the whole.
-- Assumes nothing.
use Prim.Native.Nat.{ℕ, zero, suc, ◌+◌, ◌*◌, ◌-◌, ◌≤◌, ◌<◌}
use native.Mathlib.Omega.{arith}
use mathlib.Core.Path.{◌≡◌, refl, sym, ap, ap₂, ◌∙◌, subst}
use mathlib.Core.Bool.{Bool, true, false, cond, ◌||◌}
use mathlib.Core.List.{List, [], ◌∷◌, ◌++◌, map, append_assoc, append-nil}
use lib.Dec.{T}
use lib.ListN.{length, take, drop, set, length-append, length-map}
use mir.Facts.{and_yes, yes_and}
use Rattle.paper.specs.Sizes.{max_categories, max_name_bytes}
use Rattle.paper.specs.Lists.{all, any, words, same, position_of, joined}
use Rattle.paper.proofs.Lists.Parts.{nothing, part_length}
use Rattle.paper.proofs.Lists.Facts.{true→T, all_imp}
use Rattle.paper.proofs.Lists.Seen.{same_eq, position_stays}
use Rattle.paper.specs.Computed.ReadText.{intern, intern_one, Interned, names_are, full_at, after_one}
use Rattle.paper.specs.Numbers.Bytes.{le}
use Rattle.paper.specs.Tables.Lent.{patch}
use Rattle.paper.proofs.Tables.Laws.{patch_in, patch_length, table_length}
use Rattle.paper.proofs.Tables.Trip.{wide_number}
use Rattle.paper.proofs.Tables.Append.{patch_patch, table_snoc}
use Rattle.scan.specs.Marks.{words_bytes, gap_width, byte, in_gap}
use Rattle.scan.proofs.Bridge.{marks_nil}
use Rattle.scan.specs.declared.Part.{Part}
use Rattle.scan.specs.Answer.{word_and, bytes_of, NextWord}
use Rattle.name.specs.declared.Numbered.{Numbered}
use Rattle.slot.specs.Laid.{Laid}
use Rattle.name.specs.Names.{Numbers, Enters, Room}
use Rattle.paper.specs.declared.Counts.{Counts}
use Rattle.entry.specs.Steps.{words_of, Ready, AllIn}
use Rattle.std.specs.Prelude.{Err, Ok}

-- ---- one word

no_words : (l : List ℕ) → l ≡ [] → words_of l ≡ []
unfolding words_of words_bytes
no_words l e = ap (λ (s : List ℕ). words_bytes (gap_width true) s) e ∙ ap (λ ms. map (map byte) (words in_gap ms)) (marks_nil (gap_width true))

pub ended : (text : List ℕ) (at end : ℕ) → end ≤ at → words_of (drop at (take end text)) ≡ []
ended text at end h = no_words (drop at (take end text)) (nothing text at end h)

module _ (text : List ℕ) (at end : ℕ) (w : Part) (n : NextWord text at end true w) where
  pub no_word : w.end ≤ w.start → words_of (drop at (take end text)) ≡ []
  unfolding words_of
  no_word h = n.words ∙ ap (λ s. word_and s (words_bytes (gap_width true) (drop w.end (take end text)))) (nothing text w.start w.end h)

  pub a_word : w.start < w.end → words_of (drop at (take end text)) ≡ bytes_of text w ∷ words_of (drop w.end (take end text))
  unfolding words_of
  a_word h =
      let k = n.inside h in
      let e : length (bytes_of text w) ≡ w.end - w.start = part_length text w.start w.end k in
      n.words ∙ go (bytes_of text w) (omega arith)
    where
      go : (s : List ℕ) → 0 < length s → word_and s (words_bytes (gap_width true) (drop w.end (take end text))) ≡ s ∷ words_bytes (gap_width true) (drop w.end (take end text))
      go [] z = absurd (omega arith)
      go (b ∷ s) z = refl

-- ---- counting

pub record Counting (text : List ℕ) (start end at n : ℕ) : Type 0 where
  pub order : start ≤ at
  pub upto : at ≤ end
  pub within : end ≤ length text
  pub few : n ≤ at
  pub is : n + length (words_of (drop at (take end text))) ≡ length (words_of (drop start (take end text)))

pub count_start : (text : List ℕ) (start end : ℕ) → start ≤ end → end ≤ length text → Counting text start end start 0
count_start text start end o w = record { order = omega arith; upto = o; within = w; few = omega arith; is = omega arith }

module _ {text : List ℕ} {start end at n : ℕ} (z : Counting text start end at n) where
  pub count_none : (w : Part) → NextWord text at end true w → w.end ≤ w.start → n ≡ length (words_of (drop start (take end text)))
  count_none w x h =
      let e : length (words_of (drop at (take end text))) ≡ 0 = ap length (no_word text at end w x h) in
      let i = z.is in
      omega arith

  pub count_on : (w : Part) → NextWord text at end true w → w.start < w.end → Counting text start end w.end (n + 1)
  count_on w x h =
      let e : length (words_of (drop at (take end text))) ≡ suc (length (words_of (drop w.end (take end text)))) = ap length (a_word text at end w x h) in
      let i = z.is in
      let o = z.order in
      let u = z.upto in
      let f = z.few in
      let g = x.from in
      let k = x.within u in
      record { order = omega arith; upto = k; within = z.within; few = omega arith; is = omega arith }

  pub count_done : end ≤ at → n ≡ length (words_of (drop start (take end text)))
  count_done h =
      let e : length (words_of (drop at (take end text))) ≡ 0 = ap length (ended text at end h) in
      let i = z.is in
      omega arith

-- ---- numbers stay

any_grows : (w : List ℕ) (ns more : List (List ℕ)) → T (any (same w) ns) → T (any (same w) (ns ++ more))
any_grows w [] more t = absurd t
any_grows w (x ∷ ns) more t = go (same w x) t (any_grows w ns more)
  where
    go : (b : Bool) → T (b || any (same w) ns) → (T (any (same w) ns) → T (any (same w) (ns ++ more))) → T (b || any (same w) (ns ++ more))
    go true s ih = tt
    go false s ih = ih s

position_less : (w : List ℕ) (ns : List (List ℕ)) → any (same w) ns ≡ true → position_of same w ns < length ns
position_less w [] e = absurd (let z : ◌≡◌ {A = ℕ} 0 1 = cc in omega arith)
position_less w (x ∷ ns) e = go (same w x) e (position_less w ns)
  where
    go : (b : Bool) → (b || any (same w) ns) ≡ true → (any (same w) ns ≡ true → position_of same w ns < length ns)
        → cond b zero (suc (position_of same w ns)) < suc (length ns)
    go true e ih = omega arith
    go false e ih = let h = ih e in omega arith

numbers_stay : (ns more ws : List (List ℕ)) → T (all (λ w. any (same w) ns) ws)
    → map (λ w. position_of same w ns) ws ≡ map (λ w. position_of same w (ns ++ more)) ws
numbers_stay ns more [] t = refl
numbers_stay ns more (w ∷ ws) t =
    let h = and_yes (any (same w) ns) (all (λ w. any (same w) ns) ws) t in
    ap₂ (λ (k : ℕ) (l : List ℕ). k ∷ l) (sym (position_stays same same_eq w ns more h.0)) (numbers_stay ns more ws h.1)

map_snoc : (f : List ℕ → ℕ) (ws : List (List ℕ)) (w : List ℕ) → map f (ws ++ (w ∷ [])) ≡ map f ws ++ (f w ∷ [])
map_snoc f [] w = refl
map_snoc f (x ∷ ws) w = ap (λ (l : List ℕ). f x ∷ l) (map_snoc f ws w)

all_snoc : (p : List ℕ → Bool) (ws : List (List ℕ)) (w : List ℕ) → T (all p ws) → T (p w) → T (all p (ws ++ (w ∷ [])))
all_snoc p [] w t u = yes_and (p w) true u tt
all_snoc p (x ∷ ws) w t u = let h = and_yes (p x) (all p ws) t in yes_and (p x) (all p (ws ++ (w ∷ []))) h.0 (all_snoc p ws w h.1 u)

-- ---- entering

pub record SoFar (names ws : List (List ℕ)) (n : ℕ) (refs₀ store slots refs : List ℕ) (rest : List (List ℕ)) (next many used : ℕ) : Type 0 where
  pub now_names : List (List ℕ)
  pub done : List (List ℕ)
  pub cut : ws ≡ done ++ rest
  pub runs : intern ws names ≡ intern rest now_names
  pub laid_now : Laid now_names store slots many used
  pub next_is : next ≡ n + length done
  pub there : T (all (λ w. any (same w) now_names) done)
  pub put : refs ≡ patch (2 * n) (joined (map (le 2) (map (λ w. position_of same w now_names) done))) refs₀

intern_on : (w : List ℕ) (rest names now_names : List (List ℕ)) → intern_one names w ≡ names_are now_names → intern (w ∷ rest) names ≡ intern rest now_names
unfolding intern
intern_on w rest names now_names e = ap (λ (x : Interned). after_one x (λ m. intern rest m)) e

intern_full : (w : List ℕ) (rest names : List (List ℕ)) (k : ℕ) → intern_one names w ≡ full_at k → intern (w ∷ rest) names ≡ full_at k
unfolding intern
intern_full w rest names k e = ap (λ (x : Interned). after_one x (λ m. intern rest m)) e

intern_none : (names : List (List ℕ)) → intern [] names ≡ names_are names
unfolding intern
intern_none names = refl

module _ {names ws : List (List ℕ)} {n : ℕ} {refs₀ store slots refs : List ℕ} {rest : List (List ℕ)} {next many used : ℕ}
    (s : SoFar names ws n refs₀ store slots refs rest next many used) where
  on : (w : List ℕ) (rest' : List (List ℕ)) → rest ≡ w ∷ rest' → (store' slots' refs' : List ℕ) (e : Numbered)
      → Numbers s.now_names w store' slots' e → refs' ≡ patch (2 * next) (le 2 e.number) refs → 2 * (n + length ws) ≤ length refs₀
      → SoFar names ws n refs₀ store' slots' refs' rest' (next + 1) e.count e.bytes
  on w rest' r store' slots' refs' e u p room =
      let ns : List (List ℕ) = s.now_names in
      let ns' : List (List ℕ) = u.now_names in
      let d : List (List ℕ) = s.done in
      let l : length (s.done ++ (w ∷ [])) ≡ length s.done + 1 = length-append s.done (w ∷ []) in
      let k : length ws ≡ length s.done + length rest = ap length s.cut ∙ length-append s.done rest in
      let k' : length rest ≡ suc (length rest') = ap length r in
      let x = s.next_is in
      let f : List ℕ = map (λ v. position_of same v u.now_names) s.done in
      let a : length (joined (map (le 2) (map (λ v. position_of same v u.now_names) s.done))) ≡ 2 * length (map (λ v. position_of same v u.now_names) s.done) = table_length 2 (le 2) wide_number (map (λ v. position_of same v u.now_names) s.done) in
      let b : length (map (λ v. position_of same v u.now_names) s.done) ≡ length s.done = length-map s.done (λ v. position_of same v u.now_names) in
      let stay : map (λ v. position_of same v s.now_names) s.done ≡ map (λ v. position_of same v u.now_names) s.done =
      numbers_stay s.now_names u.more s.done s.there ∙ ap (λ (m : List (List ℕ)). map (λ v. position_of same v m) s.done) (sym u.grown) in
      record {
        now_names = u.now_names;
        done = s.done ++ (w ∷ []);
        cut = s.cut ∙ ap (λ (m : List (List ℕ)). s.done ++ m) r ∙ sym (append_assoc s.done (w ∷ []) rest');
        runs = s.runs ∙ ap (λ (m : List (List ℕ)). intern m s.now_names) r ∙ intern_on w rest' s.now_names u.now_names u.entered;
        laid_now = u.laid_now;
        next_is = omega arith;
        there = all_snoc (λ v. any (same v) u.now_names) s.done w
            (all_imp (λ v. any (same v) s.now_names) (λ v. any (same v) u.now_names)
            (λ v t. subst (λ (m : List (List ℕ)). T (any (same v) m)) (sym u.grown) (any_grows v s.now_names u.more t)) s.done s.there)
            (true→T _ u.there);
        put = p ∙ ap₂ (λ (v : ℕ) (m : List ℕ). patch (2 * next) (le 2 v) m) u.number_is s.put
            ∙ ap (λ (m : List ℕ). patch (2 * next) (le 2 (position_of same w u.now_names)) (patch (2 * n) (joined (map (le 2) m)) refs₀)) stay
            ∙ patch_patch (2 * n) (2 * next) (joined (map (le 2) (map (λ v. position_of same v u.now_names) s.done))) (le 2 (position_of same w u.now_names)) refs₀ (omega arith) (omega arith)
            ∙ ap (λ (m : List ℕ). patch (2 * n) m refs₀)
            (sym (table_snoc (le 2) (map (λ v. position_of same v u.now_names) s.done) (position_of same w u.now_names))
            ∙ ap (λ (m : List ℕ). joined (map (le 2) m)) (sym (map_snoc (λ v. position_of same v u.now_names) s.done w)));
      }

  over : rest ≡ [] → (c d : Counts) → c.references ≡ n → d.categories ≡ many → d.bytes ≡ used → d.references ≡ next → d.definitions ≡ c.definitions
      → AllIn names ws c refs₀ store slots refs d
  over r c d o p q x y =
      let e : s.done ≡ ws = sym (s.cut ∙ ap (λ (m : List (List ℕ)). s.done ++ m) r ∙ append-nil s.done) in
      record {
        now_names = s.now_names;
        entered = s.runs ∙ ap (λ (m : List (List ℕ)). intern m s.now_names) r ∙ intern_none s.now_names;
        laid_now = subst (λ (k : ℕ). Laid s.now_names store slots k d.bytes) (sym p) (subst (λ (k : ℕ). Laid s.now_names store slots many k) (sym q) s.laid_now);
        references_are = x ∙ s.next_is ∙ ap (λ (m : List (List ℕ)). n + length m) e ∙ ap (λ (k : ℕ). k + length ws) (sym o);
        definitions_stay = y;
        put = s.put ∙ ap (λ (m : List (List ℕ)). patch (2 * n) (joined (map (le 2) (map (λ w. position_of same w s.now_names) m))) refs₀) e
            ∙ ap (λ (k : ℕ). patch (2 * k) (joined (map (le 2) (map (λ w. position_of same w s.now_names) ws))) refs₀) (sym o);
      }

pub record Entering (text store₀ slots₀ refs₀ : List ℕ) (c : Counts) (start end : ℕ) (store slots refs : List ℕ) (at : ℕ) (d : Counts) : Type 0 where
  pub ready : Ready store₀ slots₀ refs₀ text c start end
  pub upto : at ≤ end
  pub within : end ≤ length text
  pub store_long : max_name_bytes ≤ length store
  pub slots_long : max_categories ≤ length slots
  pub store_kept : length store ≡ length store₀
  pub slots_kept : length slots ≡ length slots₀
  pub refs_kept : length refs ≡ length refs₀
  pub many_few : d.categories ≤ max_categories
  pub used_short : d.bytes ≤ max_name_bytes
  pub definitions_stay : d.definitions ≡ c.definitions
  pub each : (names : List (List ℕ)) → Laid names store₀ slots₀ c.categories c.bytes
      → SoFar names (words_of (drop start (take end text))) c.references refs₀ store slots refs (words_of (drop at (take end text))) d.references d.categories d.bytes

pub enter_start : {text store slots refs : List ℕ} {c : Counts} {start end : ℕ} → Ready store slots refs text c start end
    → Entering text store slots refs c start end store slots refs start c
enter_start {text} {store} {slots} {refs} {c} {start} {end} z =
    let room = z.room in
    record {
      ready = z;
      upto = z.order;
      within = z.within;
      store_long = z.store_long;
      slots_long = z.slots_long;
      store_kept = refl;
      slots_kept = refl;
      refs_kept = refl;
      many_few = z.laid.few;
      used_short = z.laid.short;
      definitions_stay = refl;
      each = λ names l. record {
        now_names = names;
        done = [];
        cut = refl;
        runs = refl;
        laid_now = l;
        next_is = omega arith;
        there = tt;
        put = patch_in (2 * c.references) [] refs (omega arith);
      };
    }

module _ {text store₀ slots₀ refs₀ : List ℕ} {c : Counts} {start end : ℕ} {store slots refs : List ℕ} {at : ℕ} {d : Counts}
    (z : Entering text store₀ slots₀ refs₀ c start end store slots refs at d) where
  pub enter_none : (w : Part) → NextWord text at end true w → w.end ≤ w.start → (names : List (List ℕ)) → Laid names store₀ slots₀ c.categories c.bytes
      → AllIn names (words_of (drop start (take end text))) c refs₀ store slots refs d
  enter_none w x h names l = over (z.each names l) (no_word text at end w x h) c d refl refl refl refl z.definitions_stay

  pub enter_done : end ≤ at → (names : List (List ℕ)) → Laid names store₀ slots₀ c.categories c.bytes
      → AllIn names (words_of (drop start (take end text))) c refs₀ store slots refs d
  enter_done h names l = over (z.each names l) (ended text at end h) c d refl refl refl refl z.definitions_stay

  module _ (w : Part) (x : NextWord text at end true w) (h : w.start < w.end) where
    pub enter_room : Room store slots text d.categories d.bytes w.start w.end
    enter_room =
        record {
          store_long = z.store_long;
          slots_long = z.slots_long;
          count_small = z.many_few;
          bytes_small = z.used_short;
          order = omega arith;
          within = x.inside h;
        }

    -- places that are left
    pub enter_fits : d.references + 1 ≤ c.references + length (words_of (drop start (take end text)))
    enter_fits =
        let s = z.each z.ready.names z.ready.laid in
        let e : length (words_of (drop at (take end text))) ≡ suc (length (words_of (drop w.end (take end text)))) = ap length (a_word text at end w x h) in
        let k : length (words_of (drop start (take end text))) ≡ length s.done + length (words_of (drop at (take end text))) = ap length s.cut ∙ length-append s.done (words_of (drop at (take end text))) in
        let y = s.next_is in
        omega arith

    pub enter_stops : (k : ℕ) (store' slots' : List ℕ) → Enters store slots d.categories d.bytes (bytes_of text w) store' slots' (Err k)
        → (names : List (List ℕ)) → Laid names store₀ slots₀ c.categories c.bytes → intern (words_of (drop start (take end text))) names ≡ full_at k
    enter_stops k store' slots' f names l =
        let s = z.each names l in
        s.runs ∙ ap (λ (m : List (List ℕ)). intern m s.now_names) (a_word text at end w x h)
        ∙ intern_full (bytes_of text w) (words_of (drop w.end (take end text))) s.now_names k (f s.now_names s.laid_now).full

    module _ (e : Numbered) (store' slots' : List ℕ) (f : Enters store slots d.categories d.bytes (bytes_of text w) store' slots' (Ok e)) where
      here : Numbers (z.each z.ready.names z.ready.laid).now_names (bytes_of text w) store' slots' e
      here = let s = z.each z.ready.names z.ready.laid in f s.now_names s.laid_now

      pub enter_number : e.number < max_categories
      enter_number =
          let u = here in
          let p : position_of same (bytes_of text w) u.now_names < length u.now_names = position_less (bytes_of text w) u.now_names u.there in
          let q = u.number_is in
          let count = u.laid_now.count_is in
          let few = u.laid_now.few in
          omega arith

      pub enter_on : (refs' : List ℕ) → refs' ≡ patch (2 * d.references) (le 2 e.number) refs → length store' ≡ length store → length slots' ≡ length slots
          → Entering text store₀ slots₀ refs₀ c start end store' slots' refs' w.end
          (record { categories = e.count; definitions = d.definitions; ranges = d.ranges; references = d.references + 1; bytes = e.bytes })
      enter_on refs' p a b =
          let u = here in
          let sl = z.store_long in
          let tl = z.slots_long in
          let room : 2 * (c.references + length (words_of (drop start (take end text)))) ≤ length refs₀ = z.ready.room in
          record {
            ready = z.ready;
            upto = x.within z.upto;
            within = z.within;
            store_long = omega arith;
            slots_long = omega arith;
            store_kept = a ∙ z.store_kept;
            slots_kept = b ∙ z.slots_kept;
            refs_kept = ap length p ∙ patch_length (2 * d.references) (le 2 e.number) refs ∙ z.refs_kept;
            many_few = u.laid_now.few;
            used_short = u.laid_now.short;
            definitions_stay = z.definitions_stay;
            each = λ names l.
                let s = z.each names l in
                on s (bytes_of text w) (words_of (drop w.end (take end text))) (a_word text at end w x h) store' slots' refs' e (f s.now_names s.laid_now) p room;
          }

-- ---- a definition

pub definition_put : (at len i g a b : ℕ) (l l1 : List ℕ) → at + 6 ≤ length l → l1 ≡ patch at (le 4 len) l → a ≡ i → b ≡ g
    → set (set l1 (at + 4) a) (at + 5) b ≡ patch at (le 4 len ++ (i ∷ g ∷ [])) l
definition_put at len i g a b l l1 h e p q =
    let k : at + 5 ≡ suc (at + 4) = omega arith in
    let n : length l1 ≡ length l = ap length e ∙ patch_length at (le 4 len) l in
    ap₂ (λ (x y : ℕ). set (set l1 (at + 4) x) (at + 5) y) p q
    ∙ ap (λ (m : ℕ). set (set l1 (at + 4) i) m g) k
    ∙ patch_in (at + 4) (i ∷ g ∷ []) l1 (omega arith)
    ∙ ap (patch (at + 4) (i ∷ g ∷ [])) e
    ∙ patch_patch at (at + 4) (le 4 len) (i ∷ g ∷ []) l refl (omega arith)
