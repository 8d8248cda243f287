-- What two constructors make is never the same. The other way round is by `sym`.
-- Assumes nothing.
use Prim.Native.Nat.{ℕ}
use native.Mathlib.Omega.{arith}
use mathlib.Core.Path.{◌≡◌}
use mathlib.Core.Bool.{true, false}
use mathlib.Core.Option.{none, some}
use mathlib.Core.List.{List, [], ◌∷◌}
use Rattle.paper.specs.CharDef.Line.{Line}
use Rattle.paper.specs.CharDef.Reading.{Reading}
use Rattle.paper.specs.CharDef.Reading as text
use Rattle.paper.specs.Rows.Lookup.{gives, refuses}
use Rattle.paper.specs.Unk.Entry.{Entry, Unk}
use Rattle.paper.specs.Unk.Bad as unk
use Rattle.paper.specs.Computed.Decode.{bad, good, broken, chars}
use Rattle.paper.specs.Computed.ReadText.{found, wrong, bound_is, no_bound, go_on, stop, names_are, full_at}
use Rattle.paper.specs.Computed.ReadPack.{short, taken, gave, broke}
use Rattle.paper.specs.Computed.ReadUnk.{entries_are, stops}

pub zero_one {ℓ} : {X : Type ℓ} → ◌≡◌ {A = ℕ} 0 1 → X
zero_one e = absurd (omega arith)

pub true_false {ℓ} : {X : Type ℓ} → true ≡ false → X
true_false e = zero_one (cc)

pub none_some {ℓ κ} : {X : Type ℓ} {A : Type κ} {a : A} → none ≡ some a → X
none_some e = zero_one (cc)

pub nil_cons {ℓ κ} : {X : Type ℓ} {A : Type κ} {a : A} {s : List A} → [] ≡ a ∷ s → X
nil_cons e = zero_one (cc)

-- ---- the answers computed

pub bad_good {ℓ} : {X : Type ℓ} {c n : ℕ} → bad ≡ good c n → X
bad_good e = zero_one (cc)

pub broken_chars {ℓ} : {X : Type ℓ} {n : ℕ} {cs : List ℕ} → broken n ≡ chars cs → X
broken_chars e = zero_one (cc)

pub wrong_found {ℓ} : {X : Type ℓ} {n : ℕ} {l : Line} → wrong n ≡ found l → X
wrong_found e = zero_one (cc)

pub none_bound {ℓ} : {X : Type ℓ} {n b : ℕ} → no_bound n ≡ bound_is b → X
none_bound e = zero_one (cc)

pub full_names {ℓ} : {X : Type ℓ} {n : ℕ} {names : List (List ℕ)} → full_at n ≡ names_are names → X
full_names e = zero_one (cc)

pub stop_go {ℓ} : {X : Type ℓ} {n : ℕ} {r : Reading} → stop n ≡ go_on r → X
stop_go e = zero_one (cc)

pub refused_accepted {ℓ} : {X : Type ℓ} {n place : ℕ} {r : Reading} → text.refused n place ≡ text.accepted r → X
refused_accepted e = zero_one (cc)

pub short_taken {ℓ} : {X : Type ℓ} {A : Type 0} {a : A} {s : List ℕ} → short ≡ taken a s → X
short_taken e = zero_one (cc)

pub broke_gave {ℓ} : {X : Type ℓ} {A : Type 0} {n at to : ℕ} {a : A} {t : List ℕ} → broke n at ≡ gave a to t → X
broke_gave e = zero_one (cc)

pub refuses_gives {ℓ} : {X : Type ℓ} {A : Type 0} {n : ℕ} {a : A} → refuses n ≡ gives a → X
refuses_gives e = zero_one (cc)

pub stops_entries {ℓ} : {X : Type ℓ} {n place : ℕ} {es : List Entry} → stops n place ≡ entries_are es → X
stops_entries e = zero_one (cc)

pub unk_refused_accepted {ℓ} : {X : Type ℓ} {n place : ℕ} {u : Unk} → unk.refused n place ≡ unk.accepted u → X
unk_refused_accepted e = zero_one (cc)
