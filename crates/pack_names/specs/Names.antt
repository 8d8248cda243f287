-- What the readers of names promise: the paper's own reader at the place where the part begins, what went into the tables, and how far
-- the cursor went.
-- Assumes nothing.
use Rattle.std.specs.Prelude.{ℕ, ◌+◌, ◌*◌, ◌≤◌, ◌<◌, ◌≡◌, Bool, List, [], ◌∷◌, ◌++◌, map, length, get_or}
use Rattle.paper.specs.Sizes.{max_categories, max_name_bytes}
use Rattle.paper.specs.Lists.{joined}
use Rattle.paper.specs.CharDef.Reading.{name_bytes}
use Rattle.paper.specs.Pack.Fields.{byte_width, name_length_width}
use Rattle.paper.specs.Computed.ReadPack.{FieldStep, gave, broke}
use Rattle.paper.specs.Computed.ReadPack.{bytes_field, name_rule, read_name}
use Rattle.paper.specs.Tables.Layout.{name_slot_bytes, name_slots, name_slot_size}
use Rattle.paper.specs.Tables.Lent.{padded}
use Rattle.field.specs.Cursor.{rest}
use Rattle.mark.specs.Mark.{mark}
use Rattle.std.specs.Prelude.{Err, Ok, Result}
use Rattle.field.specs.declared.BitCursor.{BitCursor}
use Rattle.paper.specs.declared.Refusal.{Refusal}

-- what the two tables of names hold, and the marks of the names
pub record Store : Type 0 where
  pub names : List ℕ
  pub categories : List ℕ
  pub marks : List ℕ

-- these n names of `used` bytes and no more: one behind another from 0, in order, and zero after them
pub record Stored (ns : List (List ℕ)) (names categories : List ℕ) (n used : ℕ) : Type 0 where
  pub count_is : n ≡ length ns
  pub bytes_is : used ≡ name_bytes ns
  pub few : n ≤ max_categories
  pub short : used ≤ max_name_bytes
  pub stored : names ≡ padded max_name_bytes (joined ns)
  pub slotted : categories ≡ padded (name_slot_size * max_categories) (joined (map name_slot_bytes (name_slots 0 (map length ns))))

pub record Named (ns : List (List ℕ)) (s : Store) (n used : ℕ) : Type 0 where
  pub holds : Stored ns s.names s.categories n used
  pub marks_long : length s.marks ≡ max_categories
  pub marked : (k : ℕ) → k < n → get_or s.marks k 0 ≡ mark (get_or ns k [])

-- it holds some names
pub record Naming (s : Store) (n used : ℕ) : Type 0 where
  pub before : List (List ℕ)
  pub held : Named before s n used

-- the last name keeps the rule of a name behind those before it
abbrev pub KeptIs : Store → (i start len : ℕ) → Bool → Type 0
KeptIs s i start len r = (ns : List (List ℕ)) (name : List ℕ) → Named (ns ++ (name ∷ [])) s (i + 1) (start + len) → length name ≡ len → r ≡ name_rule ns name

-- one name more, whose length has `width` bits before it
pub record NameIn (p : List ℕ) (at width : ℕ) (g : FieldStep (List ℕ)) (ns : List (List ℕ)) (s : Store) (n used : ℕ) (len next : ℕ) : Type 0 where
  pub name : List ℕ
  pub on : next ≡ at + width + byte_width * len
  pub reads : g ≡ gave name next (rest p next)
  pub size : length name ≡ len
  pub held : Named (ns ++ (name ∷ [])) s (n + 1) (used + len)

abbrev pub NameIs : List ℕ → (at width : ℕ) → FieldStep (List ℕ) → List (List ℕ) → Store → (n used : ℕ) → Result (ℕ × BitCursor) Refusal → Type 0
NameIs p at width g ns s n used (Ok (len, c)) = NameIn p at width g ns s n used len c.at
NameIs p at width g ns s n used (Err r) = g ≡ broke r.number r.place

-- behind whatever names the store holds: the bytes of so many, or a length and its bytes
abbrev pub TakesName : List ℕ → (at len : ℕ) (s₀ s₁ : Store) (n used : ℕ) → Result (ℕ × BitCursor) Refusal → Type 0
TakesName p at len s₀ s₁ n used r = (ns : List (List ℕ)) → Named ns s₀ n used → NameIs p at 0 (bytes_field len (name_rule ns) at (rest p at)) ns s₁ n used r

abbrev pub ReadsName : List ℕ → (at : ℕ) (s₀ s₁ : Store) (n used : ℕ) → Result (ℕ × BitCursor) Refusal → Type 0
ReadsName p at s₀ s₁ n used r = (ns : List (List ℕ)) → Named ns s₀ n used → NameIs p at name_length_width (read_name used ns at (rest p at)) ns s₁ n used r

pub record NamesIn (p : List ℕ) (at : ℕ) (g : FieldStep (List (List ℕ))) (names categories : List ℕ) (n used next : ℕ) : Type 0 where
  pub all : List (List ℕ)
  pub on : next ≡ at + name_length_width * n + byte_width * used
  pub reads : g ≡ gave all next (rest p next)
  pub held : Stored all names categories n used

abbrev pub NamesAre : List ℕ → ℕ → FieldStep (List (List ℕ)) → (names categories : List ℕ) → ℕ → Result (ℕ × BitCursor) Refusal → Type 0
NamesAre p at g names categories n (Ok (used, c)) = NamesIn p at g names categories n used c.at
NamesAre p at g names categories n (Err r) = g ≡ broke r.number r.place
