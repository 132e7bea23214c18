-- How the layouts of this project are described: which bytes spell a value, and which fault other bytes have.
use Rattle.std.specs.Prelude.{◌≡◌, ℕ, ◌+◌, ◌-◌, ◌<◌, ◌⊎◌, List, [], ◌++◌, length, slice_index}
use Rattle.typecodes.specs.declared.fault.Cause.{Cause}
use Rattle.typecodes.specs.declared.fault.Cause.TheVariants.{Truncated, Trailing}
use Rattle.typecodes.specs.declared.fault.ReadFault.{ReadFault}
use Rattle.typecodes.specs.Fault.{fault_at}

-- A layout of values V: one field after the other. The bytes before decide which field comes next, and whether a field
-- meets its condition.
pub data Layout (V : Type 0) : Type 0 where
  -- nothing more: the fields so far are the value
  done : V → Layout V
  -- the field that began this many bytes before the place misses its condition
  refuse : ℕ → Cause → Layout V
  -- a field of this many bytes, and what follows them
  field : ℕ → (List ℕ → Layout V) → Layout V

-- one layout, and then another that depends on its value
infixl 10 ◌>>=◌
abbrev pub ◌>>=◌ : {A B : Type 0} → Layout A → (A → Layout B) → Layout B
(done v) >>= next = next v
(refuse back cause) >>= next = refuse back cause
(field n rest) >>= next = field n (λ bytes. rest bytes >>= next)

-- the same, under a name that contracts can use
abbrev pub sequenced : {A B : Type 0} → Layout A → (A → Layout B) → Layout B
sequenced first next = first >>= next

-- The bytes spell the value: they are its fields, one after the other, and nothing else.
abbrev pub Spells : {V : Type 0} → Layout V → V → List ℕ → Type 0
Spells (done v) value bytes = (v ≡ value) × (bytes ≡ [])
Spells (refuse back cause) value bytes = ⊥
Spells (field n next) value bytes =
    (front : List ℕ) × (rest : List ℕ) × (bytes ≡ front ++ rest) × (length front ≡ n) × Spells (next front) value rest

-- The bytes spell a value of one layout, and then a value of the layout that depends on it.
abbrev pub InTurn : {A B : Type 0} → Layout A → (A → Layout B) → B → List ℕ → Type 0
InTurn {A = A} first next w bytes =
    (v : A) × (a : List ℕ) × (b : List ℕ) × (bytes ≡ a ++ b) × Spells first v a × Spells (next v) w b

-- The first fault of bytes that begin at a place: the first field that doesn't fit or misses its condition, or else
-- bytes after the value.
abbrev pub HasFault : {V : Type 0} → Layout V → List ℕ → ℕ → ReadFault → Type 0
HasFault (done v) bytes place fault = (0 < length bytes) × (fault ≡ fault_at place Trailing)
HasFault (refuse back cause) bytes place fault = fault ≡ fault_at (place - back) cause
HasFault (field n next) bytes place fault =
    ((length bytes < n) × (fault ≡ fault_at place Truncated))
    ⊎ ((front : List ℕ) × (rest : List ℕ) × (bytes ≡ front ++ rest) × (length front ≡ n)
    × HasFault (next front) rest (place + n) fault)

-- each number of the list is a byte
abbrev pub AreBytes : List ℕ → Type 0
AreBytes bytes = (i : ℕ) → slice_index bytes i < 256

-- Each value is spelled in one way: bytes that spell it are equal.
abbrev pub OneSpelling : {V : Type 0} → Layout V → Type 0
OneSpelling {V = V} layout =
    (v : V) (a b : List ℕ) → AreBytes a → AreBytes b → Spells layout v a → Spells layout v b → a ≡ b

-- No value has two spellings, no bytes spell two values, and no spelling begins another.
pub record IsUnambiguous {V : Type 0} (layout : Layout V) : Type 0 where
  pub one_spelling : OneSpelling layout
  pub one_value : (v w : V) (bytes : List ℕ) → Spells layout v bytes → Spells layout w bytes → v ≡ w
  pub no_longer : (v w : V) (a b : List ℕ) → Spells layout v a → Spells layout w (a ++ b) → b ≡ []

-- `of` each value that the layout spells is x.
abbrev pub Shows : {V X : Type 0} → Layout V → (V → X) → X → Type 0
Shows {V = V} layout of x = (v : V) (bytes : List ℕ) → Spells layout v bytes → of v ≡ x
