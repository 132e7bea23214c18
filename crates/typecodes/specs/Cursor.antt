-- Reading by a layout, as a cursor does it: along the whole bytes, from a place on.
use Rattle.std.specs.Prelude.{◌≡◌, ◌==◌, ℕ, ◌+◌, ◌-◌, List, ◌++◌, length, take, drop, Result, Ok, Err}
use Rattle.std.specs.Prelude.{nat_le, if◌then◌else◌, OnErr, OnOk}
use Rattle.typecodes.specs.declared.fault.Cause.TheVariants.{Truncated, Trailing}
use Rattle.typecodes.specs.declared.cursor.Cursor.{Cursor}
use Rattle.typecodes.specs.declared.fault.ReadFault.{ReadFault}
use Rattle.typecodes.specs.Fault.{fault_at}
use Rattle.typecodes.specs.Layout.{Layout, done, refuse, field, Spells, HasFault}

-- the value that stands at a place, and the place after it; or the first fault
abbrev pub read : {V : Type 0} → Layout V → List ℕ → ℕ → Result (V × ℕ) ReadFault
read (done v) bytes place = Ok (v, place)
read (refuse back cause) bytes place = Err (fault_at (place - back) cause)
read (field n next) bytes place =
    if nat_le (place + n) (length bytes)
    then read (next (take n (drop place bytes))) bytes (place + n)
    else Err (fault_at place Truncated)

-- what follows once a value was read
abbrev pub and_then : {V W : Type 0}
    → Result (V × ℕ) ReadFault → (V × ℕ → Result (W × ℕ) ReadFault) → Result (W × ℕ) ReadFault
and_then (Ok x) next = next x
and_then (Err fault) next = Err fault

-- the value that all the bytes spell, or their first fault
abbrev pub whole : {V : Type 0} → List ℕ → Result (V × ℕ) ReadFault → Result V ReadFault
whole bytes (Ok x) = if length bytes == x.1 then Ok x.0 else Err (fault_at x.1 Trailing)
whole bytes (Err fault) = Err fault

-- what reading all bytes by a layout gives
abbrev pub read_all : {V : Type 0} → Layout V → List ℕ → Result V ReadFault
read_all layout bytes = whole bytes (read layout bytes 0)

-- The bytes from a place to the next spell the value, whatever comes after them.
abbrev pub StandsAt : {V : Type 0} → Layout V → V → List ℕ → ℕ → ℕ → Type 0
StandsAt layout v bytes place next =
    (own : List ℕ) × (after : List ℕ)
    × (drop place bytes ≡ own ++ after) × (next ≡ place + length own) × Spells layout v own

-- A call's answer is this reading's, where `view` shows the call's value.
abbrev pub Gives : {V X : Type 0} → (X → V) → Result X ReadFault → Result V ReadFault → Type 0
Gives view (Ok x) reading = reading ≡ Ok (view x)
Gives view (Err fault) reading = reading ≡ Err fault

-- What a reader does to its cursor: the bytes stay, and after a fault the place, too.
pub record KeepsCursor {X E : Type 0} (result : Result X E) (old new : Cursor) : Type 0 where
  pub bytes : new.bytes ≡ old.bytes
  pub err : OnErr result (new.place ≡ old.place)

-- What a reader of n bytes does to its cursor: it passes them, or stays at a fault.
pub record Passes {X E : Type 0} (n : ℕ) (result : Result X E) (old new : Cursor) : Type 0 where
  pub len : OnOk result (new.place ≡ old.place + n)
  pub bytes : new.bytes ≡ old.bytes
  pub err : OnErr result (new.place ≡ old.place)

-- A reader's answer for all bytes: the value that they spell, or their first fault.
abbrev pub Reads : {V X : Type 0} → Layout V → (X → V) → List ℕ → Result X ReadFault → Type 0
Reads layout view bytes (Ok x) = Spells layout (view x) bytes
Reads layout view bytes (Err fault) = HasFault layout bytes 0 fault
