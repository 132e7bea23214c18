-- What private functions alone cite of `Ledger.antt`'s subject.
use Rattle.std.specs.Prelude.{◌≡◌, ◌⊎◌, ℕ, ◌+◌, ◌-◌, ◌^◌, ◌<◌, ◌≤◌, true, false, [], ◌∷◌, ◌++◌, length, Some}
use Rattle.std.specs.Prelude.{Result, Ok, Err}
use Rattle.state_file.specs.declared.record.Bound.{Bound}
use Rattle.state_file.specs.declared.record.Record.{Record}
use Rattle.sign_core.specs.declared.ledger.Binding.{Binding}
use Rattle.sign_core.specs.declared.ledger.LedgerFault.{LedgerFault}
use Rattle.sign_core.specs.declared.ledger.LedgerFault.TheVariants.{Empty, Illegal, OutOfMemory}
use Rattle.sign_core.specs.Records.{can_follow}
use Rattle.sign_core.specs.Textbook.{HasSizes}
use Rattle.sign_core.specs.Ledger.{Table, TakesMemory}

-- what is kept of a Bound at a place, under this tree
abbrev pub binding_of : Bound → (place tree : ℕ) → Binding
binding_of bound place tree = record {
  place = place;
  leaf = bound.leaf;
  randomizer = bound.randomizer;
  digest = bound.digest;
  tree = tree;
}

-- A record was added: the key stays, and the memory for one more record may be used, if it takes any.
pub record Grows (entry : Record) (old new : Table) : Type 0 where
  pub key : new.key ≡ old.key
  pub records : new.records ≡ old.records ++ entry ∷ []
  pub spare : old.spare ≤ new.spare + 1
  pub untaken : (TakesMemory entry → ⊥) → new.spare ≡ old.spare

-- Nothing changed, except that there may be more memory.
pub record Stays (old new : Table) : Type 0 where
  pub key : new.key ≡ old.key
  pub records : new.records ≡ old.records
  pub spare : old.spare ≤ new.spare

pub record HasRoomForOne (entry : Record) (table : Table) : Type 0 where
  pub within_limit : length table.records < 2 ^ 32 - 1
  pub room : TakesMemory entry → 0 < table.spare

-- A record can be added: it can stand after the others, its fields have their sizes, and there is room for it.
pub record CanPush (entry : Record) (table : Table) : Type 0 where
  pub follows : can_follow (Some table.key) table.records entry ≡ true
  pub sizes : HasSizes entry
  pub room : HasRoomForOne entry table

-- The record takes memory and there was none, or there are as many records as can be counted.
abbrev pub LacksRoom : (entry : Record) → Table → Type 0
LacksRoom entry table = (TakesMemory entry × (table.spare ≡ 0)) ⊎ (length table.records ≡ 2 ^ 32 - 1)

-- A record was taken up, by the answer: it was added, or it can't follow these, or there is no room for it.
abbrev pub TakesUp : (old new : Table) → Record → Result (Unit {0}) LedgerFault → Type 0
TakesUp old new entry (Ok done) = (can_follow (Some old.key) old.records entry ≡ true) × Grows entry old new
TakesUp old new entry (Err Empty) = ⊥
TakesUp old new entry (Err (Illegal k)) =
    (can_follow (Some old.key) old.records entry ≡ false) × (k ≡ length old.records) × Stays old new
TakesUp old new entry (Err OutOfMemory) =
    (can_follow (Some old.key) old.records entry ≡ true) × LacksRoom entry old × Stays old new
