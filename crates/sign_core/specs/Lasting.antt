-- No event takes a record or a signature away.
use Rattle.std.specs.Prelude.{◌≡◌, ℕ, List, [], ◌∷◌, ◌++◌}
use Rattle.std.specs.List.{AllByRecursion}
use Rattle.state_file.specs.Carried.{in_version}
use Rattle.state_file.specs.declared.record.Record.{Record}
use Rattle.state_file.specs.declared.record.Record.TheVariants.{Bound as BoundRecord, Extend as ExtendRecord}
use Rattle.state_file.specs.declared.record.Record.TheVariants.{Key as KeyRecord, Retire, Moved as MovedRecord}
use Rattle.state_file.specs.declared.record.Version.TheVariants.{One}
use Rattle.sign_core.specs.World.{Event, Handed, World, create, reopen, request, retire, migrate, stop, run}

-- A later world has the records and the signatures of an earlier one, and perhaps more after them.
pub record LastsInto (earlier later : World) : Type 0 where
  pub records : List Record
  pub handed : List Handed
  pub records_are : later.state.records ≡ earlier.state.records ++ records
  pub handed_are : later.handed ≡ earlier.handed ++ handed

-- the records that a migration carries over: all but Moved, whatever the version
abbrev pub lasting : List Record → List Record
lasting [] = []
lasting (KeyRecord key ∷ rest) = in_version One (KeyRecord key) ∷ lasting rest
lasting (ExtendRecord extend ∷ rest) = ExtendRecord extend ∷ lasting rest
lasting (BoundRecord bound ∷ rest) = BoundRecord bound ∷ lasting rest
lasting (Retire upto ∷ rest) = Retire upto ∷ lasting rest
lasting (MovedRecord ∷ rest) = lasting rest

-- `LastsInto`, for what a migration carries over
pub record IsCarriedInto (earlier later : World) : Type 0 where
  pub records : List Record
  pub handed : List Handed
  pub records_are : lasting later.state.records ≡ lasting earlier.state.records ++ records
  pub handed_are : later.handed ≡ earlier.handed ++ handed

abbrev pub IsNoMigration : Event → Type 0
IsNoMigration (create spec chance) = Unit {0}
IsNoMigration (reopen chance) = Unit {0}
IsNoMigration (request name chance) = Unit {0}
IsNoMigration (retire upto fate) = Unit {0}
IsNoMigration (migrate fate) = ⊥
IsNoMigration stop = Unit {0}

-- No event removes or replaces a record or a signature. Only a migration changes the version, and drops a Moved.
pub record LastingLaw : Type 0 where
  pub lasts : (limit : ℕ) (world : World) (events : List Event) → AllByRecursion IsNoMigration events
      → LastsInto world (run limit world events)
  pub carries : (limit : ℕ) (world : World) (events : List Event) → IsCarriedInto world (run limit world events)
