-- What a migration carries from a file of version 1 to one of version 2.
use Rattle.std.specs.Prelude.{◌-◌, List, [], ◌∷◌, ◌++◌, length, map, take, if◌then◌else◌}
use Rattle.state_file.specs.Laws.{has_moved}
use Rattle.state_file.specs.declared.record.Record.{Record}
use Rattle.state_file.specs.declared.record.Record.TheVariants.{Key as KeyRecord, Moved}
use Rattle.state_file.specs.declared.record.Version.{Version}
use Rattle.state_file.specs.declared.record.Version.TheVariants.{Two}

-- the record in a file of this version: only a Key says the version
abbrev pub in_version : Version → Record → Record
in_version version (KeyRecord key) = KeyRecord (record { version = version; secret = key.secret; root = key.root })
in_version version entry = entry

-- the records, ending with a Moved
abbrev pub with_moved : List Record → List Record
with_moved records = if has_moved records then records else records ++ Moved ∷ []

-- the records without a final Moved
abbrev pub unmoved : List Record → List Record
unmoved records = if has_moved records then take (length records - 1) records else records

-- these, in version 2
unfoldable pub carried : List Record → List Record
carried records = map (in_version Two) (unmoved records)
