-- Two proofs that a content is a file of records are one.
use Rattle.std.specs.Prelude.{ℕ, List}
use Rattle.state_file.specs.declared.record.Record.{Record}
use Rattle.std.proofs.Props.{props}
use Rattle.state_file.specs.Disk.{DiskState}
use Rattle.state_file.specs.File.{IsFileOf, IsSyncedFile}

pub IsFileOf-prop : (records : List Record) (content : List ℕ) → IsProp (IsFileOf records content)
IsFileOf-prop records content = hlevel props

pub IsSyncedFile-prop : (records : List Record) (tag : List ℕ) (state : DiskState)
    → IsProp (IsSyncedFile records tag state)
IsSyncedFile-prop records tag state = hlevel (props, IsFileOf-prop)
