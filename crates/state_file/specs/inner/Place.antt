-- Two proofs that a place is free are one.
use Rattle.std.specs.Prelude.{Bool}
use Rattle.std.proofs.Props.{props}
use Rattle.state_file.specs.Disk.{DiskState}
use Rattle.state_file.specs.Place.{IsFreePlace}

pub IsFreePlace-prop : (short : Bool) (state : DiskState) → IsProp (IsFreePlace short state)
IsFreePlace-prop short state = hlevel props
