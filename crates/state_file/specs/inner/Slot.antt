-- The numbers that stand for a record's kind and for a key's scheme.
use Rattle.std.specs.Prelude.{ℕ}
use Rattle.state_file.specs.declared.record.Record.{Record}
use Rattle.state_file.specs.declared.record.Record.TheVariants.{Key as KeyRecord, Extend as ExtendRecord, Retire, Moved}
use Rattle.state_file.specs.declared.record.Record.TheVariants.{Bound as BoundRecord}
use Rattle.state_file.specs.declared.record.Secret.{Secret}
use Rattle.state_file.specs.declared.record.Secret.TheVariants.{Lms, Hss, Xmss}

-- the number of a key's scheme
abbrev pub scheme_of : Secret → ℕ
scheme_of (Lms secret) = 1
scheme_of (Hss levels identifier seed) = 2
scheme_of (Xmss secret) = 3

-- the number of a record's kind
abbrev pub kind_of : Record → ℕ
kind_of (KeyRecord key) = 1
kind_of (ExtendRecord extend) = 2
kind_of (BoundRecord bound) = 3
kind_of (Retire upto) = 4
kind_of Moved = 5
