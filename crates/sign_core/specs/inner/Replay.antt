-- What a replay has of the records that it took.
use Rattle.std.specs.Prelude.{◌≡◌, List, [], Option, Some, None, Result, Ok, Err}
use Rattle.state_file.specs.declared.record.Record.{Record}
use Rattle.state_file.specs.Laws.{IsLegal}
use Rattle.sign_core.specs.declared.fault.SignFault.{SignFault}
use Rattle.sign_core.specs.declared.fault.SignFault.TheVariants.{Illegal as IllegalRecord, NoKey, NoMemoryToOpen}
use Rattle.sign_core.specs.declared.ledger.LedgerFault.{LedgerFault}
use Rattle.sign_core.specs.declared.ledger.LedgerFault.TheVariants.{Empty, Illegal, OutOfMemory}
use Rattle.sign_core.specs.Ledger.{RunsOutOfMemory, Table}
use Rattle.sign_core.specs.Records.{first_illegal, the_key}
use Rattle.sign_core.specs.Textbook.{AllHaveSizes}

-- The table has exactly these records, which are legal.
pub record Holds (records : List Record) (table : Table) : Type 0 where
  pub same : table.records ≡ records
  pub keyed : the_key records ≡ Some table.key
  pub legal : IsLegal records

-- The fault stops the records at one of them, whatever follows.
abbrev pub StopsAt : List Record → LedgerFault → Type 0
StopsAt records Empty = ⊥
StopsAt records (Illegal k) = first_illegal records ≡ Some k
StopsAt records OutOfMemory = RunsOutOfMemory records

-- All records are in the ledger; or there are none; or a fault stops them.
abbrev pub IsReplay : List Record → Option Table → (fault : Option LedgerFault) → Type 0
IsReplay records ledger (Some fault) = StopsAt records fault
IsReplay records (Some table) None = Holds records table
IsReplay records None None = records ≡ []

-- A ledger has the records that were taken; or they are refused, with an opening's faults.
abbrev pub TakesOver : List Record → Result Table SignFault → Type 0
TakesOver records (Ok table) = Holds records table × AllHaveSizes records
TakesOver records (Err NoKey) = records ≡ []
TakesOver records (Err (IllegalRecord k)) = first_illegal records ≡ Some k
TakesOver records (Err NoMemoryToOpen) = RunsOutOfMemory records
TakesOver records (Err _) = ⊥
