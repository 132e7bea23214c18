-- What is answered to records that were loaded.
use Rattle.std.specs.Prelude.{◌≡◌, ◌<◌, Bool, true, false, List, length, map, Some, Result, Ok, Err}
use Rattle.state_file.specs.declared.record.Record.{Record}
use Rattle.state_file.specs.Laws.{IsLegal}
use Rattle.key_audit.specs.declared.listing.Entry.{Entry}
use Rattle.key_audit.specs.declared.listing.Listing.{Listing}
use Rattle.key_audit.specs.declared.report.AuditFault.{AuditFault}
use Rattle.key_audit.specs.Listing.{entry_of, shown_of_listing, shown_of_records}
use Rattle.key_audit.specs.inner.Loading.{IsRefusedLedger}

-- A listing of what they show, or their refusal by an audit without an anchor.
abbrev pub ListsRecords : List Record → Result Listing AuditFault → Type 0
ListsRecords records (Ok listing) = IsLegal records × (shown_of_records records ≡ Some (shown_of_listing listing))
ListsRecords records (Err fault) = IsRefusedLedger records fault

-- The entries of records that were taken; or memory was refused for one of them.
abbrev pub IsListed : List Record → List Entry → (lacking : Bool) → Type 0
IsListed records entries false = entries ≡ map entry_of records
IsListed records entries true = 0 < length records
