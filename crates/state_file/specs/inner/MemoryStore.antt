-- A list is what it had been since it was complete.
use Rattle.std.specs.Prelude.{ℕ, List, ◌≡◌, ◌≤◌, length}
use Rattle.state_file.specs.declared.record.Record.{Record}
use Rattle.std.proofs.Common.{sym, ◌∙◌, arith}
use Rattle.std.proofs.lemmas.List.{take_all}
use Rattle.state_file.specs.MemoryStore.{HadBeen}

pub had_been_all : (records : List Record) (t : ℕ) → t ≤ length records → HadBeen records t records
had_been_all records t early =
    (length records, early, omega arith, sym (take_all (length records) records (omega arith)))

pub had_been_only : (records left : List Record) → HadBeen records (length records) left → left ≡ records
had_been_only records left had = had.3 ∙ take_all had.0 records had.1
