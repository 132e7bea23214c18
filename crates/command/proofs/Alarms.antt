-- What an alarm was told as the old file of a migration was opened.
use Rattle.std.proofs.Common.{ℕ, List, Result, inl, inr, ap}
use Rattle.state_file.specs.declared.disk.Disk as disk
use Rattle.state_file.specs.declared.migration.MigrateFault.{MigrateFault}
use Rattle.sign_core.specs.Alarm.{TellsBehind}
use Rattle.sign_core.specs.OldFile.{opening_fault}
use Rattle.command.specs.KeyFile.{migrate_reported}
use Rattle.command.specs.declared.refusal.Refusal.TheVariants.{Migration}

pub told_of_old : {D : Type 0} (d : disk.Ghosts D) (given : D) (answer : Result ℕ MigrateFault) (old new : List ℕ)
    → TellsBehind d given opening_fault answer old new
    → TellsBehind d given (λ fault. Migration (opening_fault fault)) (migrate_reported answer) old new
told_of_old d given answer old new (inl (fault, same, reports, kept)) = inl (fault, ap migrate_reported same, reports, kept)
told_of_old d given answer old new (inr found) = inr found
