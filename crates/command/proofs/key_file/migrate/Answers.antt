use Rattle.std.proofs.Common.{subst, sym}
use Rattle.sign_core.specs.Alarm.{TellsBehind}
use Rattle.sign_core.specs.OldFile.{opening_fault}
use Rattle.command.specs.declared.refusal.Refusal.TheVariants.{Migration}
use Rattle.command.proofs.Alarms.{told_of_old}
use Rattle.command.proofs.key_file.migrate.Goals as goal

pub returns-clause-tells : goal.returns-clause-tells
returns-clause-tells g c =
    let moved = c.migrate_key_telling-old in
    subst (λ answer. TellsBehind g.D.Disk c.args.old (λ fault. Migration (opening_fault fault)) answer (g.A.Alarm.slots c.args.alarm.now) (g.A.Alarm.slots moved.new.alarm))
    (sym c.migrate_reported.ensures) (told_of_old g.D.Disk c.args.old moved.result.2 _ _ moved.ensures.tells)
