use Rattle.std.proofs.Common.{◌∙◌, ap}
use Rattle.state_file.proofs.Moved.{ends_moved}
use Rattle.state_file.specs.Laws.{has_moved}
use Rattle.state_file.proofs.migration.sealing.seal.Goals as goal

pub invariant_of-result : goal.invariant_of-result
invariant_of-result g c = record { running = c.in-Ok.ensures.answer.3; moved = ap has_moved c.in-Ok.ensures.answer.2 ∙ ends_moved c.args.old.records }
