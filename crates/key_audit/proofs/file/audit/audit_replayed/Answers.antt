use Rattle.std.proofs.Common.{◌∙◌, length, ap}
use Rattle.key_audit.proofs.file.audit.audit_replayed.Goals as goal

pub judge-requires-clause-taken : goal.judge-requires-clause-taken
judge-requires-clause-taken g c = record { same_count = ap length c.requires.taken; same = λ honest. c.requires.taken }

pub returns : goal.returns
returns g c = record {
  audits = c.judge.ensures.audits;
  own = c.judge.ensures.own ∙ c.requires.taken;
  loads = c.judge.ensures.loads.loads;
  given = c.judge.ensures.loads.given;
  unreadable = c.judge.ensures.loads.unreadable;
}
