use Rattle.state_file.proofs.Finding.{reads_one}
use Rattle.state_file.proofs.PastEnd.{kept_within}
use Rattle.state_file.proofs.file.gates.read_within.Goals as goal

pub returns-clause-reads : goal.returns-clause-reads
returns-clause-reads g c = record {
  only = λ honest.
      reads_one g.D.Disk.state g.D.Disk.moment g.D.Disk.left_since c.args.disk.now c.read_at.new.self (λ left since. g.met.D.Disk.only_now c.args.disk.now left honest since) (c.read_at.ensures.keeps_state honest) (c.read_at.ensures.call.time honest);
  counts = record {
    failures = c.read_at.ensures.call.failures;
    past_ends = λ honest.
        kept_within c.read_at.result _ _ (g.D.Disk.past_ends c.args.disk.now) (g.D.Disk.past_ends c.read_at.new.self) c.read_at.ensures.past_ends (c.read_at.ensures.past_end honest (c.requires.steady honest)) (c.requires.within honest);
    honest = c.read_at.ensures.call.honest;
  };
}
