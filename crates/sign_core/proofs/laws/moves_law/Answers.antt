use Rattle.sign_core.proofs.laws.moves_law.Goals as goal
use Rattle.sign_core.proofs.moves.Moves.{moves_law}

pub returns : goal.returns
returns c = λ call. record {
  moves = moves_law c.D.Disk c.E.Disk (record {
    shows = λ on honest. c.met.D.Disk.shows on honest;
    counts_now = λ on t content honest early may. c.met.D.Disk.counts_now on t content honest early may;
    only_now = λ on content honest since. c.met.D.Disk.only_now on content honest since;
  });
}
