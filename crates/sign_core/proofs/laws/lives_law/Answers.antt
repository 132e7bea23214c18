use Rattle.sign_core.proofs.laws.lives_law.Goals as goal
use Rattle.sign_core.proofs.calls.Lives.{lives_law}

pub returns : goal.returns
returns c = λ call. record {
  lives = lives_law c.D.Disk _ (record {
    shows = λ on honest. c.met.D.Disk.shows on honest;
    counts_now = λ on t content honest early may. c.met.D.Disk.counts_now on t content honest early may;
    only_now = λ on content honest since. c.met.D.Disk.only_now on content honest since;
  }) (record {
    lists = λ old new list left. left;
    later = λ old new early. early;
    honest = λ old new same. same;
  });
}
