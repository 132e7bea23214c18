use Rattle.std.proofs.Common.{refl}
use Rattle.winternitz.proofs.Sums.{both_by_sum, temp1_by_sum}
use Rattle.winternitz.proofs.compression.round.Goals as goal

pub returns : goal.returns
returns c = λ k word is.
    rw (
      c.big_sigma1-sigma1.ensures,
      c.choice.ensures,
      c.majority.ensures,
      c.big_sigma0.ensures,
      both_by_sum _ _ _ k word _ _ _ is,
      temp1_by_sum _ _ _ k word _ is,
    ) refl
