use Rattle.std.proofs.Common.{arith}
use Rattle.winternitz.specs.Lanes.{lanes}
use Rattle.winternitz.proofs.Rotations.{three_nested, word_fits}
use Rattle.winternitz.proofs.lanes.rounds.big_sigma1.Goals as goal

pub returns : goal.returns
returns c = λ j low.
    three_nested _ 6 5 14 _ _ _ _ _ (omega arith) (word_fits lanes j c.args.x c.fits-x low)
    (c.rotated-far.ensures j low) (c.xor.ensures j low) (c.rotated-both.ensures j low) (c.xor-2.ensures j low) (c.rotated.ensures j low)
