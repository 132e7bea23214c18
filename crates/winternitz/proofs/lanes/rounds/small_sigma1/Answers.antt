use Rattle.std.proofs.Common.{◌∙◌, bit_xor, slice_index, ap, arith}
use Rattle.winternitz.specs.Lanes.{lanes}
use Rattle.winternitz.proofs.Rotations.{two_nested, word_fits}
use Rattle.winternitz.proofs.lanes.rounds.small_sigma1.Goals as goal

pub returns : goal.returns
returns c = λ j low.
    two_nested _ 17 2 _ _ _ _ _ (omega arith) (word_fits lanes j c.args.x c.fits-x low)
    (c.rotated-far.ensures j low) (c.xor.ensures j low) (c.rotated-both.ensures j low)
    (c.xor-2.ensures j low ∙ ap (bit_xor (slice_index c.rotated-both.result j)) (c.shifted.ensures j low))
