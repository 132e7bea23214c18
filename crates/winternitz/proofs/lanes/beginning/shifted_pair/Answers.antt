use Rattle.winternitz.proofs.Words.{joined_by_shifts}
use Rattle.std.proofs.Common.{◌∙◌, ap₂}
use Rattle.sha2.specs.Sha256.{add32}
use Rattle.winternitz.specs.Lanes.{lanes}
use Rattle.winternitz.proofs.Rotations.{word_fits}
use Rattle.winternitz.proofs.lanes.beginning.shifted_pair.Goals as goal

pub returns : goal.returns
returns c = λ j low.
    c.add.ensures j low ∙ ap₂ add32 (c.shifted_left.ensures j low) (c.shifted.ensures j low)
    ∙ joined_by_shifts _ _ (word_fits lanes j c.args.y c.fits-y low)
