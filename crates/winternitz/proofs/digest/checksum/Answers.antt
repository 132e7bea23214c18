use Rattle.winternitz.proofs.Checksums.{lacking_at_most, lacking_fits}
use Rattle.winternitz.proofs.digest.checksum.Goals as goal

pub lacking-requires-clause-fits : goal.lacking-requires-clause-fits
lacking-requires-clause-fits c =
    (lacking_fits _ _ c.requires.width (lacking_at_most _ c.args.digits.now c.requires.count)).0
