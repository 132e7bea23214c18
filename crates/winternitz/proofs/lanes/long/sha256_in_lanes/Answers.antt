use Rattle.std.proofs.Common.{◌∙◌, ap, arith}
use Rattle.sha2.specs.Sha256.{digest_bytes}
use Rattle.winternitz.proofs.Long.{sha256_by_front}
use Rattle.winternitz.proofs.lanes.long.sha256_in_lanes.Goals as goal

pub returns : goal.returns
returns g c = λ j low.
    c.digests.ensures j low ∙ ap (λ h. digest_bytes h 8) (c.hash_blocks.ensures j low)
    ∙ sha256_by_front _ _ _ (c.pad-end.ensures.bytes j low) (omega (arith, c.pad-end.ensures.exact_length j low, c.pad-end.ensures.within))
