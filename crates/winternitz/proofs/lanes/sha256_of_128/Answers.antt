use Rattle.std.proofs.Common.{◌∙◌, [], refl, ap, ap₂}
use Rattle.std.proofs.lemmas.List.{get_or-replicate}
use Rattle.sha2.specs.Sha256.{compress, digest_bytes}
use Rattle.winternitz.proofs.Vectors.{sha256_by_three}
use Rattle.winternitz.specs.Lanes.{lanes}
use Rattle.winternitz.proofs.lanes.sha256_of_128.Goals as goal

pub returns : goal.returns
returns c j low block long second_long begun =
    c.digests.ensures j low
    ∙ ap (λ state. digest_bytes state 8)
    (c.compress-2.ensures j low
    ∙ ap₂ compress (c.compress.ensures j low ∙ ap₂ compress begun refl) (get_or-replicate lanes j c.padding_of_128.result [] low ∙ c.padding_of_128.ensures))
    ∙ sha256_by_three block _ long second_long
