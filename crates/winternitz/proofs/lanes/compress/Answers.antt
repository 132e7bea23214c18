use Rattle.std.proofs.Common.{◌∙◌, [], slice_index_or}
use Rattle.winternitz.proofs.Vectors.{slice_index-lane}
use Rattle.winternitz.proofs.lanes.compress.Goals as goal

pub returns : goal.returns
returns c j low = c.compress_words.ensures j low (slice_index_or c.args.blocks.now j [])
    (λ k within. slice_index-lane c.block_words.result j k ∙ c.block_words.ensures.words j k within low)
