use Rattle.std.proofs.Common.{◌∙◌, [], ap₂, slice_index_or, sym}
use Rattle.sha2.proofs.Absorbing256.{hash_after_next}
use Rattle.sha2.specs.Sha256.{compress, hash_after, initial_hash_256}
use Rattle.winternitz.proofs.lanes.long.hash_blocks.Goals as goal

pub loop-k-init : goal.loop-k-init
unfolding hash_after
loop-k-init g c = c.initial-states.ensures

pub loop-k-preserved : goal.loop-k-preserved
loop-k-preserved g c = λ j low.
    c.compress-states.ensures j low ∙ ap₂ compress (c.loop-k.invariant j low) (c.blocks_at.ensures j low)
    ∙ sym (hash_after_next initial_hash_256 (slice_index_or c.args.messages.now j []) c.loop-k.k)
