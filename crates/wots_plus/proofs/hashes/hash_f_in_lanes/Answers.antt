use Rattle.std.proofs.Common.{◌∙◌, ◌++◌, [], ap₂, arith, slice_index_or}
use Rattle.sha2.specs.Sha256.{compress}
use Rattle.wots_plus.specs.Hashes.{to_byte}
use Rattle.wots_plus.proofs.hashes.hash_f_in_lanes.Goals as goal

pub returns : goal.returns
returns c = λ j low.
    c.sha256_of_96.ensures j low (to_byte 0 32 ++ slice_index_or c.args.keys.now j []) (c.loop-lane.invariant.size j (omega arith))
    (c.compress.ensures j low ∙ ap₂ compress (c.initial.ensures j low) (c.loop-lane.invariant.each j (omega arith)))
