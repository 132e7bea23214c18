use Rattle.std.proofs.Common.{◌∙◌, ◌++◌, [], ap, ap₂, arith, slice_index_or}
use Rattle.sha2.specs.Sha256.{compress, sha256}
use Rattle.wots_plus.specs.Hashes.{to_byte}
use Rattle.wots_plus.proofs.hashes.hash_h_in_lanes.Goals as goal

pub returns : goal.returns
returns c = λ j low.
    let head = to_byte 1 32 ++ slice_index_or c.args.keys.now j [] in
    c.sha256_of_128.ensures j low head (c.loop-lane.invariant.size j (omega arith)) (c.loop-lane.invariant.second_size j (omega arith))
    (c.compress.ensures j low ∙ ap₂ compress (c.initial.ensures j low) (c.loop-lane.invariant.each j (omega arith)))
    ∙ ap (λ block. sha256 (head ++ block)) (c.loop-lane.invariant.second_each j (omega arith))
