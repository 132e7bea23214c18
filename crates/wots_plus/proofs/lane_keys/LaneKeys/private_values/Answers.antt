use Rattle.std.proofs.Common.{◌∙◌, ◌++◌, sym, ap, append_assoc, arith, slice_index}
use Rattle.sha2.specs.Sha256.{sha256}
use Rattle.wots_plus.specs.Address.{one_time}
use Rattle.wots_plus.specs.Hashes.{to_byte}
use Rattle.wots_plus.proofs.lane_keys.LaneKeys.private_values.Goals as goal

pub returns : goal.returns
returns c = λ secret begun j low.
    let key = c.args.self.now in
    let head = to_byte 4 32 ++ secret in
    let adrs = one_time (slice_index key.leaves j) c.args.chain 0 0 in
    c.sha256_of_128.ensures j low head begun.is_block (c.loop-lane.invariant.size j (omega arith)) (begun.state j low)
    ∙ ap (λ block. sha256 (head ++ block)) (c.loop-lane.invariant.each j (omega arith))
    ∙ ap sha256 (sym (append_assoc head key.seed.now.key adrs))
