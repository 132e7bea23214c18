use Rattle.std.proofs.Common.{◌∙◌, ◌+◌, ◌++◌, sym, ap, append_assoc, arith}
use Rattle.sha2.specs.Sha256.{sha256}
use Rattle.wots_plus.specs.Address.{one_time}
use Rattle.wots_plus.specs.Hashes.{to_byte}
use Rattle.wots_plus.proofs.key.Wots.private_values_in_lanes.Goals as goal

pub returns-clause-made : goal.returns-clause-made
returns-clause-made c = λ j low.
    let key = c.args.self.now in
    let head = to_byte 4 32 ++ c.args.secret.now in
    let adrs = one_time key.leaf (c.args.chain + j) 0 0 in
    c.loop-lane-2.invariant.made j (omega arith)
    ∙ c.sha256_of_128-made.ensures j low head c.requires.is_block (c.loop-lane.invariant.size j (omega arith)) (c.requires.first j low)
    ∙ ap (λ block. sha256 (head ++ block)) (c.loop-lane.invariant.each j (omega arith))
    ∙ ap sha256 (sym (append_assoc head key.seed.now.key adrs))
