use Rattle.std.proofs.Common.{◌∙◌, ◌++◌}
use Rattle.wots_plus.specs.Hashes.{to_byte}
use Rattle.wots_plus.proofs.hashes.Prf.hash_in_lanes.Goals as goal

pub returns : goal.returns
returns c = λ j low.
    c.sha256_of_96.ensures j low (to_byte 3 32 ++ c.args.self.now.key) c.first_state.ensures.is_block (c.in_each.ensures j low ∙ c.first_state.ensures.state)
