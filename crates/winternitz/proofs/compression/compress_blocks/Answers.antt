use Rattle.std.proofs.Common.{◌<◌, ◌∙◌, ap, arith, refl, sym}
use Rattle.sha2.proofs.Absorbing256.{hash_after_next}
use Rattle.sha2.specs.Sha256.{compress, hash_after}
use Rattle.winternitz.specs.Lanes.{lanes}
use Rattle.winternitz.specs.inner.Sums.{block_of}
use Rattle.winternitz.proofs.compression.compress_blocks.Goals as goal

pub loop-lane-init : goal.loop-lane-init
unfolding hash_after
loop-lane-init c = refl

pub loop-lane-preserved : goal.loop-lane-preserved
loop-lane-preserved c =
    let lane = c.loop-lane.lane in
    let low : lane < lanes = omega arith in
    let b = block_of c.args.bytes.now lane in
    c.compress_lane.ensures b (c.fill_sums.ensures lane low) ∙ ap (λ h. compress h b) c.loop-lane.invariant
    ∙ sym (hash_after_next c.args.state.now c.args.bytes.now lane)
