use Rattle.std.proofs.Common.{◌≡◌, ◌∙◌, ap, arith, slice_index}
use Rattle.wots_plus.specs.Key.{chain_value}
use Rattle.winternitz.proofs.Walks.{walk_more, walk_none}
use Rattle.wots_plus.proofs.lane_keys.LaneKeys.ends_of_chain.Goals as goal

pub loop-at-init : goal.loop-at-init
loop-at-init c = λ secret begun j low. c.private_values-values.ensures secret begun j low ∙ walk_none _ _ 0 _

pub loop-at-preserved : goal.loop-at-preserved
loop-at-preserved c = λ secret begun j low.
    walk_more _ _ 0 _ _ _ _ (omega arith) (c.loop-at.invariant secret begun j low) (c.step-values.ensures j low)

pub returns : goal.returns
returns c = λ secret begun j low.
    let key = c.args.self.now in
    let done : c.loop-at.at ≡ 15 = omega arith in
    c.loop-at.invariant secret begun j low
    ∙ ap (chain_value key.seed.now.key (slice_index key.leaves j) secret c.args.chain) done
