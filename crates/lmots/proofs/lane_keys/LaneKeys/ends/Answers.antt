use Rattle.std.proofs.Common.{◌≡◌, ◌∙◌, ap, refl, arith, slice_index}
use Rattle.lmots.specs.Key.{chain_value}
use Rattle.lmots.proofs.Steps.{step_hashed_in}
use Rattle.winternitz.proofs.Walks.{walk_more, walk_none}
use Rattle.lmots.proofs.lane_keys.LaneKeys.ends.Goals as goal

pub loop-at-init : goal.loop-at-init
loop-at-init c = λ j low seed is.
    let self = c.args.self.now in
    step_hashed_in self.identifier (slice_index self.leaves j) c.args.chain 0xff j _ _ _ _ low (c.hash-values.ensures j low) (self.begins j low) is
    ∙ walk_none _ _ 0 _

pub loop-at-preserved : goal.loop-at-preserved
loop-at-preserved c = λ j low seed is.
    let self = c.args.self.now in
    walk_more _ _ 0 _ _ _ _ (omega arith) (c.loop-at.invariant j low seed is)
    (step_hashed_in self.identifier (slice_index self.leaves j) c.args.chain c.loop-at.at j _ _ _ _ low (c.hash-values-in-loop-at.ensures j low) (self.begins j low) refl)

pub returns : goal.returns
returns c = λ j low seed is.
    let self = c.args.self.now in
    let done : c.loop-at.at ≡ c.args.last = omega arith in
    c.digests.ensures j low ∙ c.loop-at.invariant j low seed is
    ∙ ap (chain_value self.identifier (slice_index self.leaves j) seed c.args.chain) done
