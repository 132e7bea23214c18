use Rattle.std.proofs.Common.{◌∙◌}
use Rattle.lmots.proofs.Steps.{step_hashed}
use Rattle.lmots.proofs.chains.ChainsStep.step_in_lanes.Goals as goal

pub returns : goal.returns
returns c = λ j low.
    let self = c.args.self.now in
    c.digests.ensures j low
    ∙ step_hashed self.key.identifier self.key.leaf _ _ _ _ _ _ (c.hash.ensures j low) (self.begins j low) (c.in_words.ensures j low)
