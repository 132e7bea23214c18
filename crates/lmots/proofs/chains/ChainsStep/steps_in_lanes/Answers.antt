use Rattle.std.proofs.Common.{◌≡◌, ◌∙◌, ◌+◌, ap, refl, arith, [], slice_index, slice_index_or}
use Rattle.lmots.specs.Key.{step_of}
use Rattle.winternitz.specs.Chain.{walk}
use Rattle.lmots.proofs.Steps.{step_hashed}
use Rattle.winternitz.proofs.Walks.{walk_begun, walk_further}
use Rattle.lmots.proofs.chains.ChainsStep.steps_in_lanes.Goals as goal

pub loop-taken-init : goal.loop-taken-init
loop-taken-init c = λ j low. c.in_words-words.ensures j low ∙ walk_begun _ _ _ _

pub loop-taken-preserved : goal.loop-taken-preserved
loop-taken-preserved c = λ j low.
    let self = c.args.self.now in
    walk_further _ _ _ _ _ _ _ _ (c.loop-taken.invariant j low) (c.added.ensures j low)
    (step_hashed self.key.identifier self.key.leaf _ _ _ _ _ _ (c.hash-words.ensures j low) (self.begins j low) refl)

pub returns : goal.returns
returns c = λ j low.
    let self = c.args.self.now in
    let done : c.loop-taken.taken ≡ c.args.steps = omega arith in
    c.digests.ensures j low ∙ c.loop-taken.invariant j low
    ∙ ap (λ n. walk (step_of self.key.identifier self.key.leaf) (slice_index c.args.chains.now j) (slice_index c.args.from.now j)
    (slice_index c.args.from.now j + n) (slice_index_or c.args.values.now j [])) done
