-- Each chain has walked the steps so far.
use Rattle.std.proofs.Common.{◌≡◌, ℕ, ◌<◌, ◌+◌, [], slice_index, slice_index_or}
use Rattle.lmots.specs.Key.{step_of}
use Rattle.winternitz.specs.Chain.{walk}
use Rattle.winternitz.specs.Lanes.{lanes, value_at}
use Rattle.lmots.proofs.chains.ChainsStep.steps_in_lanes.Given as goal

abbrev pub invariant-loop-taken : goal.invariant-loop-taken
invariant-loop-taken l = (j : ℕ) → j < lanes
    → value_at l.words j
    ≡ walk (step_of l.self.key.identifier l.self.key.leaf) (slice_index l.chains j) (slice_index l.from j) (slice_index l.from j + l.taken)
    (slice_index_or l.values j [])
