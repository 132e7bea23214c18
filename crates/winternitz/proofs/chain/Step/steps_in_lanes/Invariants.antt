-- Each chain has walked the steps so far.
use Rattle.std.proofs.Common.{◌≡◌, ℕ, ◌<◌, ◌+◌, [], slice_index, slice_index_or}
use Rattle.winternitz.specs.Chain.{walk}
use Rattle.winternitz.specs.Lanes.{lanes}
use Rattle.winternitz.proofs.chain.Step.steps_in_lanes.Given as goal

abbrev pub invariant-loop-taken : goal.invariant-loop-taken
invariant-loop-taken g l = (j : ℕ) → j < lanes
    → slice_index_or l.values j []
    ≡ walk (g.Self.Step.step_of l.self) (slice_index l.chains j) (slice_index l.from j) (slice_index l.from j + l.taken) (slice_index_or l.fn.values j [])
