-- The lanes so far.
use Rattle.std.proofs.Common.{◌≡◌, ℕ, ◌<◌, [], length, slice_index, slice_index_or}
use Rattle.winternitz.specs.Lanes.{lanes}
use Rattle.winternitz.proofs.chain.Step.step_in_lanes.Given as goal

abbrev pub invariant-loop-lane : goal.invariant-loop-lane
invariant-loop-lane g l = record {
  long : length l.after ≡ lanes;
  each : (j : ℕ) → j < l.lane → slice_index_or l.after j []
      ≡ g.Self.Step.step_of l.self (slice_index l.chains j) (slice_index l.at j) (slice_index_or l.values j []);
}
