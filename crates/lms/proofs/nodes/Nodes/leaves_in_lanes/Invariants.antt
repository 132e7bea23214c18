-- The nodes of the lanes so far.
use Rattle.std.proofs.Common.{◌≡◌, ℕ, ◌<◌, [], length, slice_index, slice_index_or}
use Rattle.lms.specs.Nodes.{leaf_of}
use Rattle.winternitz.specs.Lanes.{lanes}
use Rattle.lms.proofs.nodes.Nodes.leaves_in_lanes.Given as goal

abbrev pub invariant-loop-lane : goal.invariant-loop-lane
invariant-loop-lane l = record {
  long : length l.nodes ≡ lanes;
  each : (j : ℕ) → j < l.lane → slice_index_or l.nodes j []
      ≡ leaf_of l.self.identifier l.self.height (slice_index l.leaves j) (slice_index_or l.public_hashes j []);
}
