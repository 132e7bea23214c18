-- The messages of the lanes so far.
use Rattle.std.proofs.Common.{◌≡◌, ℕ, ◌<◌, ◌++◌, [], length, slice_index, slice_index_or, take}
use Rattle.lmots.specs.Hashes.{public_separator, u16str, u32str}
use Rattle.winternitz.specs.Lanes.{lanes}
use Rattle.lmots.proofs.lane_keys.LaneKeys.messages.Given as goal

abbrev pub invariant-loop-lane : goal.invariant-loop-lane
invariant-loop-lane l = record {
  long : length l.messages ≡ lanes;
  each : (j : ℕ) → j < l.lane → take 22 (slice_index_or l.messages j [])
      ≡ l.self.identifier ++ u32str (slice_index l.self.leaves j) ++ u16str public_separator;
}
