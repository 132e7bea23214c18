-- The values of the lanes so far are written, and the other messages are as they were.
use Rattle.std.proofs.Common.{◌≡◌, ℕ, ◌<◌, ◌≤◌, ◌+◌, ◌++◌, [], length, slice_index_or, take}
use Rattle.winternitz.specs.Lanes.{lanes}
use Rattle.lmots.proofs.lane_keys.append.Given as goal

abbrev pub invariant-loop-lane : goal.invariant-loop-lane
invariant-loop-lane l = record {
  long : length l.messages ≡ lanes;
  written : (j : ℕ) → j < l.lane → take (l.offset + 32) (slice_index_or l.messages j [])
      ≡ take l.offset (slice_index_or l.fn.messages j []) ++ slice_index_or l.values j [];
  kept : (j : ℕ) → l.lane ≤ j → slice_index_or l.messages j [] ≡ slice_index_or l.fn.messages j [];
}
