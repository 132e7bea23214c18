-- The messages of the lanes so far have their padding, and the others are as they were.
use Rattle.std.proofs.Common.{◌≡◌, ℕ, ◌+◌, ◌<◌, ◌≤◌, [], length, slice_index_or, take}
use Rattle.sha2.specs.Sha256.{padded_message}
use Rattle.winternitz.specs.Lanes.{lanes}
use Rattle.winternitz.proofs.lanes.long.pad.Given as goal

abbrev pub invariant-loop-lane : goal.invariant-loop-lane
invariant-loop-lane g l = record {
  count : length l.messages ≡ lanes;
  bytes : (j : ℕ) → j < l.lane
      → take (l.end + l.count) (slice_index_or l.messages j []) ≡ padded_message (take l.end (slice_index_or l.fn.messages j []));
  long : (j : ℕ) → j < l.lane → length (slice_index_or l.messages j []) ≡ g.row.N;
  rest : (j : ℕ) → l.lane ≤ j → slice_index_or l.messages j [] ≡ slice_index_or l.fn.messages j [];
}
