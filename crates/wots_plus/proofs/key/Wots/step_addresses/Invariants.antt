-- The lanes so far have their addresses.
use Rattle.std.proofs.Common.{◌≡◌, ℕ, ◌<◌, [], length, slice_index, slice_index_or}
use Rattle.wots_plus.specs.Address.{one_time}
use Rattle.winternitz.specs.Lanes.{lanes}
use Rattle.wots_plus.proofs.key.Wots.step_addresses.Given as goal

abbrev pub invariant-loop-lane : goal.invariant-loop-lane
invariant-loop-lane l = record {
  long : length l.addresses ≡ lanes;
  each : (j : ℕ) → j < l.lane
      → slice_index_or l.addresses j [] ≡ one_time l.self.leaf (slice_index l.chains j) (slice_index l.at j) l.key_and_mask;
}
