-- The chains so far have their rows of ends.
use Rattle.std.proofs.Common.{◌≡◌, ℕ, ◌<◌, [], length, slice_index, slice_index_or}
use Rattle.winternitz.specs.Lanes.{lanes}
use Rattle.wots_plus.specs.Key.{chain_value}
use Rattle.wots_plus.proofs.lane_keys.LaneKeys.ends.Given as goal

abbrev pub invariant-loop-chain : goal.invariant-loop-chain
invariant-loop-chain l = record {
  long : length l.ends ≡ 67;
  each : (j : ℕ) → j < lanes → (k : ℕ) → k < l.chain → slice_index_or (slice_index_or l.ends k []) j []
      ≡ chain_value l.self.seed.now.key (slice_index l.self.leaves j) l.secret k 15;
}
