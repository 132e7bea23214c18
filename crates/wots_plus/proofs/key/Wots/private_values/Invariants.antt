-- The groups so far are written.
use Rattle.std.proofs.Common.{◌≡◌, ℕ, ◌*◌, ◌<◌, [], length, slice_index_or}
use Rattle.wots_plus.specs.Key.{private_value}
use Rattle.winternitz.specs.Lanes.{lanes}
use Rattle.wots_plus.proofs.key.Wots.private_values.Given as goal

abbrev pub invariant-loop-group : goal.invariant-loop-group
invariant-loop-group l = record {
  long : length l.values ≡ 265;
  each : (i : ℕ) → i < lanes * l.group → slice_index_or l.values i [] ≡ private_value l.self.seed.now.key l.self.leaf l.secret i;
}

abbrev pub invariant-loop-chain : goal.invariant-loop-chain
invariant-loop-chain l = record {
  long : length l.values ≡ 265;
  each : (i : ℕ) → i < l.chain → slice_index_or l.values i [] ≡ private_value l.self.seed.now.key l.self.leaf l.secret i;
}
