-- The lanes so far have their addresses.
use Rattle.std.proofs.Common.{◌≡◌, ℕ, ◌<◌, ◌+◌, [], length, slice_index_or}
use Rattle.wots_plus.specs.Address.{l_tree}
use Rattle.winternitz.specs.Lanes.{lanes}
use Rattle.wots_plus.proofs.key.Wots.node_addresses.Given as goal

abbrev pub invariant-loop-lane : goal.invariant-loop-lane
invariant-loop-lane l = record {
  long : length l.addresses ≡ lanes;
  each : (j : ℕ) → j < l.lane → slice_index_or l.addresses j [] ≡ l_tree l.self.leaf l.height (l.first + j) l.key_and_mask;
}
