-- The leaves of the lanes so far.
use Rattle.std.proofs.Common.{◌≡◌, ℕ, ◌<◌, ◌+◌, [], length, slice_index_or}
use Rattle.merkle.specs.Lanes.{lanes}
use Rattle.merkle.proofs.tree.TreeHash.leaves_in_lanes.Given as goal

abbrev pub invariant-loop-lane : goal.invariant-loop-lane
invariant-loop-lane g l = record {
  long : length l.leaves ≡ lanes;
  each : (j : ℕ) → j < l.lane → slice_index_or l.leaves j [] ≡ g.Self.TreeHash.leaf_of l.initial.self (l.first + j);
  counted : g.Self.TreeHash.made l.self ≡ g.Self.TreeHash.made l.initial.self + l.lane;
  leaves : g.Self.TreeHash.leaf_of l.self ≡ g.Self.TreeHash.leaf_of l.initial.self;
  joins : g.Self.NodeHash.join_of l.self ≡ g.Self.NodeHash.join_of l.initial.self;
  most : g.Self.TreeHash.most l.self ≡ g.Self.TreeHash.most l.initial.self;
}
