-- The chains so far have their ends.
use Rattle.std.proofs.Common.{◌≡◌, ℕ, ◌<◌, [], length, slice_index_or}
use Rattle.winternitz.specs.Chain.{end_at}
use Rattle.wots_plus.specs.Key.{step_of}
use Rattle.wots_plus.proofs.key.Wots.climb_one_by_one.Given as goal

abbrev pub invariant-loop-chain : goal.invariant-loop-chain
invariant-loop-chain l = record {
  long : length l.ends ≡ 67;
  each : (i : ℕ) → i < l.chain
      → slice_index_or l.ends i [] ≡ end_at (step_of l.self.seed.now.key l.self.leaf) 4 l.digits l.values i;
}
