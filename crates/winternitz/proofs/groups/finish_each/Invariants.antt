-- The chains so far are at their ends, and the others where they were.
use Rattle.std.proofs.Common.{◌≡◌, ℕ, ◌<◌, ◌≤◌, [], length, slice_index_or}
use Rattle.winternitz.specs.inner.Chain.{walk_at}
use Rattle.winternitz.proofs.groups.finish_each.Given as goal

abbrev pub invariant-loop-i : goal.invariant-loop-i
invariant-loop-i g l = record {
  long : length l.ends ≡ 265;
  done : (k : ℕ) → k < l.i → slice_index_or l.ends k [] ≡ walk_at (g.S.Step.step_of l.step) l.at l.to l.initial.ends k;
  rest : (k : ℕ) → l.i ≤ k → slice_index_or l.ends k [] ≡ slice_index_or l.initial.ends k [];
}
