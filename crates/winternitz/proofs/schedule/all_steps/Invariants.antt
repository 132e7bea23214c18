-- At most 255 steps for each chain so far.
use Rattle.std.proofs.Common.{◌*◌, ◌≤◌}
use Rattle.winternitz.proofs.schedule.all_steps.Given as goal

abbrev pub invariant-loop-chain : goal.invariant-loop-chain
invariant-loop-chain l = l.steps ≤ 255 * l.chain
