-- The rounds so far.
use Rattle.std.proofs.Common.{◌≡◌, ◌*◌, List, ℕ}
use Rattle.sha2.specs.Sha256.{rounds, schedule}
use Rattle.winternitz.specs.inner.Sums.{HasSums}
use Rattle.winternitz.proofs.compression.compress_lane.Given as goal

abbrev pub invariant-loop-turn : goal.invariant-loop-turn
invariant-loop-turn l = (b : List ℕ) → HasSums b l.lane l.sums 64 → l.working ≡ rounds l.state (schedule b 48) (8 * l.turn)
