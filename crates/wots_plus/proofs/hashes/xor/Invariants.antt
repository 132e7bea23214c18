-- The first i bytes are XORed.
use Rattle.std.proofs.Common.{◌≡◌, ℕ, ◌<◌, get_or, length}
use Rattle.std.specs.Prelude.{bit_xor}
use Rattle.wots_plus.proofs.hashes.xor.Given as goal

abbrev pub invariant-loop-i : goal.invariant-loop-i
invariant-loop-i l = record {
  long : length l.out ≡ 32;
  each : (k : ℕ) → k < l.i → get_or l.out k 0 ≡ bit_xor (get_or l.bytes k 0) (get_or l.mask k 0);
}
