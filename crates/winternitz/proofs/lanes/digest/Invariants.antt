-- The bytes of the words so far.
use Rattle.std.proofs.Common.{◌≡◌, ◌*◌, length, take}
use Rattle.sha2.specs.Sha256.{digest_bytes}
use Rattle.winternitz.proofs.lanes.digest.Given as goal

abbrev pub invariant-loop-i : goal.invariant-loop-i
invariant-loop-i l = record {
  long : length l.bytes ≡ 32;
  front : take (4 * l.i) l.bytes ≡ digest_bytes l.state l.i;
}
