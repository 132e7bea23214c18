-- The digits so far stand after those that were there.
use Rattle.std.proofs.Common.{◌≡◌, ◌+◌, ◌++◌}
use Rattle.arrayvec.specs.ArrayVec.{array_vec_len}
use Rattle.winternitz.specs.Digest.{first_digits}
use Rattle.winternitz.proofs.digest.push_digits.Given as goal

abbrev pub invariant-loop-i : goal.invariant-loop-i
invariant-loop-i l = record {
  items : l.all.items ≡ l.fn.all.items ++ first_digits l.width l.i l.bytes;
  len : array_vec_len l.all ≡ array_vec_len l.fn.all + l.i;
}
