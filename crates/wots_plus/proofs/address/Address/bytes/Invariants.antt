-- The first i words are written.
use Rattle.std.proofs.Common.{◌≡◌, ◌*◌, take, length}
use Rattle.wots_plus.proofs.Bytes.{bytes_of_words}
use Rattle.wots_plus.proofs.address.Address.bytes.Given as goal

abbrev pub invariant-loop-i : goal.invariant-loop-i
invariant-loop-i l = record {
  long : length l.bytes ≡ 32;
  written : take (4 * l.i) l.bytes ≡ bytes_of_words (take l.i l.word-items);
}
