use Rattle.std.proofs.Common.{◌≡◌, ◌+◌, ◌-◌, ◌*◌, ◌++◌, Ok, length, take}
use Rattle.typecodes.specs.Cursor.{and_then, read}
use Rattle.state_file.specs.Slot.{pairs}
use Rattle.state_file.proofs.slot.secret.read_pairs.Given as goal

abbrev pub invariant-loop-i : goal.invariant-loop-i
invariant-loop-i l = record {
  place : l.cursor.place ≡ l.initial.cursor.place + 8 * l.i;
  bytes : l.cursor.bytes ≡ l.initial.cursor.bytes;
  size : length l.all ≡ 8;
  found : read (pairs l.count) l.initial.cursor.bytes.now l.initial.cursor.place ≡ and_then (read (pairs (l.count - l.i)) l.initial.cursor.bytes.now l.cursor.place) (λ rest. Ok (take l.i l.all ++ rest.0, rest.1));
}
