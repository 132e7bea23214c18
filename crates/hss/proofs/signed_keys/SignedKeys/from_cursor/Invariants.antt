use Rattle.std.proofs.Common.{◌≡◌, ◌+◌, ◌*◌, ◌≤◌, Ok, length}
use Rattle.typecodes.specs.Cursor.{read}
use Rattle.hss.specs.SignedKey.{StandInTurn, shown_keys, signed_keys}
use Rattle.hss.specs.inner.SignedKey.{AreFirst}
use Rattle.hss.proofs.signed_keys.SignedKeys.from_cursor.Given as goal

-- the first slots show what was read so far
abbrev pub invariant-loop-i : goal.invariant-loop-i
invariant-loop-i l = record {
  read : read (signed_keys l.i) l.fn.cursor.bytes.now l.fn.cursor.place ≡ Ok (shown_keys l.slots, l.rest.place);
  first : AreFirst l.i l.slots;
  stand : StandInTurn l.fn.cursor.place l.fn.cursor.bytes.now l.slots;
  size : length l.slots ≡ 7;
  at_most_9380_each : l.rest.place ≤ l.fn.cursor.place + 9380 * l.i;
  bytes : l.rest.bytes ≡ l.fn.cursor.bytes;
}
