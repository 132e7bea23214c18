use Rattle.std.proofs.Common.{◌≡◌, ◌≤◌, ◌-◌, length, take}
use Rattle.std.specs.Io.KnownBytes.{Consumes}
use Rattle.typecodes.specs.Message.{GivesText}
use Rattle.typecodes.specs.Reading.{AsksForRest}
use Rattle.typecodes.proofs.reading.read_full.Given as goal

abbrev pub invariant-loop-at : goal.invariant-loop-at
invariant-loop-at g l = record {
  size : length l.buffer ≡ length l.initial.buffer;
  within : l.at ≤ length l.buffer;
  bytes : Consumes (g.M.Message.remaining l.initial.message) (g.M.Message.remaining l.message) (take l.at l.buffer);
  gives : GivesText g.M.Message.transition (take l.at l.buffer) l.initial.message l.message;
  asks : GivesText (AsksForRest g.M.Message.request (length l.buffer)) (take l.at l.buffer) (0, l.initial.message) (l.at, l.message);
}

abbrev pub decreases-loop-at : goal.decreases-loop-at
decreases-loop-at g l = length l.buffer - l.at
