use Rattle.std.proofs.Common.{◌≤◌, ◌-◌, length, take}
use Rattle.std.specs.Io.KnownBytes.{Appends}
use Rattle.typecodes.specs.Message.{GivesText}
use Rattle.typecodes.specs.Sink.{OffersRest}
use Rattle.typecodes.proofs.sink.write_all.Given as goal

abbrev pub invariant-loop-done : goal.invariant-loop-done
invariant-loop-done g l = record {
  within : l.done ≤ length l.bytes;
  written : Appends (g.S.Sink.contents l.initial.sink) (g.S.Sink.contents l.sink) (take l.done l.bytes);
  offers : GivesText (OffersRest g.S.Sink.transition l.bytes) (take l.done l.bytes) (0, l.initial.sink) (l.done, l.sink);
}

abbrev pub decreases-loop-done : goal.decreases-loop-done
decreases-loop-done g l = length l.bytes - l.done
