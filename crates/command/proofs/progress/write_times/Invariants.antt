use Rattle.std.specs.Io.KnownBytes.{Appends}
use Rattle.command.specs.Progress.{times}
use Rattle.command.proofs.progress.write_times.Given as goal

-- the bytes were written as often as the loop was passed
abbrev pub invariant-loop-turn : goal.invariant-loop-turn
invariant-loop-turn g l = Appends (g.W.Write.contents l.initial.writer) (g.W.Write.contents l.writer) (times l.turn l.bytes)
