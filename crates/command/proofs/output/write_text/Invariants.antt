use Rattle.std.proofs.Common.{◌≡◌, take}
use Rattle.std.specs.Io.KnownBytes.{Appends}
use Rattle.command.specs.Output.{text_of}
use Rattle.command.proofs.output.write_text.Given as goal

-- the parts so far were written, and none failed
abbrev pub invariant-loop-part : goal.invariant-loop-part
invariant-loop-part g l =
    (l.failures ≡ l.initial.failures)
    × Appends (g.W.Write.contents l.initial.writer) (g.W.Write.contents l.writer) (text_of (take l.part-index l.parts))
