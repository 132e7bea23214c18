use Rattle.std.proofs.Common.{take}
use Rattle.std.specs.Io.KnownBytes.{Appends}
use Rattle.command.specs.Output.{entry_lines}
use Rattle.command.proofs.listing_text.write_entries.Given as goal

-- the lines of the records so far were written
abbrev pub invariant-loop-place : goal.invariant-loop-place
invariant-loop-place g l =
    Appends (g.W.Write.contents l.initial.writer) (g.W.Write.contents l.writer) (entry_lines 0 (take l.place l.entries))
