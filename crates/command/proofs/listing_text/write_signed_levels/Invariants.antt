use Rattle.std.proofs.Common.{take}
use Rattle.std.specs.Io.KnownBytes.{Appends}
use Rattle.command.specs.Output.{signed_lines}
use Rattle.command.proofs.listing_text.write_signed_levels.Given as goal

-- the lines of the levels so far were written
abbrev pub invariant-loop-level : goal.invariant-loop-level
invariant-loop-level g l =
    Appends (g.W.Write.contents l.initial.writer) (g.W.Write.contents l.writer) (signed_lines 0 (take l.level l.levels))
