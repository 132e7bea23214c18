use Rattle.std.proofs.Common.{take}
use Rattle.std.specs.Io.KnownBytes.{Appends}
use Rattle.typecodes.specs.Spec.{levels_text}
use Rattle.command.proofs.listing_text.write_pairs.Given as goal

-- the texts of the pairs so far were written
abbrev pub invariant-loop-level : goal.invariant-loop-level
invariant-loop-level g l =
    Appends (g.W.Write.contents l.initial.writer) (g.W.Write.contents l.writer) (levels_text (take l.level l.pairs))
