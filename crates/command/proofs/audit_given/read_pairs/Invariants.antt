use Rattle.std.proofs.Common.{map, take}
use Rattle.command.specs.AuditGiven.{ReadsPairs, pair_of}
use Rattle.command.specs.Files.{KeepsContents}
use Rattle.command.proofs.audit_given.read_pairs.Given as goal

-- the pairs so far were read, and no content changed
abbrev pub invariant-loop-pair : goal.invariant-loop-pair
invariant-loop-pair g l =
    ReadsPairs (g.D.Folder.content l.initial.folder) (map pair_of (take l.pair-index l.files)) l.given.items
    (g.D.Traced.trace l.initial.folder) (g.D.Traced.trace l.folder)
    × KeepsContents (g.D.Folder.content l.initial.folder) (g.D.Folder.content l.folder)
