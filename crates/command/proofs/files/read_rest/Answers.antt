use Rattle.std.proofs.Common.{rules, ap}
use Rattle.command.specs.Files.{KeepsContents}
use Rattle.command.proofs.Reading.{end_moved, end_noted, end_stays, via}
use Rattle.command.proofs.files.read_rest.Goals as goal

pub returns-clause-reads : goal.returns-clause-reads
returns-clause-reads g c =
    let reads = c.read_to_end.ensures in
    let folder = end_stays _ (λ reader. reader.folder.ghost_name) (λ old outcome new step. step.0) _ _ _ _ _ _ _ _ reads in
    let file = end_stays _ (λ reader. reader.file.ghost_name) (λ old outcome new step. step.1) _ _ _ _ _ _ _ _ reads in
    end_moved _ _ _ _ _ (g.D.File.OpenFile.remaining c.read_to_end.new.message.file.now) _ (g.D.Traced.trace c.read_to_end.new.message.folder.now) _ _ _
    (end_noted _ (λ reader. g.D.File.OpenFile.role reader.file.now) (λ reader. g.D.Traced.trace reader.folder.now)
    (record { role = λ old outcome new step. step.2; trace = λ old outcome new step. step.3 })
    (λ reader. g.D.File.OpenFile.remaining reader.file.now) _ _ _ _ _ _ _ reads)
    (ap g.D.File.OpenFile.remaining (search rules)) (ap g.D.Traced.trace (search rules))

pub returns-clause-content : goal.returns-clause-content
returns-clause-content g c =
    let reads = c.read_to_end.ensures in
    let folder = end_stays _ (λ reader. reader.folder.ghost_name) (λ old outcome new step. step.0) _ _ _ _ _ _ _ _ reads in
    via (λ f. KeepsContents (g.D.Folder.content c.args.folder.now) (g.D.Folder.content f)) c.read_to_end.new.message.folder.now _
    (λ path. end_stays _ (λ reader. g.D.Folder.content reader.folder.now path) (λ old outcome new step. step.4 path) _ _ _ _ _ _ _ _ reads) (search rules)
