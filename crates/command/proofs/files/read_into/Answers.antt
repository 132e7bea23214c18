use Rattle.std.proofs.Common.{rules, ◌≡◌, ◌<◌, IfOk, length, take}
use Rattle.std.specs.Io.KnownBytes.{Consumes, IsAtEnd}
use Rattle.command.specs.Files.{FillsOrFails, KeepsContents}
use Rattle.command.proofs.Reading.{full_bytes, full_end, full_noted, full_stays, via}
use Rattle.command.proofs.files.read_into.Goals as goal

pub returns-clause-bytes : goal.returns-clause-bytes
returns-clause-bytes g c =
    let reads = c.read_full.ensures.reads in
    let file = full_stays _ (λ reader. reader.file.ghost_name) (λ old outcome new step. step.1) _ _ _ _ _ reads in
    via (λ f. IfOk c.read_full.result (λ n. Consumes (g.D.File.OpenFile.remaining c.args.file.now) (g.D.File.OpenFile.remaining f) (take n c.read_full.new.buffer)))
    c.read_full.new.message.file.now _ (full_bytes _ (λ reader. g.D.File.OpenFile.remaining reader.file.now) _ _ _ _ reads) (search rules)

pub returns-clause-end : goal.returns-clause-end
returns-clause-end g c =
    let reads = c.read_full.ensures.reads in
    let file = full_stays _ (λ reader. reader.file.ghost_name) (λ old outcome new step. step.1) _ _ _ _ _ reads in
    via (λ f. IfOk c.read_full.result (λ n. n < length c.read_full.new.buffer → IsAtEnd (g.D.File.OpenFile.remaining f)))
    c.read_full.new.message.file.now _ (full_end _ (λ reader. g.D.File.OpenFile.remaining reader.file.now) _ _ _ _ reads) (search rules)

pub returns-clause-role : goal.returns-clause-role
returns-clause-role g c =
    let reads = c.read_full.ensures.reads in
    let file = full_stays _ (λ reader. reader.file.ghost_name) (λ old outcome new step. step.1) _ _ _ _ _ reads in
    via (λ f. g.D.File.OpenFile.role f ≡ g.D.File.OpenFile.role c.args.file.now) c.read_full.new.message.file.now _
    (full_stays _ (λ reader. g.D.File.OpenFile.role reader.file.now) (λ old outcome new step. step.2) _ _ _ _ _ reads) (search rules)

pub returns-clause-trace : goal.returns-clause-trace
returns-clause-trace g c =
    let reads = c.read_full.ensures.reads in
    let folder = full_stays _ (λ reader. reader.folder.ghost_name) (λ old outcome new step. step.0) _ _ _ _ _ reads in
    via (λ f. FillsOrFails (g.D.File.OpenFile.role c.args.file.now) c.read_full.result c.read_full.new.buffer (g.D.Traced.trace c.args.folder.now) (g.D.Traced.trace f))
    c.read_full.new.message.folder.now _
    (full_noted _ (λ reader. g.D.File.OpenFile.role reader.file.now) (λ reader. g.D.Traced.trace reader.folder.now)
    (record { role = λ old outcome new step. step.2; trace = λ old outcome new step. step.3 }) _ _ _ _ _ reads) (search rules)

pub returns-clause-content : goal.returns-clause-content
returns-clause-content g c =
    let reads = c.read_full.ensures.reads in
    let folder = full_stays _ (λ reader. reader.folder.ghost_name) (λ old outcome new step. step.0) _ _ _ _ _ reads in
    via (λ f. KeepsContents (g.D.Folder.content c.args.folder.now) (g.D.Folder.content f)) c.read_full.new.message.folder.now _
    (λ path. full_stays _ (λ reader. g.D.Folder.content reader.folder.now path) (λ old outcome new step. step.4 path) _ _ _ _ _ reads) (search rules)
