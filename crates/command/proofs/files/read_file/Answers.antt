use Rattle.command.proofs.FileReading.{file_read}
use Rattle.command.proofs.files.read_file.Goals as goal

pub returns-clause-reads : goal.returns-clause-reads
returns-clause-reads g c =
    file_read (λ bytes. bytes.items) (g.D.Folder.content c.args.folder.now) _ _ _ c.args.path.now c.read_all.result _ _ _ c.in_ok-file.ensures.shows
    c.in_ok-file.ensures.role c.in_ok-file.ensures.trace c.read_all.ensures.reads
