use Rattle.command.proofs.FileReading.{start_read}
use Rattle.command.proofs.files.read_signature_file.Goals as goal

pub returns-clause-reads : goal.returns-clause-reads
returns-clause-reads g c =
    start_read (λ bytes. bytes.items) (g.D.Folder.content c.args.folder.now) _ _ _ c.args.path.now c.read_start.result _ _ _ c.in_ok-file.ensures.shows
    c.in_ok-file.ensures.role c.in_ok-file.ensures.trace c.read_start.ensures.reads
