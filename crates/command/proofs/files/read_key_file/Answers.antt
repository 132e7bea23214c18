use Rattle.std.specs.IoError.{error_kind}
use Rattle.command.proofs.FileReading.{key_not_read, key_read}
use Rattle.command.proofs.files.read_key_file.Goals as goal

pub returns-in_err-read_key-clause-reads : goal.returns-in_err-read_key-clause-reads
returns-in_err-read_key-clause-reads g c =
    key_not_read _ _ _ c.args.path.now (error_kind c.in_err-read_key.field-0.0) c.from_residual-in_err-read_key.result _ _ _ c.in_ok-file.ensures.role
    c.in_ok-file.ensures.trace c.from_residual-in_err-read_key.ensures.1 c.in_err-read_key.ensures.reads

pub returns-clause-reads : goal.returns-clause-reads
returns-clause-reads g c =
    key_read (g.D.Folder.content c.args.folder.now) _ _ _ c.args.path.now _ _ _ _ c.in_ok-file.ensures.shows c.in_ok-file.ensures.role
    c.in_ok-file.ensures.trace c.in_ok-read_key.ensures.reads
