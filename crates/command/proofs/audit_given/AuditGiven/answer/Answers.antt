use Rattle.std.proofs.Common.{inr}
use Rattle.command.specs.AuditGiven.{pair_of}
use Rattle.command.proofs.PairsReading.{key_fails, same_judgement}
use Rattle.command.proofs.audit_given.AuditGiven.answer.Goals as goal

pub returns-in_err-key : goal.returns-in_err-key
returns-in_err-key g c = key_fails _ _ _ c.in_err-key.field-0.0 c.from_residual.result _ _ c.from_residual.ensures.1 c.in_err-key.ensures.reads

pub returns : goal.returns
returns g c =
    let (bytes, file, reads) = c.in_ok-key.ensures.reads in
    inr (
      bytes,
      c.in_ok-key.key,
      g.D.Traced.trace c.read_key_file.new.folder,
      file,
      reads,
      same_judgement (g.D.Folder.content c.args.folder.now) (g.D.Folder.content c.read_key_file.new.folder) pair_of _ _ _ _ _ _ c.as_slice.ensures.value c.in_ok-key.ensures.content c.judge_pairs.ensures,
    )
