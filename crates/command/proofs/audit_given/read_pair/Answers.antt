use Rattle.std.proofs.Common.{inl, inr}
use Rattle.command.proofs.PairsReading.{handed_on, same_start}
use Rattle.command.proofs.audit_given.read_pair.Goals as goal

pub returns-in_err-message-clause-reads : goal.returns-in_err-message-clause-reads
returns-in_err-message-clause-reads g c =
    handed_on _ _ c.from_residual.result c.in_err-message.field-0.0 c.from_residual.ensures.1 (inl c.in_err-message.ensures.reads)

pub returns-in_err-signature-clause-reads : goal.returns-in_err-signature-clause-reads
returns-in_err-signature-clause-reads g c =
    handed_on _ _ c.from_residual-in_err-signature.result c.in_err-signature.field-0.0 c.from_residual-in_err-signature.ensures.1
    (inr (c.in_ok-message.message.items, g.D.Traced.trace c.read_file.new.folder, c.in_ok-message.ensures.reads, c.in_err-signature.ensures.reads))

pub returns-clause-reads : goal.returns-clause-reads
returns-clause-reads g c = (
  g.D.Traced.trace c.read_file.new.folder,
  c.in_ok-message.ensures.reads,
  same_start (g.D.Folder.content c.args.folder.now) (g.D.Folder.content c.read_file.new.folder) _ c.args.files.now.signature.now _ _ _ (c.in_ok-message.ensures.content c.args.files.now.signature.now) c.in_ok-signature.ensures.reads,
)
