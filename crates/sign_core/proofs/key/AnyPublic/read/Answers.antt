use Rattle.std.proofs.Common.{rules}
use Rattle.sign_core.proofs.records.PublicKeyReading.{spelled_read}
use Rattle.sign_core.proofs.key.AnyPublic.read.Goals as goal

pub returns-clause-spelled : goal.returns-clause-spelled
returns-clause-spelled c = spelled_read c.args.bytes.now _ (search rules) (search rules)

pub returns-in_default-clause-spelled : goal.returns-in_default-clause-spelled
returns-in_default-clause-spelled c = spelled_read c.args.bytes.now _ (search rules) (search rules)
