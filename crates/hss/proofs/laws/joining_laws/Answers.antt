use Rattle.hss.proofs.Bytes.{keys-more, keys-none, whole-spelled}
use Rattle.hss.proofs.laws.joining_laws.Goals as goal

pub returns : goal.returns
returns c = record { none = keys-none; more = keys-more; whole = whole-spelled }
