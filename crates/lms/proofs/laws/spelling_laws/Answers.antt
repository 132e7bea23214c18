use Rattle.typecodes.proofs.Unambiguous.{unambiguous}
use Rattle.lms.specs.Key.{public_key}
use Rattle.lms.specs.Signature.{signature}
use Rattle.lms.proofs.OneWay.{one_way-public_key, one_way-signature}
use Rattle.lms.proofs.laws.spelling_laws.Goals as goal

pub returns : goal.returns
returns c = record {
  keys = unambiguous public_key one_way-public_key;
  signatures = unambiguous signature one_way-signature;
}
