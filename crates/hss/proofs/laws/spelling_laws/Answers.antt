use Rattle.typecodes.proofs.Unambiguous.{unambiguous}
use Rattle.hss.specs.Key.{public_key}
use Rattle.hss.specs.Signature.{signature}
use Rattle.hss.proofs.OneWay.{one_way-public_key, one_way-signature}
use Rattle.hss.proofs.laws.spelling_laws.Goals as goal

pub returns : goal.returns
returns c = record {
  keys = unambiguous public_key one_way-public_key;
  signatures = unambiguous signature one_way-signature;
}
