use Rattle.typecodes.proofs.Unambiguous.{unambiguous}
use Rattle.xmss.specs.Key.{public_key}
use Rattle.xmss.specs.Signature.{signature}
use Rattle.xmss.proofs.OneWay.{one_way-public_key, one_way-signature}
use Rattle.xmss.proofs.laws.spelling_laws.Goals as goal

pub returns : goal.returns
returns c = record {
  keys = unambiguous public_key one_way-public_key;
  signatures = λ tree. unambiguous (signature tree) (one_way-signature tree);
}
