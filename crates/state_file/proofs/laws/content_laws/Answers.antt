use Rattle.std.proofs.Common.{arith}
use Rattle.state_file.proofs.Adding.{prepared_no_key}
use Rattle.state_file.proofs.Contents.{one_opening, some_opening, standing}
use Rattle.state_file.proofs.laws.content_laws.Goals as goal

pub returns : goal.returns
returns c = record {
  kind_exists = some_opening;
  once = one_opening;
  standing = standing;
  prepared = prepared_no_key;
  appended = λ count content left changes longer. omega (arith, changes.no_longer, longer);
  cut_short = λ records fewer content left spelled found same short. omega (arith, spelled.closed.0, same, short);
}
