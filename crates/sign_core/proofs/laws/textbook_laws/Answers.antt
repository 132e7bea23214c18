use Rattle.sign_core.proofs.records.ValidSignatures.{accepted, accepts, all_valid, checked, undamaged}
use Rattle.sign_core.proofs.laws.textbook_laws.Goals as goal

pub returns : goal.returns
returns c = record {
  valid = all_valid;
  checked = checked;
  undamaged = undamaged;
  accepted = λ public message bytes. (accepts public message bytes tt, accepted public message bytes tt);
}
