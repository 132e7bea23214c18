use Rattle.typecodes.proofs.Spelling.{one_value}
use Rattle.state_file.specs.Slot.{slot_record}
use Rattle.state_file.proofs.OneWay.{one_way-slot_record}
use Rattle.state_file.proofs.laws.slot_laws.Goals as goal

pub returns : goal.returns
returns c = record { once = one_way-slot_record; one_record = λ version. one_value (slot_record version) }
