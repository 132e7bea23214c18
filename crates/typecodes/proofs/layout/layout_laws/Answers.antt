use Rattle.std.proofs.Common.{Ok, Err}
use Rattle.typecodes.proofs.Read.{read-stands, spelled-found}
use Rattle.typecodes.proofs.Readers.{outcome_of_reading, reading_of_outcome, either}
use Rattle.typecodes.proofs.Spelling.{no_longer, no_value, one_fault, one_value}
use Rattle.typecodes.proofs.layout.layout_laws.Goals as goal

pub returns-clause-either : goal.returns-clause-either
returns-clause-either g c = either

pub returns-clause-not_both : goal.returns-clause-not_both
returns-clause-not_both g c = λ layout v bytes fault. no_value layout v bytes 0 fault

pub returns-clause-one_value : goal.returns-clause-one_value
returns-clause-one_value g c = one_value

pub returns-clause-one_fault : goal.returns-clause-one_fault
returns-clause-one_fault g c = λ layout bytes. one_fault layout bytes 0

pub returns-clause-no_longer : goal.returns-clause-no_longer
returns-clause-no_longer g c = no_longer

pub returns-clause-value_read : goal.returns-clause-value_read
returns-clause-value_read g c = λ layout v bytes. (reading_of_outcome layout bytes (Ok v), outcome_of_reading layout bytes (Ok v))

pub returns-clause-fault_read : goal.returns-clause-fault_read
returns-clause-fault_read g c = λ layout fault bytes. (reading_of_outcome layout bytes (Err fault), outcome_of_reading layout bytes (Err fault))

pub returns-clause-found : goal.returns-clause-found
returns-clause-found g c = spelled-found

pub returns-clause-stands : goal.returns-clause-stands
returns-clause-stands g c = read-stands
