use Rattle.sign_core.proofs.laws.not_empty_law.Goals as goal
use Rattle.sign_core.proofs.law.NotEmpty.{not_empty_law, not_empty_of_calls}

pub returns-clause-runs : goal.returns-clause-runs
returns-clause-runs c = λ call. not_empty_law

pub returns-clause-calls : goal.returns-clause-calls
returns-clause-calls c = λ call. not_empty_of_calls c.R.Source
