use Rattle.sign_core.proofs.laws.wrong_signers_law.Goals as goal
use Rattle.sign_core.proofs.law.NotEmpty.{refuses_wrong_answers, refuses_wrong_signers}

pub returns-clause-signatures : goal.returns-clause-signatures
returns-clause-signatures c = λ call. refuses_wrong_signers

pub returns-clause-answers : goal.returns-clause-answers
returns-clause-answers c = λ call public signer x given. refuses_wrong_answers public signer x given
