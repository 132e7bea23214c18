use Rattle.sign_core.proofs.laws.signer_law.Goals as goal
use Rattle.sign_core.proofs.exchanges.ServedCalls.{serve_law}
use Rattle.sign_core.proofs.calls.Sessions.{request_law}
use Rattle.sign_core.proofs.calls.SignerCalls.{signer_law}

pub returns-clause-signer : goal.returns-clause-signer
returns-clause-signer c = λ call.
    signer_law c.S.Store c.R.Source c.M.Message (λ kept_in left honest running since. c.met.S.Store.leaves_nothing_else kept_in left honest running since)

pub returns-clause-requests : goal.returns-clause-requests
returns-clause-requests c = λ call. request_law c.S.Store c.R.Source c.M.Message

pub returns-clause-serves : goal.returns-clause-serves
returns-clause-serves c = λ call. serve_law c.S.Store c.R.Source c.M.Message
