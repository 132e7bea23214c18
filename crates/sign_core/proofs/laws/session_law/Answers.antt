use Rattle.sign_core.proofs.laws.session_law.Goals as goal
use Rattle.sign_core.proofs.calls.Headline.{bound_session, session_law}

pub returns-clause-session : goal.returns-clause-session
returns-clause-session c = λ call. session_law c.S.Store c.R.Source c.M.Message call.signer_law.ensures.signer

pub returns-clause-names : goal.returns-clause-names
returns-clause-names c = λ call. bound_session c.S.Store c.R.Source c.M.Message call.signer_law.ensures.signer
