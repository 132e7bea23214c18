use Rattle.std.proofs.Common.{subst}
use Rattle.std.specs.Prelude.{vec_capacity}
use Rattle.sign_core.specs.Signer.{Signs}
use Rattle.sign_core.proofs.calls.SignEnds.{same_answer}
use Rattle.sign_core.proofs.signer.Signer.sign_telling.Goals as goal

pub returns-clause-step : goal.returns-clause-step
returns-clause-step g c =
    subst (Signs g.S.Store g.R.Source g.M.Message c.args.self.now c.sign_into-signed.new.self c.args.name.now c.args.message.now
    c.sign_into-signed.new.message (vec_capacity c.args.out.now))
    (same_answer c.sign_into-signed.result c.cleared_at_fault.result _ _ c.cleared_at_fault.ensures.answer c.cleared_at_fault.ensures.stays)
    c.sign_into-signed.ensures.step
