use Rattle.std.proofs.Common.{subst}
use Rattle.sign_core.specs.Signer.{IsSigner}
use Rattle.sign_core.proofs.signer.Signer.keeps_invariant.Goals as goal

pub returns : goal.returns
returns g c = subst (λ w. IsSigner g.S.Store w) c.self.view_is c.self.invariant.0
