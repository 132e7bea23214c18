use Rattle.typecodes.proofs.Spelling.{no_value}
use Rattle.lms.specs.Signature.{signature}
use Rattle.lms.proofs.Verdicts.{whole_root}
use Rattle.lms.proofs.verification.root_by.Goals as goal

-- bytes with a fault spell no signature
pub returns-in-Err-clause-root : goal.returns-in-Err-clause-root
returns-in-Err-clause-root g c = λ (s, spelled, valid).
    no_value signature s c.args.signature.now 0 c.in-Err.fault spelled c.in-Err.ensures.reads

pub returns-clause-root : goal.returns-clause-root
returns-clause-root g c =
    whole_root c.args.public.now c.args.message.now c.args.signature.now _ c.root_by.result c.in-Ok.ensures.reads c.root_by.ensures
