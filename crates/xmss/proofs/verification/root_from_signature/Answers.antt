use Rattle.xmss.specs.View.{signature_of}
use Rattle.xmss.proofs.Leading.{leads, leads_only}
use Rattle.xmss.proofs.verification.root_from_signature.Goals as goal

pub returns-clause-leads : goal.returns-clause-leads
returns-clause-leads g c =
    leads c.args.public.now c.args.digest.now (signature_of c.args.view.now) c.prf-seed.result.key c.public_from_signature-leaf.result _
    c.prf-seed.ensures c.public_from_signature-leaf.ensures.ends_exist c.root_from_path.ensures.last

pub returns-clause-only : goal.returns-clause-only
returns-clause-only g c =
    leads_only c.args.public.now c.args.digest.now (signature_of c.args.view.now) c.prf-seed.result.key c.public_from_signature-leaf.result _
    c.prf-seed.ensures c.public_from_signature-leaf.ensures.only c.root_from_path.ensures.only
