use Rattle.std.proofs.Common.{◌≡◌, ◌<◌, ◌^◌, length, rules, subst}
use Rattle.typecodes.proofs.Spelling.{no_value}
use Rattle.typecodes.specs.Types.{xmss_height_of}
use Rattle.xmss.specs.Signature.{signature}
use Rattle.xmss.specs.Verification.{digest_of}
use Rattle.xmss.specs.View.{signature_of}
use Rattle.xmss.proofs.Verdicts.{root_of_bytes}
use Rattle.xmss.proofs.verification.root_by.Goals as goal

-- bytes with a fault spell no signature
pub returns-in-Err-clause-root : goal.returns-in-Err-clause-root
returns-in-Err-clause-root g c = λ (s, spelled, valid).
    no_value (signature c.args.public.now.tree) s c.args.signature.now 0 c.in-Err.fault spelled c.in-Err.ensures.reads

pub returns-clause-root : goal.returns-clause-root
returns-clause-root g c =
    let view = c.in-Ok.view in
    let tree = c.in-Ok.ensures.tree in
    let same : c.message_digest-signed.result ≡ digest_of c.args.public.now c.args.message.now (signature_of view) = search rules in
    root_of_bytes c.args.public.now c.args.message.now _ c.args.signature.now _ (signature_of view) same c.in-Ok.ensures.reads view.chain_count
    (subst (λ tree. view.index < 2 ^ xmss_height_of tree) tree view.is_leaf) (subst (λ tree. length view.path.now ≡ xmss_height_of tree) tree view.path_length)
    c.root_from_signature.ensures.leads c.root_from_signature.ensures.only
