use Rattle.lms.specs.View.{signature_of}
use Rattle.lms.proofs.Verdicts.{root_of_level}
use Rattle.lms.proofs.signature.LmsSigView.root_by.Goals as goal

pub returns : goal.returns
returns g c =
    let view = c.args.self.now in
    let digest_is = rw (c.one_time_key-key.ensures.identifier, c.one_time_key-key.ensures.leaf) at c.message_digest-signed.ensures in
    root_of_level c.args.public.now c.args.message.now _ _ (signature_of view) digest_is c.in_ok-check_types.ensures
    view.chain_count view.is_leaf view.path_length c.root_from_signature.ensures.leads c.root_from_signature.ensures.only
