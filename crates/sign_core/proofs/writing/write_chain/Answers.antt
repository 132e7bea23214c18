use Rattle.std.proofs.Common.{◌∙◌, ap}
use Rattle.hss.specs.Writing.{signature_bytes}
use Rattle.sign_core.proofs.chains.WrittenSignatures.{from_secrets, last_made, written}
use Rattle.sign_core.proofs.writing.write_chain.Goals as goal

pub returns-in-Hss : goal.returns-in-Hss
returns-in-Hss c =
    let above = c.args.above.now in
    let last = c.args.last.now in
    written c.args.secret.now _ above last c.write_signature.new.into c.in-Hss.is
    (c.write_signature.ensures.bytes ∙ ap signature_bytes (c.write_signature.ensures.textbook (from_secrets above last c.requires.made)))

pub returns-in-Lms : goal.returns-in-Lms
returns-in-Lms c =
    let above = c.args.above.now in
    let last = c.args.last.now in
    written c.args.secret.now _ above last c.write.new.into c.in-Lms.is (c.write.ensures.textbook (last_made above last c.requires.made).path)
