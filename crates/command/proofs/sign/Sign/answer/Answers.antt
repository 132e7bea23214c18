use Rattle.std.proofs.Common.{rules, ◌∙◌, Ok, ap, subst, sym}
use Rattle.typecodes.specs.Name.{IsName}
use Rattle.command.specs.declared.answer.Done.TheVariants.{Signed}
use Rattle.command.specs.Sign.{sign_answer}
use Rattle.command.proofs.KeyLines.{signs_in}
use Rattle.command.specs.Files.{files_seen}
use Rattle.command.proofs.sign.Sign.answer.Goals as goal

pub returns-in-Ok-signed : goal.returns-in-Ok-signed
returns-in-Ok-signed g c =
    let named : IsName c.as_bytes.result.now = search rules in
    let same = c.in-Ok.ensures.value ∙ c.as_bytes.ensures.value in
    signs_in _ _ _ (files_seen _ g.D.SignerFolder.is_opened _) _ c.in-Ok.name _ _ _ _ c.in_ok-disk.disk c.sign_on-disk.result.0 (g.D.Folder.content c.open_state.new.self)
    c.sign_on-disk.result.1 _ _ _ _ _ same (subst IsName c.as_bytes.ensures.value named) c.in_ok-disk.ensures.content c.in_ok-disk.ensures.opened
    c.sign_on-disk.ensures c.in_ok-disk.ensures.trace c.close_state.ensures.trace c.close_state.ensures.closed
    (ap (λ n. Ok (Signed n c.in-Ok-signed.size)) same ∙ sym (ap (sign_answer c.args.self.now.name.now) c.in-Ok-signed.is))

pub returns-in-Err : goal.returns-in-Err
returns-in-Err g c =
    let named : IsName c.as_bytes.result.now = search rules in
    let same = c.in-Ok.ensures.value ∙ c.as_bytes.ensures.value in
    signs_in _ _ _ (files_seen _ g.D.SignerFolder.is_opened _) _ c.in-Ok.name _ _ _ _ c.in_ok-disk.disk c.sign_on-disk.result.0 (g.D.Folder.content c.open_state.new.self)
    c.sign_on-disk.result.1 _ _ _ _ _ same (subst IsName c.as_bytes.ensures.value named) c.in_ok-disk.ensures.content c.in_ok-disk.ensures.opened
    c.sign_on-disk.ensures c.in_ok-disk.ensures.trace c.close_state.ensures.trace c.close_state.ensures.closed
    (sym (ap (sign_answer c.args.self.now.name.now) c.in-Err.is))
