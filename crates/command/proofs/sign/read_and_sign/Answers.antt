use Rattle.std.proofs.Common.{ap, refl, rules}
use Rattle.command.proofs.SigningReads.{signs_on_followed, signs_on_stays}
use Rattle.command.proofs.sign.read_and_sign.Goals as goal

pub returns : goal.returns
returns g c =
    let signs = c.sign-disk.ensures.signs in
    let folder = signs_on_stays _ _ _ _ (λ reader. reader.folder.ghost_name) (λ old outcome new step. step.0) _ _ _ _ _ _ _ _ _ signs in (
      g.D.File.OpenFile.remaining c.sign-disk.new.message.file.now,
      signs_on_followed _ _ _ _ (λ reader. g.D.File.OpenFile.role reader.file.now) (λ reader. g.D.Traced.trace reader.folder.now)
          (record { role = λ old outcome new step. step.2; trace = λ old outcome new step. step.3 }) _ _ _ _ _ _ _ _ _ _ _
          c.requires refl (ap g.D.Traced.trace (search rules)) signs,
    )
