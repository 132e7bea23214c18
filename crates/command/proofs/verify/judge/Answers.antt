use Rattle.std.proofs.Common.{Ok, Err}
use Rattle.command.specs.declared.answer.Done.{Done}
use Rattle.command.specs.declared.answer.Done.TheVariants.{Verified}
use Rattle.command.specs.declared.refusal.Refusal.TheVariants.{Signature}
use Rattle.command.proofs.Deciding.{decides_all}
use Rattle.command.proofs.Judging.{has_key, no_key, read_key}
use Rattle.command.proofs.MessageReading.{no-key-leaves}
use Rattle.typecodes.proofs.Messages.{some_content}
use Rattle.command.proofs.verify.judge.Goals as goal

pub returns-in_err-key-clause-judges : goal.returns-in_err-key-clause-judges
returns-in_err-key-clause-judges g c p s reads decides =
    let (m, fits) = some_content (g.M.Message.remaining c.args.message.now) in (
      m,
      fits,
      no_key p m s c.args.key c.map_err.result c.in_err-key.field-0.0 c.from_residual.result reads
          c.map_err.ensures.cases c.in_err-key.was c.from_residual.ensures.1,
      no-key-leaves g.M.Message.transition g.M.Message.remaining p m c.args.message.now c.args.key c.map_err.result
          c.in_err-key.field-0.0 c.from_residual.result c.map_err.ensures.cases c.in_err-key.was c.from_residual.ensures.1,
    )

pub returns-in-Ok-clause-judges : goal.returns-in-Ok-clause-judges
returns-in-Ok-clause-judges g c p s reads decides =
    let spelled = read_key p c.in_ok-key.key c.args.key c.map_err.result reads c.map_err.ensures.cases c.in_ok-key.was in
    let (m, fits, verdict, leaves) = c.in-Ok.ensures in (
      m,
      fits,
      decides_all {A = Done} p m s c.args.signature.now (Ok Verified) decides (c.in_ok-key.key, spelled, verdict),
      (c.in_ok-key.key, spelled, leaves),
    )

pub returns-in-Ok-clause-no_key : goal.returns-in-Ok-clause-no_key
returns-in-Ok-clause-no_key g c = has_key c.in_ok-key.key c.args.key c.map_err.result _ c.map_err.ensures.cases c.in_ok-key.was

pub returns-in-Err-clause-judges : goal.returns-in-Err-clause-judges
returns-in-Err-clause-judges g c p s reads decides =
    let spelled = read_key p c.in_ok-key.key c.args.key c.map_err.result reads c.map_err.ensures.cases c.in_ok-key.was in
    let (m, fits, verdict, leaves) = c.in-Err.ensures in (
      m,
      fits,
      decides_all {A = Done} p m s c.args.signature.now (Err (Signature c.in-Err.refusal)) decides (c.in_ok-key.key, spelled, verdict),
      (c.in_ok-key.key, spelled, leaves),
    )

pub returns-in-Err-clause-no_key : goal.returns-in-Err-clause-no_key
returns-in-Err-clause-no_key g c = has_key c.in_ok-key.key c.args.key c.map_err.result _ c.map_err.ensures.cases c.in_ok-key.was
