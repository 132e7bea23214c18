use Rattle.boot_verify.proofs.Prefixes.{given}
use Rattle.boot_verify.proofs.hbs_proved_message_prefix.Goals as goal

pub returns-in-Ok : goal.returns-in-Ok
returns-in-Ok c = given c.args.public.now c.args.signature.now _ c.in-Ok.count _ c.in-Ok.ensures.ok c.packed.ensures
