use Rattle.std.proofs.Common.{rules, ◌≡◌, Err}
use Rattle.sign_core.proofs.exchanges.Turns.{name_cut}
use Rattle.sign_core.proofs.frames.read_name.Goals as goal

pub returns-in_err-read_exact : goal.returns-in_err-read_exact
returns-in_err-read_exact g c =
    let answer : c.from_residual.result ≡ Err c.in_err-read_exact.field-0.0 = search rules in
    name_cut g.I.Message c.args.size c.read_exact.new.buffer _ _ _ _ answer (search rules) c.in_err-read_exact.ensures
