use Rattle.std.proofs.Common.{rules, ◌≡◌, Err}
use Rattle.sign_core.proofs.exchanges.Turns.{after_name_cut, after_number_cut, after_read}
use Rattle.sign_core.proofs.frames.read_after.Goals as goal

pub returns-in_err-name : goal.returns-in_err-name
returns-in_err-name g c =
    let answer : c.from_residual.result ≡ Err c.in_err-name.field-0.0 = search rules in
    after_name_cut g.I.Message c.args.size _ _ c.in_err-name.field-0.0 _ answer c.in_err-name.ensures

pub returns-in_err-read_exact : goal.returns-in_err-read_exact
returns-in_err-read_exact g c =
    let answer : c.from_residual-in_err-read_exact.result ≡ Err c.in_err-read_exact.field-0.0 = search rules in
    after_number_cut g.I.Message c.args.size c.in_ok-name.name _ _ _ c.read_exact.new.buffer c.in_err-read_exact.field-0.0 _ answer (search rules) c.in_ok-name.ensures c.in_err-read_exact.ensures

pub returns : goal.returns
returns g c =
    after_read g.I.Message c.args.size c.from_be_bytes-announced.result c.in_ok-name.name _ _ _ c.read_exact.new.buffer (search rules) (search rules) c.in_ok-name.ensures
    c.in_ok-read_exact.ensures
