use Rattle.std.proofs.Common.{◌≡◌, take, drop, ap, ◌∙◌, arith}
use Rattle.std.proofs.lemmas.List.{drop-take, take-take}
use Rattle.state_file.proofs.file.opening.read_first_fields.Goals as goal

pub returns-clause-fields : goal.returns-clause-fields
returns-clause-fields g c honest =
    let content = (g.D.Disk.state c.args.disk.now).content in
    let read : c.read_within.new.into ≡ take 224 content = c.in_ok-read_within.ensures.bytes honest in
    c.copy_from_slice.ensures.after ∙ ap (λ l. take 223 (drop 1 l)) read ∙ ap (take 223) (drop-take 1 223 content) ∙ take-take 223 223 (drop 1 content) (omega arith)
