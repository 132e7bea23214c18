use Rattle.std.proofs.Common.{rules, subst, ◌++◌, codes, decimal}
use Rattle.std.proofs.lemmas.Result.{on_ok_weaker}
use Rattle.std.proofs.KnownBytes.{Appends-trans}
use Rattle.std.specs.Io.KnownBytes.{Appends}
use Rattle.command.proofs.listing_text.write_tree.Goals as goal

pub returns : goal.returns
returns g c =
    let wrote = Appends (g.W.Write.contents c.args.writer.now) (g.W.Write.contents c.write_number.new.writer) in
    let given : wrote (codes " tree level " ++ decimal c.from.result) = search rules in
    let first = subst (λ n. wrote (codes " tree level " ++ decimal n)) c.from.ensures given in
    on_ok_weaker c.write_number-2.result (λ second. Appends-trans _ _ _ _ _ first second) c.write_number-2.ensures
