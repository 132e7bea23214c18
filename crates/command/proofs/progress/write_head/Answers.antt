use Rattle.std.proofs.Common.{subst, codes, decimal}
use Rattle.std.proofs.lemmas.Result.{on_ok_weaker}
use Rattle.std.proofs.KnownBytes.{Appends-trans}
use Rattle.std.specs.Io.KnownBytes.{Appends}
use Rattle.command.proofs.progress.write_head.Goals as goal

pub returns : goal.returns
returns g c =
    let contents = g.W.Write.contents in
    let words : Appends (contents c.args.writer.now) (contents c.write_all.new.self) (codes "making the tree of level ") =
    subst (λ text. Appends (contents c.args.writer.now) (contents c.write_all.new.self) text) c.as_bytes.ensures.value c.in_ok-write_all.ensures.bytes in
    let number : Appends (contents c.write_all.new.self) (contents c.write_fmt.new.self) (decimal c.args.level) =
    subst (λ n. Appends (contents c.write_all.new.self) (contents c.write_fmt.new.self) (decimal n)) c.from.ensures c.in_ok-write_fmt.ensures.bytes in
    on_ok_weaker c.write_all-2.result
    (λ colon. Appends-trans _ _ _ _ _ (Appends-trans _ _ _ _ _ words number)
    (subst (λ text. Appends (contents c.write_fmt.new.self) (contents c.write_all-2.new.self) text) c.as_bytes-2.ensures.value colon))
    c.write_all-2.ensures.bytes
