use Rattle.std.proofs.Common.{codes, subst}
use Rattle.std.proofs.lemmas.Result.{on_ok_weaker}
use Rattle.std.proofs.KnownBytes.{Appends-trans}
use Rattle.std.specs.Io.KnownBytes.{Appends}
use Rattle.command.proofs.listing_text.write_known_identifier.Goals as goal

pub returns : goal.returns
returns g c =
    let contents = g.W.Write.contents in
    let first : Appends (contents c.args.writer.now) (contents c.write_all.new.self) (codes " identifier ") =
    subst (λ text. Appends (contents c.args.writer.now) (contents c.write_all.new.self) text) c.as_bytes.ensures.value c.in_ok-write_all.ensures.bytes in
    on_ok_weaker c.write_hex.result (λ second. Appends-trans _ _ _ _ _ first second) c.write_hex.ensures
