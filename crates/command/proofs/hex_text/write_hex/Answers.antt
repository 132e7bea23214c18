use Rattle.std.proofs.Common.{rules, refl, subst, sym, length, ◌<◌}
use Rattle.std.proofs.lemmas.List.{take_more}
use Rattle.std.specs.Io.KnownBytes.{Appends}
use Rattle.hex.specs.Hex.{encode_lower}
use Rattle.command.proofs.HexText.{hex_begins, hex_writes, on_ok}
use Rattle.command.proofs.hex_text.write_hex.Goals as goal

pub loop-byte-init : goal.loop-byte-init
loop-byte-init g c = hex_begins (g.W.Write.contents c.args.writer.now)

pub loop-byte-preserved : goal.loop-byte-preserved
loop-byte-preserved g c =
    let within : c.loop-byte.byte-index < length c.args.bytes.now = search rules in
    let digits = on_ok c.encode_to_slice.result _ _ c.encode_to_slice.ensures.fits c.encode_to_slice.ensures.written refl in
    subst (λ l. Appends (g.W.Write.contents c.args.writer.now) (g.W.Write.contents c.write_all.new.self) (encode_lower l))
    (sym (take_more c.args.bytes.now c.loop-byte.byte-index 0 within))
    (hex_writes _ _ _ _ _ _ c.loop-byte.invariant c.in_ok-write_all.ensures.bytes digits)
