use Rattle.std.proofs.Common.{rules, ◌≡◌, ◌∷◌, [], ◌++◌, Err, length, ap, refl, subst, sym}
use Rattle.std.specs.Io.KnownBytes.{Appends}
use Rattle.byteorder.specs.Endian.{big_bytes}
use Rattle.sign_core.proofs.exchanges.Replying.{first_part, frame_written, then_part, flushed}
use Rattle.sign_core.proofs.serving.write_reply.Goals as goal

pub returns-in_err-write_part : goal.returns-in_err-write_part
returns-in_err-write_part g c =
    let answer : c.from_residual-in_err-write_part.result ≡ Err c.in_err-write_part.field-0.0 = search rules in
    first_part (c.args.number ∷ []) _ _ _ _ c.in_err-write_part.field-0.0 _ answer refl c.in_err-write_part.ensures

pub returns-in_err-write_part-2 : goal.returns-in_err-write_part-2
returns-in_err-write_part-2 g c =
    let answer : c.from_residual-in_err-write_part-2.result ≡ Err c.in_err-write_part-2.field-0.0 = search rules in
    let four : c.to_be_bytes.result ≡ big_bytes 4 (length c.args.body.now) = search rules in
    let body = c.args.body.now in
    then_part (c.args.number ∷ []) (big_bytes 4 (length body) ++ body) _ _ _ _ c.in_err-write_part-2.field-0.0 _ answer refl c.in_ok-write_part.ensures
    (first_part c.to_be_bytes.result body _ _ _ c.in_err-write_part-2.field-0.0 _ refl (ap (λ l. l ++ body) (sym four)) c.in_err-write_part-2.ensures)

pub returns-in_err-write_part-3 : goal.returns-in_err-write_part-3
returns-in_err-write_part-3 g c =
    let answer : c.from_residual-in_err-write_part-3.result ≡ Err c.in_err-write_part-3.field-0.0 = search rules in
    let four : c.to_be_bytes.result ≡ big_bytes 4 (length c.args.body.now) = search rules in
    let body = c.args.body.now in
    then_part (c.args.number ∷ []) (big_bytes 4 (length body) ++ body) _ _ _ _ c.in_err-write_part-3.field-0.0 _ answer refl c.in_ok-write_part.ensures
    (then_part c.to_be_bytes.result body _ _ _ _ c.in_err-write_part-3.field-0.0 _ refl (ap (λ l. l ++ body) (sym four)) c.in_ok-write_part-2.ensures
    c.in_err-write_part-3.ensures)

pub returns : goal.returns
returns g c =
    let four : c.to_be_bytes.result ≡ big_bytes 4 (length c.args.body.now) = search rules in
    let body = c.args.body.now in
    let written = frame_written c.args.number c.to_be_bytes.result body _ _ _ _ c.in_ok-write_part.ensures c.in_ok-write_part-2.ensures c.in_ok-write_part-3.ensures in
    flushed c.flush.result c.map_err-2.result _ _ _ _ c.map_err-2.ensures.cases
    (subst (λ l. Appends (g.W.Write.contents c.args.writer.now) (g.W.Write.contents c.write_part-3.new.writer) ((c.args.number ∷ []) ++ l ++ body)) four written)
    c.flush.ensures.bytes
