use Rattle.std.proofs.Common.{◌+◌, ◌*◌, ◌<◌, length, refl, ◌∙◌, arith}
use Rattle.state_file.proofs.Finding.{slot_damaged, slot_found}
use Rattle.state_file.proofs.Pieces.{piece_fields, piece_tag}
use Rattle.state_file.proofs.file.opening.slot_in_piece.Goals as goal

pub returns-in-Some-clause-slot : goal.returns-in-Some-clause-slot
returns-in-Some-clause-slot c content reached =
    let k = c.args.k in
    let piece = c.args.piece.now in
    let body = c.body_in_piece-body.result in
    let ends : 256 * (k + 1) < length content = omega (arith, reached.is_length) in
    slot_found c.args.version content c.args.previous.now body.fields body.tag k c.in-Some.entry (omega arith) ends reached.is_previous
    (c.body_in_piece-body.ensures.fields ∙ piece_fields content piece k reached.has_piece (omega (arith, ends)))
    (c.body_in_piece-body.ensures.tag ∙ piece_tag content piece k reached.has_piece (omega (arith, ends)))
    c.in-Some.ensures.0 c.in-Some.ensures.1

pub returns-in-None-clause-fault : goal.returns-in-None-clause-fault
returns-in-None-clause-fault c content reached =
    let k = c.args.k in
    let piece = c.args.piece.now in
    let body = c.body_in_piece-body.result in
    let ends : 256 * (k + 1) < length content = omega (arith, reached.is_length) in (
      refl,
      slot_damaged c.args.version content c.args.previous.now body.fields body.tag k reached.is_previous
          (c.body_in_piece-body.ensures.fields ∙ piece_fields content piece k reached.has_piece (omega (arith, ends)))
          (c.body_in_piece-body.ensures.tag ∙ piece_tag content piece k reached.has_piece (omega (arith, ends)))
          c.in-None.ensures,
    )
