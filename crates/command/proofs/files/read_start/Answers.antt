use Rattle.std.proofs.Common.{rules, arith, ◌≡◌, ◌∙◌, ◌++◌, ap}
use Rattle.command.proofs.Deciding.{decisive_is}
use Rattle.command.proofs.Reading.{cant_keep, cant_keep_later, fills_whole, starts_long, starts_short}
use Rattle.command.proofs.files.read_start.Goals as goal

pub returns-then-n-lt-PIECE-clause-reads : goal.returns-then-n-lt-PIECE-clause-reads
returns-then-n-lt-PIECE-clause-reads g c =
    let (piece, is, size, fills, read, end) = c.in_ok-n.ensures.kept in
    starts_short _ _ _ _ piece _ _ _ _ _ (search rules) size c.if-n-lt-PIECE.true (omega (arith, decisive_is)) fills read end

pub returns-in_err-read_piece-clause-reads : goal.returns-in_err-read_piece-clause-reads
returns-in_err-read_piece-clause-reads g c =
    let (piece, is, size, fills, read, end) = c.in_ok-n.ensures.kept in
    let first = fills_whole _ _ piece _ _ fills (omega (arith, size, c.if-n-lt-PIECE.false)) in
    cant_keep _ c.in_err-read_piece.field-0.0 _ c.from_residual-in_err-read_piece.result _ _ c.from_residual-in_err-read_piece.ensures.1
    (cant_keep_later _ _ piece _ _ _ _ first c.read_piece.ensures.role c.in_err-read_piece.ensures.refused)

pub returns-clause-reads : goal.returns-clause-reads
returns-clause-reads g c =
    let (piece, is, size, fills, read, end) = c.in_ok-n.ensures.kept in
    let (more, more_is, more_size, more_fills, more_read, more_end) = c.in_ok-read_piece.ensures.kept in
    let items : c.read_piece-2.new.bytes.items ≡ piece ++ more = more_is ∙ ap (λ l. l ++ more) (search rules) in
    starts_long _ _ _ _ _ _ piece more _ _ _ _ _ _ _ items (omega (arith, size, c.if-n-lt-PIECE.false)) fills read c.read_piece.ensures.role more_size more_fills
    more_read more_end decisive_is
