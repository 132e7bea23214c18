use Rattle.std.proofs.Common.{rules, refl, arith, ◌≡◌, ◌≤◌, length, take, length-take-le}
use Rattle.command.proofs.Reading.{fills_same, keeps_none}
use Rattle.command.proofs.files.read_piece.Goals as goal

pub returns-then-is_err-clause-refused : goal.returns-then-is_err-clause-refused
returns-then-is_err-clause-refused g c =
    let some : 1 ≤ length (take c.in_ok-n.n c.read_into.new.buffer) = search rules in keeps_none _ _ _ _ _ _ refl some c.in_ok-n.ensures.trace

pub returns-clause-kept : goal.returns-clause-kept
returns-clause-kept g c =
    let piece = take c.in_ok-n.n c.read_into.new.buffer in
    let size : length c.read_into.new.buffer ≡ g.row.N = search rules in (
      piece,
      search rules,
      length-take-le c.in_ok-n.n c.read_into.new.buffer c.in_ok-n.ensures.within,
      fills_same _ _ _ piece _ _ size c.in_ok-n.ensures.trace,
      c.in_ok-n.ensures.bytes,
      λ less. c.in_ok-n.ensures.end (omega (arith, size, less)),
    )
