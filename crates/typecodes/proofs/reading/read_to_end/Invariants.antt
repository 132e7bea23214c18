use Rattle.std.proofs.Common.{◌≡◌, length}
use Rattle.typecodes.proofs.Takers.{HasTaken}
use Rattle.typecodes.proofs.reading.read_to_end.Given as goal

abbrev pub invariant-loop-turn : goal.invariant-loop-turn
invariant-loop-turn g l = record {
  size : length l.piece ≡ 16384;
  taken : HasTaken g.M.Message.transition g.M.Message.remaining g.T.PieceTaker.takes l.turn l.initial.message l.message l.initial.taker l.taker;
}
