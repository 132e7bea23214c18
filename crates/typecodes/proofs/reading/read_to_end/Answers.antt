use Rattle.std.proofs.Common.{rules}
use Rattle.typecodes.proofs.Takers.{taken-full, taken-last, taken-none, taken-refused, taken-unread}
use Rattle.typecodes.proofs.reading.read_to_end.Goals as goal

pub loop-turn-init : goal.loop-turn-init
loop-turn-init g c = record {
  size = search rules;
  taken = taken-none g.M.Message.transition g.M.Message.remaining g.T.PieceTaker.takes _ _ (g.met.T.PieceTaker.takes_nothing _);
}

pub returns-in-Err : goal.returns-in-Err
returns-in-Err g c =
    taken-unread g.M.Message.transition g.M.Message.remaining g.T.PieceTaker.takes (Unit {0}) g.T.PieceTaker.refuses c.loop-turn.turn c.in-Err.error
    c.read_full.new.buffer _ _ _ _ _ c.loop-turn.invariant.taken (search rules) c.in-Err.ensures.reads

pub returns-in-Err-take_piece : goal.returns-in-Err-take_piece
returns-in-Err-take_piece g c =
    taken-refused g.M.Message.transition g.M.Message.remaining g.T.PieceTaker.takes (Unit {0}) g.T.PieceTaker.refuses c.loop-turn.turn c.in-Ok.n
    c.in-Err-take_piece.error c.read_full.new.buffer _ _ _ _ _ _ c.loop-turn.invariant.taken c.in-Ok.ensures.reads c.in-Err-take_piece.ensures

pub returns-then-n-lt-PIECE : goal.returns-then-n-lt-PIECE
returns-then-n-lt-PIECE g c =
    taken-last g.M.Message.transition g.M.Message.remaining g.T.PieceTaker.takes g.T.PieceTaker.refuses c.loop-turn.turn c.in-Ok.n
    c.read_full.new.buffer _ _ _ _ _ _ c.loop-turn.invariant.taken (search rules) (search rules) (search rules) c.in-Ok.ensures.reads (search rules)
    (λ x y z first later one more. g.met.T.PieceTaker.takes_more x y z first later one more)

pub loop-turn-preserved : goal.loop-turn-preserved
loop-turn-preserved g c = record {
  size = search rules;
  taken = taken-full g.M.Message.transition g.M.Message.remaining g.T.PieceTaker.takes c.loop-turn.turn c.in-Ok.n
      c.read_full.new.buffer _ _ _ _ _ _ c.loop-turn.invariant.taken (search rules) (search rules) c.in-Ok.ensures.reads (search rules)
      (λ x y z first later one more. g.met.T.PieceTaker.takes_more x y z first later one more);
}
