use Rattle.std.proofs.Common.{vec_capacity}
use Rattle.sign_core.proofs.exchanges.Turns.{HasServed}
use Rattle.sign_core.proofs.serving.serve_telling.Given as goal

abbrev pub invariant-loop-count : goal.invariant-loop-count
invariant-loop-count g l =
    HasServed g.S.Store g.R.Source g.I.Message l.initial.signer l.signer l.initial.reader l.reader
    (g.W.Write.contents l.initial.writer) (g.W.Write.contents l.writer) 0 (vec_capacity l.signature) l.count
