use Rattle.std.proofs.Common.{rules, ◌≡◌, Err, subst, sym}
use Rattle.sign_core.specs.Serving.{Serves}
use Rattle.sign_core.proofs.exchanges.Turns.{HasServed, served_more, served_none, serves_to_end, serves_to_fault}
use Rattle.sign_core.proofs.calls.SameTypes.{exchanges_keep}
use Rattle.sign_core.proofs.serving.serve_telling.Goals as goal

pub take_turn-requires : goal.take_turn-requires
take_turn-requires g c =
    exchanges_keep g.S.Store g.R.Source _ _ _ _ _ c.args.progress.now.spec c.loop-count.invariant.answers c.requires

pub returns-then-not-branch : goal.returns-then-not-branch
returns-then-not-branch g c =
    serves_to_end g.S.Store g.R.Source g.I.Message _ _ _ _ _ _ _ _ _ 0 _ _ c.loop-count.count c.in_ok-take_turn.field-0 (search rules) c.loop-count.invariant c.in_ok-take_turn.ensures (search rules)

pub returns-in_err-take_turn : goal.returns-in_err-take_turn
returns-in_err-take_turn g c =
    let answer : c.from_residual.result ≡ Err c.in_err-take_turn.field-0.0 = search rules in
    subst (Serves g.S.Store g.R.Source g.I.Message c.args.signer.now c.take_turn.new.signer c.args.reader.now c.take_turn.new.reader
    (g.W.Write.contents c.args.writer.now) (g.W.Write.contents c.take_turn.new.writer)) (sym answer)
    (serves_to_fault g.S.Store g.R.Source g.I.Message _ _ _ _ _ _ _ _ _ 0 _ _ c.loop-count.count c.in_err-take_turn.field-0.0 c.loop-count.invariant
    c.in_err-take_turn.ensures (search rules))

pub loop-count-init : goal.loop-count-init
loop-count-init g c =
    subst (λ n. HasServed g.S.Store g.R.Source g.I.Message c.args.signer.now c.args.signer.now c.args.reader.now c.args.reader.now
    (g.W.Write.contents c.args.writer.now) (g.W.Write.contents c.args.writer.now) 0 n 0) (sym c.new-signature.ensures.capacity)
    (served_none g.S.Store g.R.Source g.I.Message c.args.signer.now c.args.reader.now (g.W.Write.contents c.args.writer.now) 0)

pub loop-count-preserved : goal.loop-count-preserved
loop-count-preserved g c =
    served_more g.S.Store g.R.Source g.I.Message _ _ _ _ _ _ _ _ _ 0 _ _ c.loop-count.count c.in_ok-take_turn.field-0 (search rules) c.loop-count.invariant c.in_ok-take_turn.ensures
