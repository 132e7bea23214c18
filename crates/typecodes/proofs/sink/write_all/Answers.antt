use Rattle.std.proofs.Common.{◌≡◌, ◌-◌, rules, ap, take, drop, length, Err}
use Rattle.typecodes.proofs.Filling.{offering-more, rest_of, writing-fails, writing-stops, written-more}
use Rattle.typecodes.proofs.sink.write_all.Goals as goal

pub returns-in_err-n : goal.returns-in_err-n
returns-in_err-n g c =
    let answer : c.from_residual.result ≡ Err c.in_err-n.field-0.0 = search rules in
    rw answer (writing-fails g.S.Sink.transition c.args.bytes.now c.loop-done.done _ _ _ (Unit {0}) g.S.Sink.contents c.in_err-n.field-0.0 _
    (rest_of c.loop-done.done c.args.bytes.now) (search rules)
    c.loop-done.invariant.written c.loop-done.invariant.offers c.in_err-n.ensures.transition c.in_err-n.ensures.bytes)

pub returns-then-n-eq0 : goal.returns-then-n-eq0
returns-then-n-eq0 g c =
    let rest = take (length c.args.bytes.now - c.loop-done.done) (drop c.loop-done.done c.args.bytes.now) in
    writing-stops g.S.Sink.transition c.args.bytes.now c.loop-done.done _ _ _ (Unit {0}) g.S.Sink.contents c.from.result rest (take c.in_ok-n.n rest)
    (rest_of c.loop-done.done c.args.bytes.now) (search rules) (ap (λ n. take n rest) c.if-n-eq0.true) c.from.ensures
    c.loop-done.invariant.written c.loop-done.invariant.offers c.in_ok-n.ensures.transition c.in_ok-n.ensures.bytes

pub loop-done-preserved : goal.loop-done-preserved
loop-done-preserved g c = record {
  within = search rules;
  written = written-more g.S.Sink.transition c.args.bytes.now c.loop-done.done _ _ _ g.S.Sink.contents c.in_ok-n.n _
      (rest_of c.loop-done.done c.args.bytes.now) c.loop-done.invariant.written c.in_ok-n.ensures.bytes;
  offers = offering-more g.S.Sink.transition c.args.bytes.now c.loop-done.done _ _ _ c.in_ok-n.n _
      (rest_of c.loop-done.done c.args.bytes.now) c.in_ok-n.ensures.bound (search rules)
      c.loop-done.invariant.offers c.in_ok-n.ensures.transition;
}
