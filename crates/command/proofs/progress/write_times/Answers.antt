use Rattle.std.proofs.Common.{rules, subst, sym, add-one}
use Rattle.std.proofs.KnownBytes.{Appends-nil, Appends-trans}
use Rattle.std.specs.Io.KnownBytes.{Appends}
use Rattle.command.specs.Progress.{times}
use Rattle.command.proofs.progress.write_times.Goals as goal

pub loop-turn-init : goal.loop-turn-init
unfolding times
loop-turn-init g c = Appends-nil (g.W.Write.contents c.args.writer.now)

pub loop-turn-preserved : goal.loop-turn-preserved
unfolding times
loop-turn-preserved g c =
    subst (λ n. Appends (g.W.Write.contents c.args.writer.now) (g.W.Write.contents c.write_all.new.self) (times n c.args.bytes.now))
    (sym (add-one c.loop-turn.turn))
    (Appends-trans _ _ _ _ c.args.bytes.now c.loop-turn.invariant (search rules))
