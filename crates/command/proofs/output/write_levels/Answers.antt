use Rattle.std.proofs.Common.{rules, subst, sym, length, length-take-le, ◌<◌, arith}
use Rattle.std.proofs.lemmas.List.{take_more}
use Rattle.std.specs.Io.KnownBytes.{Appends}
use Rattle.command.specs.Output.{level_lines}
use Rattle.command.proofs.LevelText.{level_writes, levels_begin}
use Rattle.command.proofs.output.write_levels.Goals as goal

pub loop-level-init : goal.loop-level-init
loop-level-init g c = levels_begin (g.W.Write.contents c.args.writer.now)

pub loop-level-preserved : goal.loop-level-preserved
loop-level-preserved g c =
    let within : c.loop-level.level < length c.args.left.now = search rules in
    subst (λ l. Appends (g.W.Write.contents c.args.writer.now) (g.W.Write.contents c.write_level.new.writer) (level_lines 0 l))
    (sym (take_more c.args.left.now c.loop-level.level 0 within))
    (level_writes _ _ _ _ c.loop-level.level _ (length-take-le c.loop-level.level c.args.left.now (omega (arith, within)))
    c.loop-level.invariant (search rules))
