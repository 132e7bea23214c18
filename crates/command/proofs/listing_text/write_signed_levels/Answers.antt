use Rattle.std.proofs.Common.{rules, subst, sym, length, length-take-le, ◌<◌, arith, None}
use Rattle.std.proofs.lemmas.List.{take_more}
use Rattle.std.specs.Io.KnownBytes.{Appends}
use Rattle.typecodes.specs.declared.types.LmsType.TheVariants.{H5}
use Rattle.typecodes.specs.declared.types.OtsType.TheVariants.{W1}
use Rattle.command.specs.declared.described.SignedLevel.{SignedLevel}
use Rattle.command.specs.Output.{signed_lines}
use Rattle.command.proofs.SignedText.{signed_begin, signed_writes}
use Rattle.command.proofs.listing_text.write_signed_levels.Goals as goal

pub loop-level-init : goal.loop-level-init
loop-level-init g c = signed_begin (g.W.Write.contents c.args.writer.now)

-- the default of an index past the end
abbrev some_level : SignedLevel
some_level = record { pair = record { tree = H5; ots = W1 }; leaf = 0; identifier = None }

pub loop-level-preserved : goal.loop-level-preserved
loop-level-preserved g c =
    let within : c.loop-level.level < length c.args.levels.now = search rules in
    subst (λ l. Appends (g.W.Write.contents c.args.writer.now) (g.W.Write.contents c.write_signed_level.new.writer) (signed_lines 0 l))
    (sym (take_more c.args.levels.now c.loop-level.level some_level within))
    (signed_writes _ _ _ _ c.loop-level.level _ (length-take-le c.loop-level.level c.args.levels.now (omega (arith, within)))
    c.loop-level.invariant (search rules))
