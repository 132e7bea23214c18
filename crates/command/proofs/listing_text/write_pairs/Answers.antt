use Rattle.std.proofs.Common.{rules, subst, sym, length, length-take-le, ◌<◌, arith}
use Rattle.std.proofs.lemmas.List.{take_more}
use Rattle.std.specs.Io.KnownBytes.{Appends}
use Rattle.typecodes.specs.Spec.{levels_text}
use Rattle.typecodes.specs.declared.types.LmsPair.{LmsPair}
use Rattle.typecodes.specs.declared.types.LmsType.TheVariants.{H5}
use Rattle.typecodes.specs.declared.types.OtsType.TheVariants.{W1}
use Rattle.command.proofs.PairTexts.{pair_writes, pairs_begin}
use Rattle.command.proofs.listing_text.write_pairs.Goals as goal

pub loop-level-init : goal.loop-level-init
loop-level-init g c = pairs_begin (g.W.Write.contents c.args.writer.now)

-- the default of an index past the end
abbrev some_pair : LmsPair
some_pair = record { tree = H5; ots = W1 }

pub loop-level-preserved : goal.loop-level-preserved
loop-level-preserved g c =
    let within : c.loop-level.level < length c.args.pairs.now = search rules in
    subst (λ l. Appends (g.W.Write.contents c.args.writer.now) (g.W.Write.contents c.write_next_pair.new.writer) (levels_text l))
    (sym (take_more c.args.pairs.now c.loop-level.level some_pair within))
    (pair_writes _ _ _ _ c.loop-level.level _ (length-take-le c.loop-level.level c.args.pairs.now (omega (arith, within)))
    c.loop-level.invariant (search rules))
