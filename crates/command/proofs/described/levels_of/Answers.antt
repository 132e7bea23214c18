use Rattle.std.proofs.Common.{◌≡◌, ◌∙◌, ◌++◌, ◌∷◌, [], length, ap, sym, arith}
use Rattle.std.specs.Prelude.{map}
use Rattle.std.specs.List.{range_with_len}
use Rattle.std.proofs.lemmas.List.FromFn.{length-map-range_with_len, map-range_with_len_more}
use Rattle.hss.specs.Signature.{level_count}
use Rattle.hss.specs.View.{signature_of}
use Rattle.command.specs.Described.{signed_level}
use Rattle.command.proofs.described.levels_of.Goals as goal

pub loop-i-init : goal.loop-i-init
loop-i-init c = c.new-levels.ensures

pub push-requires : goal.push-requires
push-requires c =
    let many : length c.loop-i.levels.items ≡ c.loop-i.i =
    ap length c.loop-i.invariant ∙ length-map-range_with_len _ 0 c.loop-i.i in
    omega (arith, many, c.levels-i-end.ensures.at_most_8, c.loop-i-test.true)

pub loop-i-preserved : goal.loop-i-preserved
loop-i-preserved c =
    c.push.ensures.items ∙ (λ j. c.loop-i.invariant j ++ c.level_of.ensures j ∷ [])
    ∙ sym (map-range_with_len_more (signed_level (signature_of c.args.view.now)) 0 c.loop-i.i c.loop-i.i (omega arith))

pub returns : goal.returns
returns c =
    let all : c.loop-i.i ≡ level_count (signature_of c.args.view.now) =
    omega (arith, c.levels-i-end.ensures.value, c.loop-i-test.false, c.loop-i.auto.i-end) in
    c.loop-i.invariant ∙ ap (λ n. map (signed_level (signature_of c.args.view.now)) (range_with_len 0 n)) all
