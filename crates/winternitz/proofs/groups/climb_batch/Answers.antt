use Rattle.std.proofs.Common.{rules, ◌≡◌, ◌∙◌, ◌+◌, ◌<◌, ◌≤◌, arith, ap, sym, [], length, slice_index, slice_index_or}
use Rattle.winternitz.specs.Lanes.{lanes}
use Rattle.winternitz.proofs.Walks.{walk_same}
use Rattle.winternitz.proofs.Ways.{way_further}
use Rattle.winternitz.proofs.groups.climb_batch.Goals as goal

pub loop-lane-preserved : goal.loop-lane-preserved
loop-lane-preserved g c =
    let j = c.loop-lane.lane in
    let low : j < lanes = omega arith in
    let chain : slice_index c.args.batch.now.chains j ≡ c.from-chain.result = sym c.from-chain.ensures in
    let begin = c.gather_places-begin.ensures j low ∙ ap (slice_index c.args.at.now) chain in
    let end = c.added-end.ensures j low in
    let reach = c.requires.reach j low in
    let count : c.from-chain.result < length c.args.to.now = omega (arith, reach.0) in
    let room = c.requires.at_most_265 in
    let far : slice_index c.args.at.now c.from-chain.result + c.args.batch.now.steps ≤ slice_index c.args.to.now c.from-chain.result
    = omega (arith, reach.1, ap (slice_index c.args.at.now) chain, ap (slice_index c.args.to.now) chain) in
    record {
      places = search rules;
      values = search rules;
      ways = λ from values i before. way_further _ _ _ _ _ _ c.from-chain.result _ _
          (omega (arith, c.loop-lane.invariant.places)) (omega (arith, c.loop-lane.invariant.values))
          (omega (arith, begin, end)) (omega (arith, begin, end, far))
          (walk_same _ _ _ _ _ _ _ _ _ _ chain begin (sym (c.added-end.ensures j low))
          (c.gather_values-values.ensures j low ∙ ap (λ k. slice_index_or c.args.ends.now k []) chain) (c.steps_in_lanes-climbed.ensures j low))
          from values i before (c.loop-lane.invariant.ways from values i before);
    }
