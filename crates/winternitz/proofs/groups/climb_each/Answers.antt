use Rattle.std.proofs.Common.{◌<◌, length, arith}
use Rattle.std.proofs.lemmas.List.{get_or-take, length-take-le}
use Rattle.winternitz.proofs.Ways.{way_begun_of, way_finished}
use Rattle.winternitz.proofs.groups.climb_each.Goals as goal

pub climb_together-requires-clause-order : goal.climb_together-requires-clause-order
climb_together-requires-clause-order g c = λ i low.
    let n = length c.args.values.now in
    let count = length-take-le n c.args.to.now c.requires.to in
    let from_count = length-take-le n c.args.from.now c.requires.from in
    let within : i < n = omega arith in
    omega (arith, c.padded_places-at.ensures.each i (omega arith), get_or-take n c.args.from.now i 0 within, get_or-take n c.args.to.now i 0 within, c.requires.order i within)

pub finish_each-requires-clause-order : goal.finish_each-requires-clause-order
finish_each-requires-clause-order g c = λ i low.
    let n = length c.args.values.now in
    let count = length-take-le n c.args.to.now c.requires.to in
    let from_count = length-take-le n c.args.from.now c.requires.from in
    let within : i < n = omega arith in
    let begun = way_begun_of (g.S.Step.step_of c.args.step.now) c.args.from.now c.padded_places-at.result c.args.to.now c.args.values.now c.padded_values-ends.result n i within
    (c.padded_places-at.ensures.each i (omega arith)) (c.padded_values-ends.ensures i within) (c.requires.order i within) in
    let way = c.climb_together.ensures c.args.from.now c.args.values.now i low begun in
    way.within

pub returns : goal.returns
returns g c = λ i low.
    let step = g.S.Step.step_of c.args.step.now in
    let n = length c.args.values.now in
    let from = c.args.from.now in
    let to = c.args.to.now in
    let values = c.args.values.now in
    let count = length-take-le n to c.requires.to in
    let from_count = length-take-le n from c.requires.from in
    let begun = way_begun_of step from c.padded_places-at.result to values c.padded_values-ends.result n i low (c.padded_places-at.ensures.each i (omega arith)) (c.padded_values-ends.ensures i low) (c.requires.order i low) in
    let way = c.climb_together.ensures from values i (omega arith) begun in
    way_finished step from _ to values _ n i _ low way (c.finish_each.ensures i (omega arith))
