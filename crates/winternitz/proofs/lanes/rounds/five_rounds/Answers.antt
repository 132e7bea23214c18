use Rattle.std.proofs.Common.{refl}
use Rattle.winternitz.specs.Lanes.{lane, lane_state}
use Rattle.winternitz.proofs.Vectors.{rounds_begun, rounds_more}
use Rattle.winternitz.proofs.lanes.rounds.five_rounds.Goals as goal

pub returns : goal.returns
returns c = λ j low.
    let words = c.args.words.now in
    let h = lane_state c.args.working j in
    let none = rounds_begun h (lane j words) in
    let one = rounds_more words h _ j 0 _ _ _ none refl refl (c.round-working.ensures j low) in
    let two = rounds_more words h _ j 1 _ _ _ one refl refl (c.round-working-2.ensures j low) in
    let three = rounds_more words h _ j 2 _ _ _ two refl refl (c.round-working-3.ensures j low) in
    let four = rounds_more words h _ j 3 _ _ _ three refl refl (c.round-working-4.ensures j low) in
    rounds_more words h _ j 4 _ _ _ four refl refl (c.round.ensures j low)
