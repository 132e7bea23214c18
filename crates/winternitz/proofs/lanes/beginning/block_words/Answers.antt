use Rattle.std.proofs.Common.{◌∙◌, ap, slice_index}
use Rattle.winternitz.specs.Lanes.{lane_at}
use Rattle.winternitz.specs.inner.Lanes.{joined_word}
use Rattle.winternitz.proofs.Words.{tail_words}
use Rattle.winternitz.proofs.lanes.beginning.block_words.Goals as goal

pub returns-clause-rest : goal.returns-clause-rest
returns-clause-rest c = λ j low chain at k chain_low at_low is.
    let first = c.args.first.now in
    let values = c.args.values.now in
    tail_words (lane_at first 0 j) (lane_at first 1 j) (lane_at first 2 j) (lane_at first 3 j) (lane_at first 4 j) _ _ _ _ _ _ _ _ _ _ _
    (slice_index c.args.numbers j) (lane_at values 0 j) (lane_at values 1 j) (lane_at values 2 j) (lane_at values 3 j)
    (lane_at values 4 j) (lane_at values 5 j) (lane_at values 6 j) (lane_at values 7 j) chain at
    (c.shifted_pair.ensures j low) (c.shifted_pair-2.ensures j low) (c.shifted_pair-3.ensures j low) (c.shifted_pair-4.ensures j low) (c.shifted_pair-5.ensures j low)
    (c.shifted_pair-6.ensures j low) (c.shifted_pair-7.ensures j low) (c.shifted_pair-8.ensures j low) (c.shifted_pair-9.ensures j low ∙ ap (joined_word (lane_at values 7 j)) (c.constant.ensures j low))
    (c.constant-2.ensures j low) (c.constant-3.ensures j low) is at_low chain_low k
