use Rattle.std.proofs.Common.{◌∙◌, [], arith, slice_index_or}
use Rattle.winternitz.proofs.Words.{five_same}
use Rattle.winternitz.proofs.lanes.beginning.first_words.Goals as goal

pub returns-clause-bytes : goal.returns-clause-bytes
returns-clause-bytes c = λ j low.
    five_same (slice_index_or c.loop-lane.words j []) _ _ _ _ _ (c.side_by_side.ensures j low) (c.side_by_side-2.ensures j low) (c.side_by_side-3.ensures j low)
    (c.side_by_side-4.ensures j low) (c.side_by_side-5.ensures j low)
    ∙ (c.loop-lane.invariant.each j (omega arith)).0
