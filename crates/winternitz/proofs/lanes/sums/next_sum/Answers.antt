use Rattle.std.proofs.Common.{arith}
use Rattle.winternitz.specs.Lanes.{lane}
use Rattle.winternitz.proofs.Sums.{sums_next}
use Rattle.winternitz.proofs.lanes.sums.next_sum.Goals as goal

pub returns : goal.returns
returns c = λ j low b before.
    let word = c.next_word-word.ensures in
    sums_next b (lane j c.args.window.now) _ j c.args.turn c.args.place _ c.args.sums.now _ (omega arith) (omega arith) (omega arith) (omega arith)
    before.0 before.1 (word.value j low) (word.window j low) (c.sum_of.ensures j low)
