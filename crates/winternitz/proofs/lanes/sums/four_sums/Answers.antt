use Rattle.std.proofs.Common.{arith}
use Rattle.winternitz.proofs.Sums.{AreSumsAt_at}
use Rattle.winternitz.proofs.lanes.sums.four_sums.Goals as goal

pub returns : goal.returns
returns c = λ j low b before.
    let one = c.next_sum.ensures j low b before in
    let two = c.next_sum-2.ensures j low b one in
    let three = c.next_sum-3.ensures j low b (AreSumsAt_at b j _ _ _ _ (omega arith) two) in
    let four = c.next_sum-4.ensures j low b (AreSumsAt_at b j _ _ _ _ (omega arith) three) in
    AreSumsAt_at b j _ _ _ _ (omega arith) four
