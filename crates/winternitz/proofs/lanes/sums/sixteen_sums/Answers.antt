use Rattle.std.proofs.Common.{arith}
use Rattle.winternitz.proofs.Sums.{AreSumsAt_at}
use Rattle.winternitz.proofs.lanes.sums.sixteen_sums.Goals as goal

pub returns : goal.returns
returns c = λ j low b before.
    let four = c.four_sums.ensures j low b (AreSumsAt_at b j _ _ _ _ (omega arith) before) in
    let eight = c.four_sums-2.ensures j low b four in
    let twelve = c.four_sums-3.ensures j low b eight in
    let sixteen = c.four_sums-4.ensures j low b twelve in
    AreSumsAt_at b j _ _ _ _ (omega arith) sixteen
