use Rattle.std.proofs.Common.{arith}
use Rattle.sha2.proofs.Schedule256.{IsRoundsAt_at}
use Rattle.winternitz.proofs.lanes.rounds.sixteen_steps.Goals as goal

pub returns : goal.returns
returns c = λ j low b h before.
    let four = c.four_steps-working.ensures j low b h (IsRoundsAt_at b h _ _ _ _ (omega arith) before) in
    let eight = c.four_steps-working-2.ensures j low b h four in
    let twelve = c.four_steps-working-3.ensures j low b h eight in
    let sixteen = c.four_steps.ensures j low b h twelve in
    IsRoundsAt_at b h _ _ _ _ (omega arith) sixteen
