use Rattle.std.proofs.Common.{arith}
use Rattle.sha2.proofs.Schedule256.{IsRoundsAt_at}
use Rattle.winternitz.proofs.lanes.rounds.four_steps.Goals as goal

pub returns : goal.returns
returns c = λ j low b h before.
    let one = c.step-working.ensures j low b h before in
    let two = c.step-working-2.ensures j low b h one in
    let three = c.step-working-3.ensures j low b h (IsRoundsAt_at b h _ _ _ _ (omega arith) two) in
    let four = c.step.ensures j low b h (IsRoundsAt_at b h _ _ _ _ (omega arith) three) in
    IsRoundsAt_at b h _ _ _ _ (omega arith) four
