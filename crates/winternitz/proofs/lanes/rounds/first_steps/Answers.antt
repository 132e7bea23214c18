use Rattle.std.proofs.Common.{refl}
use Rattle.sha2.specs.Sha256.{rounds}
use Rattle.winternitz.specs.Lanes.{lane_state}
use Rattle.winternitz.proofs.lanes.rounds.first_steps.Goals as goal

pub returns : goal.returns
unfolding rounds
returns c = λ j low b window.
    let h = lane_state c.args.working j in
    let four = c.first_four_steps-working.ensures j low b h window refl in
    let eight = c.first_four_steps-working-2.ensures j low b h window four in
    let twelve = c.first_four_steps-working-3.ensures j low b h window eight in
    c.first_four_steps.ensures j low b h window twelve
