use Rattle.std.proofs.Common.{ap, ◌∙◌, arith}
use Rattle.sha2.specs.Sha256.{rounds, schedule}
use Rattle.winternitz.proofs.lanes.rounds.first_four_steps.Goals as goal

pub returns : goal.returns
returns c = λ j low b h window before.
    let after = rounds h (schedule b 48) in
    let one = c.first_step-working.ensures j low b h window before in
    let two = c.first_step-working-2.ensures j low b h window one in
    let three = c.first_step-working-3.ensures j low b h window (two ∙ ap after (omega arith)) in
    c.first_step.ensures j low b h window (three ∙ ap after (omega arith)) ∙ ap after (omega arith)
